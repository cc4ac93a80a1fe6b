-- Each edit keeps a state laid out.
use Rattle.std.proofs.Common.{◌≡◌, ◌≢◌, ℕ, ◌*◌, ◌<◌, ◌≤◌, Bool, true, false, cond, List, [], ◌∷◌, ◌++◌, length, Option, Some, None, refl, sym, ap, subst, ◌∙◌, arith, inl, inr, lit<, lit≤}
use Rattle.std.specs.Prelude.{◌||◌, ◌==◌, IfSome}
use Rattle.std.specs.List.{AllByRecursion}
use Rattle.std.specs.Cmp.{nat_cmp_total, tied_itself}
use Rattle.std.specs.Ordering.{nat_cmp, is_eq}
use Rattle.std.specs.FinMap as map
use Rattle.std.proofs.lemmas.Bool.{cases_eq, eq-eqb, ne_eqb, true≢false, false_from_ne_true, or_parts}
use Rattle.std.proofs.lemmas.List.Folds.{list_any-append}
use Rattle.vx_base.proofs.Maps.{apart, at_key, at_other}
use Rattle.vx_layout.specs.Dirs.{IsDir}
use Rattle.vx_extents.specs.Extents.{Mapped}
use Rattle.vx_space.specs.Laws.{IsPart}
use Rattle.vx_space.specs.Space.{Space, no_space, page_blocks, maps_for}
use Rattle.vx_space.specs.Uses.{uses}
use Rattle.vx_model.specs.Legal.{IfThere, with_released}
use Rattle.vx_model.specs.Tree.{HandleKey, Opened, Nodes, Node, File, Directory, IsFile, IsDirectory, new_directory}
use Rattle.vx_model.specs.Layout.{DirectoryBlock, Layout, blocks_at, space_at, maps_at, block_numbers, owned, pages_from, with_blocks, given_up, freed, kept_pending, released}
use Rattle.vx_model.specs.State.{State}
use Rattle.vx_model.specs.Walks.{root}
use Rattle.vx_model.specs.Edits.{with_nodes, set_node, drop_node}
use Rattle.vx_model.specs.Naming.{with_mode}
use Rattle.vx_model.specs.Images.{among}
use Rattle.vx_model.specs.Reads.{entries_from}
use Rattle.vx_model.specs.LaidOut.{Owns, IsOnceUsed, HasNothing, AreAttrs, IsSpaceOf, IsFileOf, IsPlainFile, IsDirectoryOf, IsNodeOf, IsHeld, IsDirectoryNode, IsFileNode, IsClosed, IsLaidOut, entries_of, most_bytes}
use Rattle.vx_model.proofs.Owning.{fewer_once, same_once}
use Rattle.vx_model.proofs.BlockClaims.{IsWhole, HasSame, same_owned, settled_blocks}
use Rattle.vx_model.proofs.Claims.{part_uses, settled_part}
use Rattle.vx_model.proofs.Uses.{not_among, among_uses}

-- ---- maps without a key

pub removed_key : {X : Type 0} (m : map.FinMap nat_cmp X) (k : ℕ) → map.get (map.remove m k) k ≡ None
removed_key m k = map.get-remove nat_cmp_total m k k ∙ ap (λ b. cond b None (map.get m k)) (ap is_eq (tied_itself nat_cmp_total k))

pub removed_other : {X : Type 0} (m : map.FinMap nat_cmp X) (k q : ℕ) → q ≢ k → map.get (map.remove m k) q ≡ map.get m q
removed_other m k q ne = map.get-remove nat_cmp_total m k q ∙ ap (λ b. cond b None (map.get m q)) (apart nat_cmp map.nat_cmp-IsAntisymmetric q k ne)

-- ---- what stands at an inode

pub record IsSameAt (l m : Layout) (n : ℕ) : Type 0 where
  pub blocks : blocks_at m n ≡ blocks_at l n
  pub space : space_at m n ≡ space_at l n
  pub maps : maps_at m n ≡ maps_at l n

pub same_at : (l m : Layout) (n : ℕ) → IsSameAt l m n → HasSame l m n
same_at l m n is = record { numbers = ap block_numbers is.blocks; space = is.space; maps = is.maps }

pub nothing_same : (l m : Layout) (n : ℕ) → IsSameAt l m n → HasNothing l n → HasNothing m n
nothing_same l m n same h = record { none = same_owned l m n (same_at l m n same) ∙ h.none; space = same.space ∙ h.space }

pub file_same : (l m : Layout) (n : ℕ) (f : File) → IsSameAt l m n → IsFileOf l n f → IsFileOf m n f
file_same l m n f same h = record {
  mode = h.mode;
  few_links = h.few_links;
  attrs = h.attrs;
  space = subst (λ (x : Space). IsSpaceOf x (maps_at m n) f) (sym same.space) (subst (λ (ms : List ℕ). IsSpaceOf (space_at l n) ms f) (sym same.maps) h.space);
  no_blocks = same.blocks ∙ h.no_blocks;
}

node_same : (l m : Layout) (n : ℕ) (node : Node) → IsSameAt l m n → m.directory_limit ≡ l.directory_limit → IsNodeOf l n node → IsNodeOf m n node
node_same l m n (IsFile f) same limit h = file_same l m n f same h
node_same l m n (IsDirectory d) same limit h = record {
  mode = h.mode;
  entries = h.entries ∙ ap (λ (ds : List DirectoryBlock). entries_from (entries_of ds)) (sym same.blocks);
  spelled = subst (AllByRecursion (λ (b : DirectoryBlock). IsDir 1024 b.entries)) (sym same.blocks) h.spelled;
  few = subst (λ (k : ℕ). length (blocks_at m n) ≤ k) (sym limit) (subst (λ (ds : List DirectoryBlock). length ds ≤ l.directory_limit) (sym same.blocks) h.few);
  maps = ap (λ (ms : List ℕ). length ms) same.maps ∙ h.maps ∙ ap (λ (ds : List DirectoryBlock). maps_for (pages_from 0 ds)) (sym same.blocks);
  space = same.space ∙ h.space;
}

held_same : (l m : Layout) (n : ℕ) (o : Option Node) → IsSameAt l m n → m.units ≡ l.units → m.directory_limit ≡ l.directory_limit → IsHeld l n o → IsHeld m n o
held_same l m n None same units limit h = nothing_same l m n same h
held_same l m n (Some node) same units limit h = (node_same l m n node same limit h.0, h.1, subst (λ (u : ℕ). n < 128 * u) (sym units) h.2)

-- a node that is there is kept within the units
pub node_held : (s : State) → IsLaidOut s → (n : ℕ) (node : Node) → map.get s.tree.nodes n ≡ Some node → IsNodeOf s.layout n node × (2 ≤ n) × (n < 128 * s.layout.units)
node_held s is n node there = subst (IsHeld s.layout n) there (is.nodes n)

pub nothing_held : (s : State) → IsLaidOut s → (n : ℕ) → map.get s.tree.nodes n ≡ None → HasNothing s.layout n
nothing_held s is n there = subst (IsHeld s.layout n) there (is.nodes n)

-- ---- all that an inode has is on the device

parts_empty : (xs ys : List ℕ) → xs ++ ys ≡ [] → (xs ≡ []) × (ys ≡ [])
parts_empty [] ys h = (refl, h)
parts_empty (x ∷ xs) ys h = absurd cc

no_blocks : (ds : List DirectoryBlock) → block_numbers ds ≡ [] → ds ≡ []
no_blocks [] h = refl
no_blocks (d ∷ ds) h = absurd cc

pub nothing_blocks : (l : Layout) (n : ℕ) → HasNothing l n → (blocks_at l n ≡ []) × (maps_at l n ≡ [])
nothing_blocks l n h =
    let two = parts_empty (block_numbers (blocks_at l n)) (page_blocks (space_at l n).present ++ maps_at l n) h.none in
    (no_blocks (blocks_at l n) two.0, (parts_empty (page_blocks (space_at l n).present) (maps_at l n) two.1).1)

pub nothing_whole : (l : Layout) (n : ℕ) → HasNothing l n → IsWhole l n
nothing_whole l n h =
    let two = nothing_blocks l n h in
    record { space = h.space; maps = ap (λ (ms : List ℕ). length ms) two.1 ∙ ap (λ (ds : List DirectoryBlock). maps_for (pages_from 0 ds)) (sym two.0) }

pub directory_whole : (l : Layout) (n : ℕ) (d : Directory) → IsDirectoryOf l n d → IsWhole l n
directory_whole l n d h = record { space = h.space; maps = h.maps }

-- ---- handles

if_both : (o : Option Opened) (P Q R : Opened → Type 0) → ((x : Opened) → P x → Q x → R x) → IfSome o P → IfSome o Q → IfSome o R
if_both None P Q R both p q = tt
if_both (Some x) P Q R both p q = both x p q

if_more : (o : Option Opened) (P Q : Opened → Type 0) → ((x : Opened) → P x → Q x) → IfSome o P → IfSome o Q
if_more None P Q more p = tt
if_more (Some x) P Q more p = more x p

-- where there was a file, there is one
handled_by : (s : State) → IsLaidOut s → (at : ℕ) (node : Node) → (IfThere (map.get s.tree.nodes at) IsFileNode → IsFileNode node)
    → (key : HandleKey) → IfSome (map.get s.tree.handles key) (λ (o : Opened). IfThere (map.get (map.insert s.tree.nodes at node) o.ino) IsFileNode)
handled_by s is at node file key =
    if_more (map.get s.tree.handles key) (λ (o : Opened). IfThere (map.get s.tree.nodes o.ino) IsFileNode) (λ (o : Opened). IfThere (map.get (map.insert s.tree.nodes at node) o.ino) IsFileNode)
    (λ o there. elim (cases_eq o.ino at) [
      | inl e ↦ subst (λ (k : ℕ). IfThere (map.get (map.insert s.tree.nodes at node) k) IsFileNode) (sym e)
          (subst (λ (x : Option Node). IfThere x IsFileNode) (sym (at_key s.tree.nodes at node)) (file (subst (λ (k : ℕ). IfThere (map.get s.tree.nodes k) IsFileNode) e there)))
      | inr ne ↦ subst (λ (x : Option Node). IfThere x IsFileNode) (sym (at_other s.tree.nodes at node o.ino ne)) there
    ]) (is.handles key)

-- ---- one inode changes

module _ (s : State) (is : IsLaidOut s) (at : ℕ) (nodes : Nodes) (directories : ℕ → List DirectoryBlock) (files : ℕ → Space) (maps : ℕ → List ℕ) (pending : ℕ → Option ℕ) where
  abbrev next_layout : Layout
  next_layout = record s.layout { directories = directories; files = files; maps = maps; pending = pending }

  abbrev next : State
  next = record { tree = with_nodes s.tree nodes; layout = next_layout }

  record IsChange : Type 0 where
    other_nodes : (n : ℕ) → n ≢ at → map.get nodes n ≡ map.get s.tree.nodes n
    others : (n : ℕ) → n ≢ at → IsSameAt s.layout next_layout n
    held : IsHeld next_layout at (map.get nodes at)
    once : IsOnceUsed next_layout
    rooted : IfThere (map.get nodes root) IsDirectoryNode
    handled : (key : HandleKey) → IfSome (map.get s.tree.handles key) (λ (o : Opened). IfThere (map.get nodes o.ino) IsFileNode)

  next_laid : IsChange → IsLaidOut next
  next_laid c = record {
    nodes = λ n. elim (cases_eq n at) [
      | inl e ↦ subst (λ (k : ℕ). IsHeld next_layout k (map.get nodes k)) (sym e) c.held
      | inr ne ↦ subst (IsHeld next_layout n) (sym (c.other_nodes n ne)) (held_same s.layout next_layout n (map.get s.tree.nodes n) (c.others n ne) refl refl (is.nodes n))
    ];
    use_of_blocks = c.once;
    has_root = c.rooted;
    handles = c.handled;
    tunables = is.tunables;
    units = is.units;
    units_limit = is.units_limit;
    log_blocks = is.log_blocks;
    limit = is.limit;
    room = is.room;
  }

rooted_by : (s : State) → IsLaidOut s → (at : ℕ) (node : Node) → (at ≡ root → IsDirectoryNode node) → IfThere (map.get (map.insert s.tree.nodes at node) root) IsDirectoryNode
rooted_by s is at node directory = elim (cases_eq root at) [
  | inl e ↦ subst (λ (k : ℕ). IfThere (map.get (map.insert s.tree.nodes at node) k) IsDirectoryNode) (sym e)
      (subst (λ (o : Option Node). IfThere o IsDirectoryNode) (sym (at_key s.tree.nodes at node)) (directory (sym e)))
  | inr ne ↦ subst (λ (o : Option Node). IfThere o IsDirectoryNode) (sym (at_other s.tree.nodes at node root ne)) is.has_root
]

unchanged : (l : Layout) (n : ℕ) → IsSameAt l l n
unchanged l n = record { blocks = refl; space = refl; maps = refl }

-- a node at an inode whose blocks stay
pub set_laid : (s : State) → IsLaidOut s → (at : ℕ) (node : Node) → IsNodeOf s.layout at node → 2 ≤ at → at < 128 * s.layout.units → (at ≡ root → IsDirectoryNode node)
    → (IfThere (map.get s.tree.nodes at) IsFileNode → IsFileNode node) → IsLaidOut (set_node s at node)
set_laid s is at node kept low high directory file =
    next_laid s is at (map.insert s.tree.nodes at node) s.layout.directories s.layout.files s.layout.maps s.layout.pending (record {
      other_nodes = at_other s.tree.nodes at node;
      others = λ n ne. unchanged s.layout n;
      held = subst (IsHeld s.layout at) (sym (at_key s.tree.nodes at node)) (kept, low, high);
      once = is.use_of_blocks;
      rooted = rooted_by s is at node directory;
      handled = handled_by s is at node file;
    })

-- ---- the blocks of one inode

pub here : {A : Type 0} (at : ℕ) (x y : A) → cond (at == at) x y ≡ x
here at x y = ap (λ t. cond t x y) (eq-eqb at at refl)

pub elsewhere : {A : Type 0} (n at : ℕ) (x y : A) → n ≢ at → cond (n == at) x y ≡ y
elsewhere n at x y ne = ap (λ t. cond t x y) (ne_eqb n at ne)

-- other blocks of one directory, and maybe other map blocks
abbrev pub with_directory : Layout → ℕ → List DirectoryBlock → (ℕ → List ℕ) → Layout
with_directory l at blocks maps = record (with_blocks l at blocks) { maps = maps }

pub others_same : (l : Layout) (at : ℕ) (blocks : List DirectoryBlock) (maps : ℕ → List ℕ) → ((n : ℕ) → n ≢ at → maps n ≡ l.maps n) → (n : ℕ) → n ≢ at → IsSameAt l (with_directory l at blocks maps) n
others_same l at blocks maps same n ne = record { blocks = elsewhere n at blocks (l.directories n) ne; space = refl; maps = same n ne }

pub replaced_laid : (s : State) → IsLaidOut s → (at : ℕ) (d : Directory) (blocks : List DirectoryBlock) (maps : ℕ → List ℕ) → ((n : ℕ) → n ≢ at → maps n ≡ s.layout.maps n)
    → IsDirectoryOf (with_directory s.layout at blocks maps) at d → 2 ≤ at → at < 128 * s.layout.units → IsOnceUsed (with_directory s.layout at blocks maps)
    → (IfThere (map.get s.tree.nodes at) IsFileNode → ⊥)
    → IsLaidOut (record { tree = with_nodes s.tree (map.insert s.tree.nodes at (IsDirectory d)); layout = with_directory s.layout at blocks maps })
replaced_laid s is at d blocks maps same kept low high once no_file =
    let l : Layout = with_directory s.layout at blocks maps in
    next_laid s is at (map.insert s.tree.nodes at (IsDirectory d)) l.directories l.files l.maps l.pending (record {
      other_nodes = at_other s.tree.nodes at (IsDirectory d);
      others = others_same s.layout at blocks maps same;
      held = subst (IsHeld l at) (sym (at_key s.tree.nodes at (IsDirectory d))) (kept, low, high);
      once = once;
      rooted = rooted_by s is at (IsDirectory d) (λ e. tt);
      handled = handled_by s is at (IsDirectory d) (λ file. absurd (no_file file));
    })

-- the blocks keep their numbers
pub same_numbers : (l : Layout) (at : ℕ) (blocks : List DirectoryBlock) → block_numbers blocks ≡ block_numbers (blocks_at l at) → (n : ℕ) → HasSame l (with_blocks l at blocks) n
same_numbers l at blocks same n = elim (cases_eq n at) [
  | inl e ↦ subst (HasSame l (with_blocks l at blocks)) (sym e) (record { numbers = ap block_numbers (here at blocks (l.directories at)) ∙ same; space = refl; maps = refl })
  | inr ne ↦ record { numbers = ap block_numbers (elsewhere n at blocks (l.directories n) ne); space = refl; maps = refl }
]

-- ---- an inode

pub file_set : (s : State) (ino : ℕ) (f : File) → IsLaidOut s → IsFileOf s.layout ino f → ino ≢ root → 2 ≤ ino → ino < 128 * s.layout.units → IsLaidOut (set_node s ino (IsFile f))
file_set s ino f is file ne low high = set_laid s is ino (IsFile f) file low high (λ e. absurd (ne e)) (λ was. tt)

-- a file without bytes, attributes and blocks
pub plain_file : (l : Layout) (ino : ℕ) (f : File) → f.mode ≤ 4095 → f.nlink ≤ 32767 → IsPlainFile f → HasNothing l ino → IsFileOf l ino f
plain_file l ino f mode links plain none =
    let two = nothing_blocks l ino none in
    record {
      mode = mode;
      few_links = links;
      attrs = subst AreAttrs (sym plain.attrs) (record { fixed = lit≤ tt; reserve = lit≤ tt; flags = lit< tt });
      space = subst (λ (x : Space). IsSpaceOf x (maps_at l ino) f) (sym none.space) (subst (λ (ms : List ℕ). IsSpaceOf no_space ms f) (sym two.1) (record {
        settled_rises = tt;
        present_rises = tt;
        part = tt;
        extents = lit≤ tt;
        chain = lit≤ tt;
        few_maps = lit≤ tt;
        settled_size = lit≤ tt;
        size = subst (λ (bytes : List ℕ). length bytes ≤ most_bytes) (sym plain.bytes) (lit≤ tt);
        settled_below = tt;
        present_below = tt;
        lasting = tt;
      }));
      no_blocks = two.0;
    }

-- a directory without a name has no block
empty_directory : (l : Layout) (n mode : ℕ) → mode ≤ 4095 → HasNothing l n → IsNodeOf l n (new_directory mode)
empty_directory l n mode fits h =
    let two = nothing_blocks l n h in
    let whole = nothing_whole l n h in
    record {
      mode = fits;
      entries = ap (λ (ds : List DirectoryBlock). entries_from (entries_of ds)) (sym two.0);
      spelled = subst (AllByRecursion (λ (b : DirectoryBlock). IsDir 1024 b.entries)) (sym two.0) tt;
      few = (let none : length (blocks_at l n) ≡ 0 = ap (λ (ds : List DirectoryBlock). length ds) two.0 in omega (arith, none));
      maps = whole.maps;
      space = h.space;
    }

pub directory_set : (s : State) (ino mode : ℕ) → IsLaidOut s → mode ≤ 4095 → 2 ≤ ino → ino < 128 * s.layout.units → map.get s.tree.nodes ino ≡ None → IsLaidOut (set_node s ino (new_directory mode))
directory_set s ino mode is fits low high unused = set_laid s is ino (new_directory mode) (empty_directory s.layout ino mode fits (nothing_held s is ino unused)) low high (λ e. tt)
    (λ was. absurd (subst (λ (o : Option Node). IfThere o IsFileNode) unused was))

-- neither the mode nor the link number says anything of the space
space_kept : (x : Space) (maps : List ℕ) (f : File) (mode nlink : ℕ) → IsSpaceOf x maps f → IsSpaceOf x maps (record f { mode = mode; nlink = nlink })
space_kept x maps f mode nlink h = record {
  settled_rises = h.settled_rises;
  present_rises = h.present_rises;
  part = h.part;
  extents = h.extents;
  chain = h.chain;
  few_maps = h.few_maps;
  settled_size = h.settled_size;
  size = h.size;
  settled_below = h.settled_below;
  present_below = h.present_below;
  lasting = h.lasting;
}

mode_kept : (l : Layout) (n : ℕ) (node : Node) (mode : ℕ) → mode ≤ 4095 → IsNodeOf l n node → IsNodeOf l n (with_mode mode node)
mode_kept l n (IsFile f) mode fits kept = record {
  mode = fits;
  few_links = kept.few_links;
  attrs = kept.attrs;
  space = space_kept (space_at l n) (maps_at l n) f mode f.nlink kept.space;
  no_blocks = kept.no_blocks;
}
mode_kept l n (IsDirectory d) mode fits kept = record { mode = fits; entries = kept.entries; spelled = kept.spelled; few = kept.few; maps = kept.maps; space = kept.space }

pub links_set : (l : Layout) (n nlink : ℕ) (f : File) → IsFileOf l n f → nlink ≤ 32767 → IsFileOf l n (record f { nlink = nlink })
links_set l n nlink f is few = record { mode = is.mode; few_links = few; attrs = is.attrs; space = space_kept (space_at l n) (maps_at l n) f f.mode nlink is.space; no_blocks = is.no_blocks }

mode_directory : (node : Node) (mode : ℕ) → IsDirectoryNode node → IsDirectoryNode (with_mode mode node)
mode_directory (IsFile f) mode h = h
mode_directory (IsDirectory d) mode h = tt

mode_file : (node : Node) (mode : ℕ) → IsFileNode node → IsFileNode (with_mode mode node)
mode_file (IsFile f) mode h = tt
mode_file (IsDirectory d) mode h = h

root_is : (s : State) → IsLaidOut s → (n : ℕ) (node : Node) → map.get s.tree.nodes n ≡ Some node → n ≡ root → IsDirectoryNode node
root_is s is n node there e = subst (λ (o : Option Node). IfThere o IsDirectoryNode) (ap (map.get s.tree.nodes) (sym e) ∙ there) is.has_root

pub mode_set : (s : State) (ino mode : ℕ) (node : Node) → IsLaidOut s → mode ≤ 4095 → map.get s.tree.nodes ino ≡ Some node → IsLaidOut (set_node s ino (with_mode mode node))
mode_set s ino mode node is fits there =
    let held = node_held s is ino node there in
    set_laid s is ino (with_mode mode node) (mode_kept s.layout ino node mode fits held.0) held.1 held.2 (λ e. mode_directory node mode (root_is s is ino node there e))
    (λ was. mode_file node mode (subst (λ (o : Option Node). IfThere o IsFileNode) there was))

-- ---- an inode that goes

not_part : (xs ys : List Mapped) (b : ℕ) → IsPart xs ys → among (page_blocks ys) b ≡ false → among (page_blocks xs) b ≡ false
not_part xs ys b part none =
    let few = part_uses xs ys part b in
    let zero_uses = not_among (page_blocks ys) b none in
    false_from_ne_true (among (page_blocks xs) b) (λ there. let some = among_uses (page_blocks xs) b there in absurd (omega (arith, few, zero_uses, some)))

-- what it gives up it has
pub gives_owned : (l : Layout) (n b : ℕ) → IsPart (space_at l n).settled (space_at l n).present → among (owned l n) b ≡ false → among (given_up l n) b ≡ false
gives_owned l n b part h =
    let ns : List ℕ = block_numbers (blocks_at l n) in
    let x : Space = space_at l n in
    let two = or_parts (among ns b) (among (page_blocks x.present ++ maps_at l n) b) (sym (list_any-append (λ y. b == y) ns (page_blocks x.present ++ maps_at l n)) ∙ h) in
    let rest = or_parts (among (page_blocks x.present) b) (among (maps_at l n) b) (sym (list_any-append (λ y. b == y) (page_blocks x.present) (maps_at l n)) ∙ two.1) in
    let pages : among (ns ++ page_blocks x.settled) b ≡ false = list_any-append (λ y. b == y) ns (page_blocks x.settled) ∙ (λ i. two.0 i || not_part x.settled x.present b part rest.0 i) in
    ap (λ (bs : List ℕ). among (bs ++ maps_at l n) b) (settled_blocks l n)
    ∙ list_any-append (λ y. b == y) (ns ++ page_blocks x.settled) (maps_at l n) ∙ (λ i. pages i || rest.1 i)

module _ (l : Layout) (place ino : ℕ) where
  pub freed_others : (n : ℕ) → n ≢ ino → IsSameAt l (freed l place ino) n
  freed_others n ne = record { blocks = elsewhere n ino [] (l.directories n) ne; space = elsewhere n ino no_space (l.files n) ne; maps = elsewhere n ino [] (l.maps n) ne }

  pub freed_nothing : HasNothing (freed l place ino) ino
  freed_nothing = record {
    none = ap (λ (t : Bool). block_numbers (cond t [] (l.directories ino)) ++ (page_blocks (cond t no_space (l.files ino)).present ++ cond t [] (l.maps ino))) (eq-eqb ino ino refl);
    space = here ino no_space (l.files ino);
  }

  freed_owned : (n b : ℕ) → Owns (freed l place ino) n b → (n ≢ ino) × Owns l n b
  freed_owned n b owns = elim (cases_eq n ino) [
    | inl e ↦ absurd (true≢false (sym (subst (λ (k : ℕ). Owns (freed l place ino) k b) e owns) ∙ ap (λ (xs : List ℕ). among xs b) freed_nothing.none))
    | inr ne ↦ (ne, subst (λ (xs : List ℕ). among xs b ≡ true) (same_owned l (freed l place ino) n (same_at l (freed l place ino) n (freed_others n ne))) owns)
  ]

  freed_fewer : (n b : ℕ) → uses (owned (freed l place ino) n) b ≤ uses (owned l n) b
  freed_fewer n b = elim (cases_eq n ino) [
    | inl e ↦ (let none : uses (owned (freed l place ino) n) b ≡ 0 = ap (λ (k : ℕ). uses (owned (freed l place ino) k) b) e ∙ ap (λ (xs : List ℕ). uses xs b) freed_nothing.none in omega (arith, none))
    | inr ne ↦
        let same : uses (owned (freed l place ino) n) b ≡ uses (owned l n) b = ap (λ (xs : List ℕ). uses xs b) (same_owned l (freed l place ino) n (same_at l (freed l place ino) n (freed_others n ne))) in
        omega (arith, same)
  ]

  freed_once : IsPart (space_at l ino).settled (space_at l ino).present → IsOnceUsed l → IsOnceUsed (freed l place ino)
  freed_once part is = fewer_once l (freed l place ino) refl freed_fewer is (λ n b owns.
      let had = freed_owned n b owns in
      let other : among (owned l ino) b ≡ false = false_from_ne_true (among (owned l ino) b) (λ k. had.0 (is.once n ino b had.1 k)) in
      ap (λ (t : Bool). cond t (Some place) (l.pending b)) (gives_owned l ino b part other) ∙ is.not_pending n b had.1)

pub dropped : (s : State) (place ino : ℕ) → IsLaidOut s → ino ≢ root → IsClosed s.tree ino → IsLaidOut (drop_node s place ino)
dropped s place ino is ne closed =
    let l : Layout = freed s.layout place ino in
    next_laid s is ino (map.remove s.tree.nodes ino) l.directories l.files l.maps l.pending (record {
      other_nodes = removed_other s.tree.nodes ino;
      others = freed_others s.layout place ino;
      held = subst (IsHeld l ino) (sym (removed_key s.tree.nodes ino)) (freed_nothing s.layout place ino);
      once = freed_once s.layout place ino (settled_part s is ino) is.use_of_blocks;
      rooted = subst (λ (o : Option Node). IfThere o IsDirectoryNode) (sym (removed_other s.tree.nodes ino root (λ e. ne (sym e)))) is.has_root;
      handled = λ key. if_both (map.get s.tree.handles key) (λ (o : Opened). o.ino ≢ ino) (λ (o : Opened). IfThere (map.get s.tree.nodes o.ino) IsFileNode)
          (λ (o : Opened). IfThere (map.get (map.remove s.tree.nodes ino) o.ino) IsFileNode)
          (λ o other there. subst (λ (x : Option Node). IfThere x IsFileNode) (sym (removed_other s.tree.nodes ino o.ino other)) there) (closed key) (is.handles key);
    })

-- ---- the blocks that wait

pub released_laid : (s : State) (upto : ℕ) → IsLaidOut s → IsLaidOut (with_released s upto)
released_laid s upto is = record {
  nodes = λ n. held_same s.layout (released s.layout upto) n (map.get s.tree.nodes n) (record { blocks = refl; space = refl; maps = refl }) refl refl (is.nodes n);
  use_of_blocks = same_once s.layout (released s.layout upto) refl (λ n. refl) (λ b none. ap (kept_pending upto) none) is.use_of_blocks;
  has_root = is.has_root;
  handles = is.handles;
  tunables = is.tunables;
  units = is.units;
  units_limit = is.units_limit;
  log_blocks = is.log_blocks;
  limit = is.limit;
  room = is.room;
}
