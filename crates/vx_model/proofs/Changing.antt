-- One file changes, and the state stays laid out.
use Rattle.std.proofs.Common.{◌≡◌, ◌≢◌, ℕ, ◌+◌, ◌*◌, ◌<◌, ◌≤◌, false, cond, List, ◌++◌, length, Option, Some, None, inl, inr, refl, sym, ap, ◌∙◌, subst, arith}
use Rattle.std.specs.Prelude.{IfSome}
use Rattle.std.specs.List.{AllByRecursion}
use Rattle.std.specs.FinMap as map
use Rattle.std.proofs.lemmas.Bool.{cases_Bool, cases_eq, eq-eqb, ne_eqb}
use Rattle.vx_layout.specs.Dirs.{IsDir}
use Rattle.vx_extents.specs.Extents.{Mapped}
use Rattle.vx_space.specs.Space.{Space, page_blocks, maps_for}
use Rattle.vx_space.specs.Placing.{Filling}
use Rattle.vx_space.specs.Uses.{uses, IsGrown}
use Rattle.vx_model.specs.Legal.{IfThere}
use Rattle.vx_model.specs.Tree.{Nodes, Node, File, IsFile, IsDirectory, HandleKey, Handles, Opened}
use Rattle.vx_model.specs.Layout.{DirectoryBlock, Layout, blocks_at, space_at, maps_at, block_numbers, owned, is_free, pages_from, with_space, with_maps, pended}
use Rattle.vx_model.specs.State.{State}
use Rattle.vx_model.specs.Walks.{root}
use Rattle.vx_model.specs.Edits.{with_nodes}
use Rattle.vx_model.specs.Images.{among}
use Rattle.vx_model.specs.Reads.{entries_from}
use Rattle.vx_model.specs.LaidOut.{Owns, IsOnceUsed, IsFileOf, IsSpaceOf, AreAttrs, IsNodeOf, IsHeld, IsDirectoryNode, IsFileNode, IsLaidOut, entries_of}
use Rattle.vx_model.proofs.Owning.{grown_once}
use Rattle.vx_model.proofs.Uses.{uses_append, is_among, among_uses}
use Rattle.vx_model.specs.Opened.{with_handles}

-- ---- what stands at an inode that does not change

pub record IsSameAt (l m : Layout) (n : ℕ) : Type 0 where
  pub blocks : blocks_at m n ≡ blocks_at l n
  pub space : space_at m n ≡ space_at l n
  pub maps : maps_at m n ≡ maps_at l n

pub owned_same : (l m : Layout) (n : ℕ) → IsSameAt l m n → owned m n ≡ owned l n
owned_same l m n same = λ i. block_numbers (same.blocks i) ++ (page_blocks (same.space i).present ++ same.maps i)

node_same : (l m : Layout) (n : ℕ) (node : Node) → IsSameAt l m n → m.directory_limit ≡ l.directory_limit → IsNodeOf l n node → IsNodeOf m n node
node_same l m n (IsFile f) same limit h = record {
  mode = h.mode;
  few_links = h.few_links;
  attrs = h.attrs;
  space = subst (λ (ms : List ℕ). IsSpaceOf (space_at m n) ms f) (sym same.maps) (subst (λ (x : Space). IsSpaceOf x (maps_at l n) f) (sym same.space) h.space);
  no_blocks = same.blocks ∙ h.no_blocks;
}
node_same l m n (IsDirectory d) same limit h = record {
  mode = h.mode;
  entries = h.entries ∙ ap (λ (ds : List DirectoryBlock). entries_from (entries_of ds)) (sym same.blocks);
  spelled = subst (AllByRecursion (λ (b : DirectoryBlock). IsDir 1024 b.entries)) (sym same.blocks) h.spelled;
  few = subst (λ (k : ℕ). length (blocks_at m n) ≤ k) (sym limit) (subst (λ (ds : List DirectoryBlock). length ds ≤ l.directory_limit) (sym same.blocks) h.few);
  maps = ap (λ (ms : List ℕ). length ms) same.maps ∙ h.maps ∙ ap (λ (ds : List DirectoryBlock). maps_for (pages_from 0 ds)) (sym same.blocks);
  space = same.space ∙ h.space;
}

held_same : (l m : Layout) (n : ℕ) (o : Option Node) → IsSameAt l m n → m.units ≡ l.units → m.directory_limit ≡ l.directory_limit → IsHeld l n o → IsHeld m n o
held_same l m n None same units limit h = record { none = owned_same l m n same ∙ h.none; space = same.space ∙ h.space }
held_same l m n (Some node) same units limit h = (node_same l m n node same limit h.0, h.1, subst (λ (u : ℕ). n < 128 * u) (sym units) h.2)

-- ---- one file changes

-- a file has this space and these map blocks, and these blocks wait
abbrev pub changed : Layout → ℕ → Space → List ℕ → (ℕ → Option ℕ) → Layout
changed l at x maps pending = record (with_maps (with_space l at x) at maps) { pending = pending }

module _ (l : Layout) (at : ℕ) (x : Space) (maps : List ℕ) (pending : ℕ → Option ℕ) where
  abbrev now : Layout
  now = changed l at x maps pending

  pub space_here : space_at now at ≡ x
  space_here = ap (λ t. cond t x (l.files at)) (eq-eqb at at refl)

  pub maps_here : maps_at now at ≡ maps
  maps_here = ap (λ t. cond t maps (l.maps at)) (eq-eqb at at refl)

  pub elsewhere : (n : ℕ) → n ≢ at → IsSameAt l now n
  elsewhere n ne = record { blocks = refl; space = ap (λ t. cond t x (l.files n)) (ne_eqb n at ne); maps = ap (λ t. cond t maps (l.maps n)) (ne_eqb n at ne) }

  pub owned_here : owned now at ≡ block_numbers (blocks_at l at) ++ (page_blocks x.present ++ maps)
  owned_here = λ i. block_numbers (blocks_at l at) ++ (page_blocks (space_here i).present ++ maps_here i)

-- the file at an inode, as it is held
pub file_held : (s : State) → IsLaidOut s → (at : ℕ) (f : File) → map.get s.tree.nodes at ≡ Some (IsFile f) → IsFileOf s.layout at f × (2 ≤ at) × (at < 128 * s.layout.units)
file_held s is at f there = subst (IsHeld s.layout at) there (is.nodes at)

module _ (s : State) (is : IsLaidOut s) (at : ℕ) (was : File) (there : map.get s.tree.nodes at ≡ Some (IsFile was)) where
  pub not_root : root ≢ at
  not_root e =
      let found : map.get s.tree.nodes root ≡ Some (IsFile was) = ap (map.get s.tree.nodes) e ∙ there in
      subst (λ (o : Option Node). IfThere o IsDirectoryNode) found is.has_root

  module _ (nodes : Nodes) (f : File) (here : map.get nodes at ≡ Some (IsFile f)) (others : (n : ℕ) → n ≢ at → map.get nodes n ≡ map.get s.tree.nodes n)
      (x : Space) (maps : List ℕ) (pending : ℕ → Option ℕ) where
    abbrev next_layout : Layout
    next_layout = changed s.layout at x maps pending

    abbrev next : State
    next = record { tree = with_nodes s.tree nodes; layout = next_layout }

    still_file : (n : ℕ) → IfThere (map.get s.tree.nodes n) IsFileNode → IfThere (map.get nodes n) IsFileNode
    still_file n h = elim (cases_eq n at) [
      | inl e ↦ subst (λ (o : Option Node). IfThere o IsFileNode) (sym (ap (map.get nodes) e ∙ here)) tt
      | inr ne ↦ subst (λ (o : Option Node). IfThere o IsFileNode) (sym (others n ne)) h
    ]

    still_open : (o : Option Opened) → IfSome o (λ (o : Opened). IfThere (map.get s.tree.nodes o.ino) IsFileNode) → IfSome o (λ (o : Opened). IfThere (map.get nodes o.ino) IsFileNode)
    still_open None h = tt
    still_open (Some o) h = still_file o.ino h

    pub file_changed : f.mode ≤ 4095 → f.nlink ≤ 32767 → AreAttrs f.attrs → IsSpaceOf x maps f → IsOnceUsed next_layout → IsLaidOut next
    file_changed mode links attrs space once =
        let held = file_held s is at was there in
        let now_held : IsFileOf next_layout at f = record {
          mode = mode;
          few_links = links;
          attrs = attrs;
          space = subst (λ (ms : List ℕ). IsSpaceOf (space_at next_layout at) ms f) (sym (maps_here s.layout at x maps pending)) (subst (λ (y : Space). IsSpaceOf y maps f) (sym (space_here s.layout at x maps pending)) space);
          no_blocks = held.0.no_blocks;
        } in
        record {
          nodes = λ n. elim (cases_eq n at) [
            | inl e ↦ subst (λ (k : ℕ). IsHeld next_layout k (map.get nodes k)) (sym e) (subst (IsHeld next_layout at) (sym here) (now_held, held.1, held.2))
            | inr ne ↦ subst (IsHeld next_layout n) (sym (others n ne)) (held_same s.layout next_layout n (map.get s.tree.nodes n) (elsewhere s.layout at x maps pending n ne) refl refl (is.nodes n))
          ];
          use_of_blocks = once;
          has_root = subst (λ (o : Option Node). IfThere o IsDirectoryNode) (sym (others root not_root)) is.has_root;
          handles = λ key. still_open (map.get s.tree.handles key) (is.handles key);
          tunables = is.tunables;
          units = is.units;
          units_limit = is.units_limit;
          log_blocks = is.log_blocks;
          limit = is.limit;
          room = is.room;
        }

-- ---- handles change

pub handles_changed : (s : State) (handles : Handles) → IsLaidOut s → ((key : HandleKey) → IfSome (map.get handles key) (λ (o : Opened). IfThere (map.get s.tree.nodes o.ino) IsFileNode)) → IsLaidOut (with_handles s handles)
handles_changed s handles is open_files = record {
  nodes = is.nodes;
  use_of_blocks = is.use_of_blocks;
  has_root = is.has_root;
  handles = open_files;
  tunables = is.tunables;
  units = is.units;
  units_limit = is.units_limit;
  log_blocks = is.log_blocks;
  limit = is.limit;
  room = is.room;
}

-- ---- a file gets free blocks

module _ (l : Layout) (is : IsOnceUsed l) (at : ℕ) (x : Space) (g : Filling) (low : at < 128 * l.units) where
  pub filled_once : IsGrown (record { free = is_free l; pages = (space_at l at).present; maps = maps_at l at }) g → x.present ≡ g.pages → IsOnceUsed (changed l at x g.maps l.pending)
  filled_once grown pages =
      grown_once l is (changed l at x g.maps l.pending) at refl low (λ b. refl) (λ n ne. owned_same l (changed l at x g.maps l.pending) n (elsewhere l at x g.maps l.pending n ne)) more
    where
      more : (b : ℕ) → uses (owned (changed l at x g.maps l.pending) at) b ≤ cond (is_free l b) 1 0 + uses (owned l at) b
      more b =
          let names : List ℕ = block_numbers (blocks_at l at) in
          let now : uses (owned (changed l at x g.maps l.pending) at) b ≡ uses (names ++ (page_blocks g.pages ++ g.maps)) b =
          ap (λ (bs : List ℕ). uses bs b) (owned_here l at x g.maps l.pending) ∙ ap (λ (ms : List Mapped). uses (names ++ (page_blocks ms ++ g.maps)) b) pages in
          let new = uses_append names (page_blocks g.pages ++ g.maps) b in
          let old = uses_append names (page_blocks (space_at l at).present ++ maps_at l at) b in
          let kept = grown.purposes_kept b in
          omega (arith, now, new, old, kept)

-- ---- a file gives blocks up

module _ (l : Layout) (is : IsOnceUsed l) (at : ℕ) (x : Space) (maps : List ℕ) (place : ℕ) (gone : List ℕ)
    (less : (b : ℕ) → uses (page_blocks x.present) b + uses maps b + uses gone b ≤ uses (page_blocks (space_at l at).present) b + uses (maps_at l at) b) where
  abbrev after : Layout
  after = changed l at x maps (pended place gone l.pending)

  abbrev names : List ℕ
  names = block_numbers (blocks_at l at)

  fewer_here : (b : ℕ) → uses (owned after at) b + uses gone b ≤ uses (owned l at) b
  fewer_here b =
      let here : uses (owned after at) b ≡ uses (names ++ (page_blocks x.present ++ maps)) b = ap (λ (bs : List ℕ). uses bs b) (owned_here l at x maps (pended place gone l.pending)) in
      let new = uses_append names (page_blocks x.present ++ maps) b in
      let new_rest = uses_append (page_blocks x.present) maps b in
      let old = uses_append names (page_blocks (space_at l at).present ++ maps_at l at) b in
      let old_rest = uses_append (page_blocks (space_at l at).present) (maps_at l at) b in
      let few = less b in
      omega (arith, here, new, new_rest, old, old_rest, few)

  fewer : (n b : ℕ) → uses (owned after n) b ≤ uses (owned l n) b
  fewer n b = elim (cases_eq n at) [
    | inl e ↦ subst (λ (k : ℕ). uses (owned after k) b ≤ uses (owned l k) b) (sym e) (let all = fewer_here b in omega (arith, all))
    | inr ne ↦ (let same : uses (owned after n) b ≡ uses (owned l n) b = ap (λ (bs : List ℕ). uses bs b) (owned_same l after n (elsewhere l at x maps (pended place gone l.pending) n ne)) in omega (arith, same))
  ]

  had : (n b : ℕ) → Owns after n b → Owns l n b
  had n b owns = let some = among_uses (owned after n) b owns in let few = fewer n b in is_among (owned l n) b (omega (arith, some, few))

  -- a block that is still there did not go
  not_gone : (n b : ℕ) → Owns after n b → among gone b ≡ false
  not_gone n b owns = elim (cases_Bool (among gone b)) [
    | inl went ↦
        let some = among_uses gone b went in
        let all = fewer_here b in
        let was : Owns l at b = is_among (owned l at) b (omega (arith, some, all)) in
        let e : n ≡ at = is.once n at b (had n b owns) was in
        let still = among_uses (owned after at) b (subst (λ (m : ℕ). Owns after m b) e owns) in
        let once = is.apart at b in
        absurd (omega (arith, some, all, still, once))
    | inr stayed ↦ stayed
  ]

  pub less_once : IsOnceUsed after
  less_once = record {
    once = λ n m b p q. is.once n m b (had n b p) (had m b q);
    apart = λ n b. (let few = fewer n b in let once = is.apart n b in omega (arith, few, once));
    data_blocks = λ n b owns. is.data_blocks n b (had n b owns);
    not_pending = λ n b owns. ap (λ t. cond t (Some place) (l.pending b)) (not_gone n b owns) ∙ is.not_pending n b (had n b owns);
    low = λ n b owns. is.low n b (had n b owns);
  }
