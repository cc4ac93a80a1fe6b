-- A block that held metadata waits before it may hold bytes.
use Rattle.std.proofs.Common.{rules, ◌≡◌, ℕ, ◌-◌, ◌*◌, Bool, true, false, cond, List, [], ◌∷◌, ◌++◌, map, length, Option, Some, None, Ok, Err, refl, sym, ap, subst, ◌∙◌, inl, inr}
use Rattle.std.specs.Prelude.{◌⊎◌, ◌+◌, ◌<◌, ◌||◌, IfSome, IsTrue, ◌==◌, is_none, nat_le, nat_lt}
use Rattle.std.specs.FinMap as map
use Rattle.std.proofs.lemmas.Bool.{eqb-true, ltb-true}
use Rattle.vx_base.specs.Paths.{FileName}
use Rattle.vx_base.specs.declared.call.Call.{Call}
use Rattle.vx_base.specs.declared.call.Call.TheVariants as call
use Rattle.vx_base.specs.declared.inode.DirEntry.{DirEntry}
use Rattle.vx_base.specs.declared.refusal.Refusal.TheVariants as no
use Rattle.vx_layout.specs.Places.{Volume, is_data}
use Rattle.vx_extents.specs.Extents.{Mapped}
use Rattle.vx_space.specs.Space.{page_blocks}
use Rattle.vx_space.specs.Placing.{Filling}
use Rattle.vx_model.specs.Outcome.{Maybe, ◌>>=◌}
use Rattle.vx_model.specs.Tree.{Tree, Node, File, Directory, IsFile, IsDirectory}
use Rattle.vx_model.specs.Layout.{DirectoryBlock, Layout, volume, blocks_at, block_numbers, maps_at, space_at, pages_from, settled_at, has_room, behind, with_entry, with_blocks, block_of_page, next_block, with_last, with_new_block, filled_or_new, add_entry, without_name, pended, given_up, freed, kept_pending}
use Rattle.vx_model.specs.State.{State, Done, settled}
use Rattle.vx_model.specs.Walks.{directory_at, file_at}
use Rattle.vx_model.specs.Edits.{with_nodes, with_name, add_name, add_name_in, remove_name, remove_name_in, set_node, drop_node}
use Rattle.vx_model.specs.Entering.{Entry}
use Rattle.vx_model.specs.Making.{make_as, create, mkdir}
use Rattle.vx_model.specs.Removing.{fine, is_last, unlinked, unlink_file, unlink, remove_empty, rmdir}
use Rattle.vx_model.specs.Linking.{most_links, link_in, link}
use Rattle.vx_model.specs.Moving.{Move, enter, cleared, replace_directory, replace_file, replace_by, move_onto, rename}
use Rattle.vx_model.specs.Naming.{list, stat, chmod}
use Rattle.vx_model.specs.Step.{step}
use Rattle.vx_model.specs.Legal.{with_released}
use Rattle.vx_model.specs.LaidOut.{HoldsData, named}
use Rattle.vx_model.specs.Waiting.{IsNamed, Waits}
use Rattle.vx_model.specs.Images.{among}
use Rattle.vx_model.proofs.FileStep.{file_step}
use Rattle.vx_model.proofs.Chains.{Always, bind_always, where_holds, then_always, ok_always}
use Rattle.vx_model.proofs.NextBlock.{IsNext, next_is}
use Rattle.vx_model.proofs.Numbers.{either, in_left, in_right}

-- ---- the blocks of one inode

-- no block of these is missing
abbrev Grows : List ℕ → List ℕ → Type 0
Grows old new = (b : ℕ) → among old b ≡ true → among new b ≡ true

abbrev SameNumbers : List DirectoryBlock → Option (List DirectoryBlock) → Type 0
SameNumbers old new = IfSome new (λ (blocks : List DirectoryBlock). block_numbers blocks ≡ block_numbers old)

behind_same : (d : DirectoryBlock) (ds : List DirectoryBlock) (o : Option (List DirectoryBlock)) → SameNumbers ds o → SameNumbers (d ∷ ds) (behind d o)
behind_same d ds None h = tt
behind_same d ds (Some more) h = ap (λ ns. d.block ∷ ns) h

entry_by : (d : DirectoryBlock) (ds : List DirectoryBlock) (e : DirEntry) (t : Bool) → SameNumbers (d ∷ ds) (behind d (with_entry ds e))
    → SameNumbers (d ∷ ds) (cond t (Some (record d { entries = d.entries ++ e ∷ [] } ∷ ds)) (behind d (with_entry ds e)))
entry_by d ds e true h = refl
entry_by d ds e false h = h

entry_same : (ds : List DirectoryBlock) (e : DirEntry) → SameNumbers ds (with_entry ds e)
entry_same [] e = tt
entry_same (d ∷ ds) e = entry_by d ds e (has_room d e) (behind_same d ds (with_entry ds e) (entry_same ds e))

without_same : (name : FileName) (ds : List DirectoryBlock) → block_numbers (map (without_name name) ds) ≡ block_numbers ds
without_same name [] = refl
without_same name (d ∷ ds) = ap (λ ns. d.block ∷ ns) (without_same name ds)

pushed_numbers : (ds : List DirectoryBlock) (d : DirectoryBlock) → block_numbers (ds ++ d ∷ []) ≡ block_numbers ds ++ d.block ∷ []
pushed_numbers [] d = refl
pushed_numbers (x ∷ ds) d = ap (λ ns. x.block ∷ ns) (pushed_numbers ds d)

-- ---- what held metadata does so still

kept_by : (l : Layout) (ino n b : ℕ) (blocks : List DirectoryBlock) (maps : List ℕ) (t : Bool) → (n == ino) ≡ t → Grows (named l ino) (block_numbers blocks ++ maps)
    → among (named l n) b ≡ true → among (block_numbers (cond t blocks (l.directories n)) ++ cond t maps (l.maps n)) b ≡ true
kept_by l ino n b blocks maps true is more h = more b (subst (λ (k : ℕ). among (named l k) b ≡ true) (eqb-true n ino is) h)
kept_by l ino n b blocks maps false is more h = h

abbrev LayoutWaits : ℕ → State → Tree → Layout → Type 0
LayoutWaits place s tree layout = Waits place s (record { tree = tree; layout = layout })

-- a block more, and map blocks behind those that were there
grows_with : (ds : List DirectoryBlock) (d : DirectoryBlock) (maps more now : List ℕ) → now ≡ maps ++ more → Grows (block_numbers ds ++ maps) (block_numbers (ds ++ d ∷ []) ++ now)
grows_with ds d maps more now is b h = elim (either (block_numbers ds) maps b h) [
  | inl there ↦
      in_left (block_numbers (ds ++ d ∷ [])) now b (ap (λ ns. among ns b) (pushed_numbers ds d) ∙ in_left (block_numbers ds) (d.block ∷ []) b there)
  | inr there ↦ in_right (block_numbers (ds ++ d ∷ [])) now b (ap (λ ns. among ns b) is ∙ in_left maps more b there)
]

-- one directory has a block more
grown_waits : (place : ℕ) (s : State) (tree : Tree) (ino : ℕ) (e : DirEntry) (f : Filling) → IsNext s.layout ino f → LayoutWaits place s tree (with_last s.layout ino e f)
grown_waits place s tree ino e f next = record {
  same_volume = refl;
  same_device = refl;
  named = λ b h. inl (h.0, kept_by s.layout ino h.0 b (blocks_at s.layout ino ++ last ∷ []) f.maps (h.0 == ino) refl (grows_with (blocks_at s.layout ino) last (maps_at s.layout ino) next.more f.maps next.maps) h.1);
  pending = λ b. inl refl;
}
  where
    last : DirectoryBlock
    last = record { block = block_of_page f.pages (length (blocks_at s.layout ino)); entries = e ∷ [] }

numbers_by : (l : Layout) (ino n b : ℕ) (blocks : List DirectoryBlock) (t : Bool) → (n == ino) ≡ t → block_numbers blocks ≡ block_numbers (blocks_at l ino)
    → among (named l n) b ≡ true → among (block_numbers (cond t blocks (l.directories n)) ++ l.maps n) b ≡ true
numbers_by l ino n b blocks true is same h =
    ap (λ (bs : List ℕ). among (bs ++ l.maps n) b) (same ∙ ap (λ (k : ℕ). block_numbers (blocks_at l k)) (sym (eqb-true n ino is))) ∙ h
numbers_by l ino n b blocks false is same h = h

-- one directory has other entries in the same blocks
same_waits : (place : ℕ) (s : State) (tree : Tree) (ino : ℕ) (blocks : List DirectoryBlock) → block_numbers blocks ≡ block_numbers (blocks_at s.layout ino) → LayoutWaits place s tree (with_blocks s.layout ino blocks)
same_waits place s tree ino blocks same = record {
  same_volume = refl;
  same_device = refl;
  named = λ b h. inl (h.0, numbers_by s.layout ino h.0 b blocks (h.0 == ino) refl same h.1);
  pending = λ b. inl refl;
}

-- ---- one edit after another

pub waits_same : (place : ℕ) (s new : State) → new.layout ≡ s.layout → Waits place s new
waits_same place s new is = record {
  same_volume = ap volume is;
  same_device = ap (λ (l : Layout). l.device_sectors) is;
  named = λ b h. inl (h.0, ap (λ l. among (named l h.0) b) is ∙ h.1);
  pending = λ b. inl (ap (λ (l : Layout). l.pending b) is);
}

waits_on : (place b : ℕ) (a c : State) → Waits place a c → a.layout.pending b ≡ Some place → c.layout.pending b ≡ Some place
waits_on place b a c w h =
    elim (w.pending b) [
      | inl same ↦ same ∙ h
      | inr here ↦ here
    ]

pub waits_next : (place : ℕ) (a b c : State) → Waits place a b → Waits place b c → Waits place a c
waits_next place a b c w v = record {
  same_volume = v.same_volume ∙ w.same_volume;
  same_device = v.same_device ∙ w.same_device;
  named = λ x h. elim (w.named x h) [
    | inl still ↦ v.named x still
    | inr waits ↦ inr (waits_on place x b c v waits)
  ];
  pending = λ x. elim (v.pending x) [
    | inl still ↦ elim (w.pending x) [
      | inl was ↦ inl (still ∙ was)
      | inr waits ↦ inr (still ∙ waits)
    ]
    | inr here ↦ inr here
  ];
}

-- ---- the edits

block_waits : (place : ℕ) (s : State) (tree : Tree) (first ino : ℕ) (e : DirEntry) → Always (with_new_block s.layout first ino e) (LayoutWaits place s tree)
block_waits place s tree first ino e =
    where_holds (nat_le (length (blocks_at s.layout ino) + 1) s.layout.directory_limit) (no.TooBig (1024 * (length (blocks_at s.layout ino) + 1))) _ (LayoutWaits place s tree)
    (then_always (next_block s.layout first ino) (λ f. Ok (with_last s.layout ino e f)) (IsNext s.layout ino) (LayoutWaits place s tree)
    (ok_always (next_block s.layout first ino) (IsNext s.layout ino) (next_is s.layout first ino)) (λ f next. grown_waits place s tree ino e f next))

filled_waits : (place : ℕ) (s : State) (tree : Tree) (first ino : ℕ) (e : DirEntry) (o : Option (List DirectoryBlock)) → SameNumbers (blocks_at s.layout ino) o
    → Always (filled_or_new s.layout first ino e o) (LayoutWaits place s tree)
filled_waits place s tree first ino e None same = block_waits place s tree first ino e
filled_waits place s tree first ino e (Some filled) same = same_waits place s tree ino filled same

entry_waits : (place : ℕ) (s : State) (tree : Tree) (first ino : ℕ) (e : DirEntry) → Always (add_entry s.layout first ino e) (LayoutWaits place s tree)
entry_waits place s tree first ino e = filled_waits place s tree first ino e (with_entry (blocks_at s.layout ino) e) (entry_same (blocks_at s.layout ino) e)

add_in_waits : (place : ℕ) (s : State) (at ino : ℕ) (name : FileName) (d : Directory) → Always (add_name_in s at name ino d) (Waits place s)
add_in_waits place s at ino name d =
    let tree : Tree = with_nodes s.tree (map.insert s.tree.nodes at (with_name d name ino)) in
    then_always (add_entry s.layout s.tree.tunables.initial_extent_size at (record { ino = ino; name = name })) _ (LayoutWaits place s tree) (Waits place s)
    (entry_waits place s tree s.tree.tunables.initial_extent_size at (record { ino = ino; name = name })) (λ layout w. w)

pub add_waits : (place : ℕ) (s : State) (at ino : ℕ) (name : FileName) → Always (add_name s at name ino) (Waits place s)
add_waits place s at ino name = bind_always (directory_at s.tree.nodes at) (add_name_in s at name ino) (Waits place s) (add_in_waits place s at ino name)

remove_in_waits : (place : ℕ) (s : State) (at : ℕ) (name : FileName) (m : Maybe Directory) → Waits place s (remove_name_in s at name m)
remove_in_waits place s at name (Err why) = waits_same place s s refl
remove_in_waits place s at name (Ok d) =
    same_waits place s (remove_name_in s at name (Ok d)).tree at (map (without_name name) (blocks_at s.layout at)) (without_same name (blocks_at s.layout at))

pub remove_waits : (place : ℕ) (s : State) (at : ℕ) (name : FileName) → Waits place s (remove_name s at name)
remove_waits place s at name = remove_in_waits place s at name (directory_at s.tree.nodes at)

pub set_waits : (place : ℕ) (s : State) (ino : ℕ) (node : Node) → Waits place s (set_node s ino node)
set_waits place s ino node = waits_same place s (set_node s ino node) refl

-- ---- what is given up waits

pended_here : (place b : ℕ) (o : Option ℕ) (t : Bool) → t ≡ true → cond t (Some place) o ≡ Some place
pended_here place b o true h = refl
pended_here place b o false h = absurd cc

pended_else : (place : ℕ) (o : Option ℕ) (t : Bool) → (cond t (Some place) o ≡ o) ⊎ (cond t (Some place) o ≡ Some place)
pended_else place o true = inr refl
pended_else place o false = inl refl

pages_named : (page b : ℕ) (ds : List DirectoryBlock) → among (page_blocks (pages_from page ds)) b ≡ among (block_numbers ds) b
pages_named page b [] = refl
pages_named page b (d ∷ ds) = ap (λ t. (b == d.block) || t) (pages_named (page + 1) b ds)

appended_pages : (ms ns : List Mapped) → page_blocks (ms ++ ns) ≡ page_blocks ms ++ page_blocks ns
appended_pages [] ns = refl
appended_pages (m ∷ ms) ns = ap (λ bs. m.block ∷ bs) (appended_pages ms ns)

named_given_by : (l : Layout) (n b : ℕ) → (among (block_numbers (blocks_at l n)) b ≡ true) ⊎ (among (maps_at l n) b ≡ true) → among (given_up l n) b ≡ true
named_given_by l n b (inl there) =
    in_left (page_blocks (settled_at l n)) (maps_at l n) b
    (ap (λ bs. among bs b) (appended_pages (pages_from 0 (blocks_at l n)) (space_at l n).settled)
    ∙ in_left (page_blocks (pages_from 0 (blocks_at l n))) (page_blocks (space_at l n).settled) b (pages_named 0 b (blocks_at l n) ∙ there))
named_given_by l n b (inr there) = in_right (page_blocks (settled_at l n)) (maps_at l n) b there

-- an inode's metadata are among what it gives up
named_given : (l : Layout) (n b : ℕ) → among (named l n) b ≡ true → among (given_up l n) b ≡ true
named_given l n b h = named_given_by l n b (either (block_numbers (blocks_at l n)) (maps_at l n) b h)

dropped_by : (place : ℕ) (s : State) (ino n b : ℕ) (t : Bool) → (n == ino) ≡ t → among (named s.layout n) b ≡ true
    → (among (block_numbers (cond t [] (s.layout.directories n)) ++ cond t [] (s.layout.maps n)) b ≡ true) ⊎ (pended place (given_up s.layout ino) s.layout.pending b ≡ Some place)
dropped_by place s ino n b true is h =
    inr (pended_here place b (s.layout.pending b) (among (given_up s.layout ino) b) (named_given s.layout ino b (subst (λ (k : ℕ). among (named s.layout k) b ≡ true) (eqb-true n ino is) h)))
dropped_by place s ino n b false is h = inl h

named_still : (place : ℕ) (s : State) (ino n b : ℕ) → (among (named (freed s.layout place ino) n) b ≡ true) ⊎ ((freed s.layout place ino).pending b ≡ Some place)
    → IsNamed (drop_node s place ino) b ⊎ ((freed s.layout place ino).pending b ≡ Some place)
named_still place s ino n b (inl there) = inl (n, there)
named_still place s ino n b (inr waits) = inr waits

pub drop_waits : (place : ℕ) (s : State) (ino : ℕ) → Waits place s (drop_node s place ino)
drop_waits place s ino = record {
  same_volume = refl;
  same_device = refl;
  named = λ b h. named_still place s ino h.0 b (dropped_by place s ino h.0 b (h.0 == ino) refl h.1);
  pending = λ b. pended_else place (s.layout.pending b) (among (given_up s.layout ino) b);
}

-- ---- the calls

abbrev DoneWaits : ℕ → State → Done → Type 0
DoneWaits place s done = Waits place s done.state

module _ (s : State) (place : ℕ) where
  add_then : (b : State) (at ino : ℕ) (name : FileName) (rest : State → Maybe Done) → Waits place s b → ((named : State) → Waits place s named → Always (rest named) (DoneWaits place s))
      → Always (add_name b at name ino >>= rest) (DoneWaits place s)
  add_then b at ino name rest w h = then_always (add_name b at name ino) rest (Waits place b) (DoneWaits place s) (add_waits place b at ino name) (λ named v. h named (waits_next place s b named w v))

  make_waits : (at ino : ℕ) (name : FileName) (node : Node) → Always (make_as s at name node ino) (DoneWaits place s)
  make_waits at ino name node =
      where_holds (nat_lt ino (128 * s.layout.units)) (no.NoInodes (128 * s.layout.units - 2)) _ (DoneWaits place s)
      (add_then s at ino name _ (waits_same place s s refl) (λ named w. waits_next place s named (set_node named ino node) w (set_waits place named ino node)))

  unlinked_by : (b : State) (ino : ℕ) (f : File) (last : Bool) → Waits place s b → Waits place s (unlinked b place ino last f)
  unlinked_by b ino f true w = waits_next place s b (drop_node b place ino) w (drop_waits place b ino)
  unlinked_by b ino f false w = waits_next place s b (set_node b ino (IsFile (record f { nlink = f.nlink - 1 }))) w (set_waits place b ino (IsFile (record f { nlink = f.nlink - 1 })))

  unlink_waits : (e : Entry) (f : File) → Always (unlink_file s place e f) (DoneWaits place s)
  unlink_waits e f = unlinked_by (remove_name s e.at e.name) e.ino f (is_last s.tree e.ino f) (remove_waits place s e.at e.name)

  empty_waits : (e : Entry) (d : Directory) → Always (remove_empty s place e d) (DoneWaits place s)
  empty_waits e d =
      where_holds (map.len d.entries == 0) no.NotEmpty _ (DoneWaits place s)
      (waits_next place s (remove_name s e.at e.name) (drop_node (remove_name s e.at e.name) place e.ino) (remove_waits place s e.at e.name) (drop_waits place (remove_name s e.at e.name) e.ino))

  link_waits : (ino at : ℕ) (f : File) (name : FileName) (d : Directory) → Always (link_in s ino f at name d) (DoneWaits place s)
  link_waits ino at f name d =
      where_holds (is_none (map.get d.entries name)) no.Exist _ (DoneWaits place s) (
      where_holds (nat_lt f.nlink most_links) (no.TooManyLinks f.nlink) _ (DoneWaits place s)
      (add_then s at ino name _ (waits_same place s s refl)
      (λ named w. waits_next place s named (set_node named ino (IsFile (record f { nlink = f.nlink + 1 }))) w (set_waits place named ino (IsFile (record f { nlink = f.nlink + 1 }))))))

  enter_waits : (b : State) (m : Move) → Waits place s b → Always (enter b m) (DoneWaits place s)
  enter_waits b m w = add_then b m.to m.from.ino m.name (λ moved. Ok (fine moved)) w (λ named v. v)

  cleared_waits : (m : Move) → Waits place s (cleared s m)
  cleared_waits m =
      waits_next place s (remove_name s m.from.at m.from.name) (cleared s m) (remove_waits place s m.from.at m.from.name) (remove_waits place (remove_name s m.from.at m.from.name) m.to m.name)

  replace_waits : (m : Move) (target : ℕ) (node : Node) → Always (replace_by s place m target node) (DoneWaits place s)
  replace_waits m target (IsDirectory d) =
      bind_always (directory_at s.tree.nodes target) (replace_directory s place m target) (DoneWaits place s) (λ there.
      where_holds (map.len there.entries == 0) no.NotEmpty _ (DoneWaits place s)
      (enter_waits (drop_node (cleared s m) place target) m (waits_next place s (cleared s m) (drop_node (cleared s m) place target) (cleared_waits m) (drop_waits place (cleared s m) target))))
  replace_waits m target (IsFile f) =
      bind_always (file_at s.tree.nodes target) (replace_file s place m target) (DoneWaits place s) (λ there.
      enter_waits (unlinked (cleared s m) place target (is_last s.tree target there) there) m (unlinked_by (cleared s m) target there (is_last s.tree target there) (cleared_waits m)))

  onto_by : (m : Move) (target : ℕ) (t : Bool) → Always (cond t (Ok (fine s)) (replace_by s place m target m.node)) (DoneWaits place s)
  onto_by m target true = waits_same place s s refl
  onto_by m target false = replace_waits m target m.node

  onto_waits : (m : Move) (o : Option ℕ) → Always (move_onto s place m o) (DoneWaits place s)
  onto_waits m None = enter_waits (remove_name s m.from.at m.from.name) m (remove_waits place s m.from.at m.from.name)
  onto_waits m (Some target) = onto_by m target (target == m.from.ino)

  create_waits : (path : List ℕ) (mode : ℕ) → Always (create s path mode) (DoneWaits place s)
  create_waits path mode = search (bind_always, where_holds, make_waits) depth 12

  mkdir_waits : (path : List ℕ) (mode : ℕ) → Always (mkdir s path mode) (DoneWaits place s)
  mkdir_waits path mode = search (bind_always, where_holds, make_waits) depth 12

  unlink_all : (path : List ℕ) → Always (unlink s place path) (DoneWaits place s)
  unlink_all path = search (bind_always, unlink_waits) depth 12

  rmdir_waits : (path : List ℕ) → Always (rmdir s place path) (DoneWaits place s)
  rmdir_waits path = search (bind_always, empty_waits) depth 12

  link_all : (old new : List ℕ) → Always (link s old new) (DoneWaits place s)
  link_all old new = search (bind_always, link_waits) depth 12

  rename_waits : (old new : List ℕ) → Always (rename s place old new) (DoneWaits place s)
  rename_waits old new = search (bind_always, where_holds, onto_waits) depth 16

  chmod_waits : (path : List ℕ) (mode : ℕ) → Always (chmod s path mode) (DoneWaits place s)
  chmod_waits path mode = search (bind_always, set_waits) depth 12

  stat_waits : (path : List ℕ) → Always (stat s path) (DoneWaits place s)
  stat_waits path = search (bind_always, waits_same place s s refl) depth 12

  list_waits : (path : List ℕ) → Always (list s path) (DoneWaits place s)
  list_waits path = search (bind_always, waits_same place s s refl) depth 12

  settled_waits : (m : Maybe Done) → Always m (DoneWaits place s) → DoneWaits place s (settled s m)
  settled_waits (Ok done) h = h
  settled_waits (Err why) h = waits_same place s s refl

  of_step : (done : Done) (m : Maybe Done) → Some (settled s m) ≡ Some done → Always m (DoneWaits place s) → Waits place s done.state
  of_step done m h w = let e : settled s m ≡ done = cc in subst (DoneWaits place s) e (settled_waits m w)

  -- where those on files do
  pub step_waits_by : ((session : ℕ) (c : Call) (done : Done) → file_step s place session c ≡ Some done → Waits place s done.state) → (session : ℕ) (c : Call) (done : Done) → step s place session c ≡ Some done → Waits place s done.state
  step_waits_by files session (call.Create path mode) done h = of_step done (create s path mode) h (create_waits path mode)
  step_waits_by files session (call.Mkdir path mode) done h = of_step done (mkdir s path mode) h (mkdir_waits path mode)
  step_waits_by files session (call.Unlink path) done h = of_step done (unlink s place path) h (unlink_all path)
  step_waits_by files session (call.Rmdir path) done h = of_step done (rmdir s place path) h (rmdir_waits path)
  step_waits_by files session (call.Link old new) done h = of_step done (link s old new) h (link_all old new)
  step_waits_by files session (call.Rename old new) done h = of_step done (rename s place old new) h (rename_waits old new)
  step_waits_by files session (call.Chmod path mode) done h = of_step done (chmod s path mode) h (chmod_waits path mode)
  step_waits_by files session (call.Stat path) done h = of_step done (stat s path) h (stat_waits path)
  step_waits_by files session (call.List path) done h = of_step done (list s path) h (list_waits path)
  step_waits_by files session (call.OpenFile handle path flag) done h = files session (call.OpenFile handle path flag) done h
  step_waits_by files session (call.Close handle) done h = files session (call.Close handle) done h
  step_waits_by files session (call.Read handle offset count) done h = files session (call.Read handle offset count) done h
  step_waits_by files session (call.Write handle offset payload) done h = files session (call.Write handle offset payload) done h
  step_waits_by files session (call.Truncate handle size) done h = files session (call.Truncate handle size) done h
  step_waits_by files session (call.Fsync handle) done h = files session (call.Fsync handle) done h
  step_waits_by files session call.Sync done h = of_step done (Ok (fine s)) h (waits_same place s s refl)
  step_waits_by files session call.Tick done h = of_step done (Ok (fine s)) h (waits_same place s s refl)
  step_waits_by files session (call.After other lines) done h = of_step done (Ok (fine s)) h (waits_same place s s refl)
  step_waits_by files session call.Stop done h = of_step done (Ok (fine s)) h (waits_same place s s refl)
  step_waits_by files session _ done h = absurd cc

-- ---- what may hold bytes

not_both : (place : ℕ) (o : Option ℕ) → o ≡ None → o ≡ Some place → ⊥
not_both place o none some = let e : None ≡ Some place = sym none ∙ some in absurd cc

unwaiting : (place : ℕ) (o p : Option ℕ) → p ≡ None → (p ≡ o) ⊎ (p ≡ Some place) → o ≡ None
unwaiting place o p none (inl same) = sym same ∙ none
unwaiting place o p none (inr waits) = absurd (not_both place p none waits)

unnamed_by : (s new : State) (place n b : ℕ) (t : Bool) → among (named s.layout n) b ≡ t → Waits place s new → HoldsData new.layout b → t ≡ false
unnamed_by s new place n b false is w holds = refl
unnamed_by s new place n b true is w holds = elim (w.named b (n, is)) [
  | inl there ↦ let no : true ≡ false = sym there.1 ∙ holds.unnamed there.0 in absurd cc
  | inr waits ↦ absurd (not_both place (new.layout.pending b) holds.ready waits)
]

pub stays : (s new : State) (place b : ℕ) → Waits place s new → HoldsData new.layout b → HoldsData s.layout b
stays s new place b w holds = record {
  data_block = subst (λ (v : Volume). IsTrue (is_data v b)) w.same_volume holds.data_block;
  unnamed = λ n. unnamed_by s new place n b (among (named s.layout n) b) refl w holds;
  ready = unwaiting place (s.layout.pending b) (new.layout.pending b) holds.ready (w.pending b);
}

-- ---- what waits for earlier events is released

keeps_by : (place : ℕ) (t : Bool) → t ≡ false → cond t None (Some place) ≡ Some place
keeps_by place true h = absurd cc
keeps_by place false h = refl

keeps_own : (place : ℕ) → kept_pending place (Some place) ≡ Some place
keeps_own place = keeps_by place (nat_lt place place) (search rules)

waits_kept : (place : ℕ) (o p : Option ℕ) → (p ≡ o) ⊎ (p ≡ Some place) → (kept_pending place p ≡ kept_pending place o) ⊎ (kept_pending place p ≡ Some place)
waits_kept place o p (inl same) = inl (ap (kept_pending place) same)
waits_kept place o p (inr here) = inr (ap (kept_pending place) here ∙ keeps_own place)

named_kept : (s new : State) (place b : ℕ) → IsNamed new b ⊎ (new.layout.pending b ≡ Some place) → IsNamed (with_released new place) b ⊎ ((with_released new place).layout.pending b ≡ Some place)
named_kept s new place b (inl still) = inl still
named_kept s new place b (inr waits) = inr (ap (kept_pending place) waits ∙ keeps_own place)

-- the law holds of the states with what waited released
released_waits : (s new : State) (place : ℕ) → Waits place s new → Waits place (with_released s place) (with_released new place)
released_waits s new place w = record {
  same_volume = w.same_volume;
  same_device = w.same_device;
  named = λ b h. named_kept s new place b (w.named b h);
  pending = λ b. waits_kept place (s.layout.pending b) (new.layout.pending b) (w.pending b);
}

pub stays_released : (s new : State) (place b : ℕ) → Waits place s new → HoldsData (with_released new place).layout b → HoldsData (with_released s place).layout b
stays_released s new place b w holds = stays (with_released s place) (with_released new place) place b (released_waits s new place w) holds

-- a block that waited until the release
ready_by : (upto q : ℕ) (t : Bool) → nat_lt q upto ≡ t → cond t None (Some q) ≡ None → q < upto
ready_by upto q true is h = ltb-true q upto is
ready_by upto q false is h = absurd cc

released_ready : (s : State) (upto b : ℕ) (o : Option ℕ) → s.layout.pending b ≡ o → kept_pending upto o ≡ None → HoldsData (with_released s upto).layout b
    → (HoldsData s.layout b) ⊎ ((place : ℕ) × (s.layout.pending b ≡ Some place) × (place < upto))
released_ready s upto b None is ready holds = inl (record { data_block = holds.data_block; unnamed = holds.unnamed; ready = is })
released_ready s upto b (Some q) is ready holds = inr (q, is, ready_by upto q (nat_lt q upto) refl ready)

pub released_data : (s : State) (upto b : ℕ) → HoldsData (with_released s upto).layout b → (HoldsData s.layout b) ⊎ ((place : ℕ) × (s.layout.pending b ≡ Some place) × (place < upto))
released_data s upto b holds = released_ready s upto b (s.layout.pending b) refl holds.ready holds
