-- A name more and a name less keep a state laid out.
use Rattle.std.proofs.Common.{◌≡◌, ℕ, ◌+◌, ◌*◌, ◌<◌, ◌≤◌, true, cond, List, [], ◌∷◌, ◌++◌, length, map, Option, Some, None, Ok, Err, refl, sym, ap, subst, ◌∙◌, arith, inl, inr, length-append}
use Rattle.std.specs.List.{AllByRecursion}
use Rattle.std.specs.FinMap as map
use Rattle.std.proofs.lemmas.Bool.{leb-true}
use Rattle.std.proofs.lemmas.List.{append-nil}
use Rattle.std.proofs.lemmas.List.Concat.{flat_map-append}
use Rattle.vx_base.specs.Paths.{FileName, is_name}
use Rattle.vx_base.specs.declared.inode.DirEntry.{DirEntry}
use Rattle.vx_layout.specs.Dirs.{IsEntry}
use Rattle.vx_space.specs.Laws.{PlaceLaws}
use Rattle.vx_space.specs.Placing.{place_fill}
use Rattle.vx_space.specs.Space.{Space, no_space, page_blocks, maps_for}
use Rattle.vx_space.specs.Uses.{uses}
use Rattle.vx_model.specs.Outcome.{Maybe}
use Rattle.vx_model.specs.Tree.{Node, Directory, IsDirectory, Entries}
use Rattle.vx_model.specs.Layout.{DirectoryBlock, Layout, blocks_at, maps_at, block_numbers, owned, is_free, pages_from, with_blocks, with_last, with_entry, next_block, block_of_page, directory_filling, directory_request, other_name, without_name}
use Rattle.vx_model.specs.State.{State}
use Rattle.vx_model.specs.Walks.{directory_at}
use Rattle.vx_model.specs.Edits.{with_nodes, with_name, add_name, remove_name_in, remove_name}
use Rattle.vx_model.specs.Reads.{entries_from}
use Rattle.vx_model.specs.LaidOut.{IsOnceUsed, IsDirectoryOf, IsFileNode, IsLaidOut, entries_of}
use Rattle.vx_model.specs.Legal.{IfThere}
use Rattle.vx_model.proofs.Owning.{same_once, grown_once}
use Rattle.vx_model.proofs.NextBlock.{IsNext, next_is, page_numbers, maps_more}
use Rattle.vx_model.proofs.BlockClaims.{IsWhole, same_owned, pages_same, same_length}
use Rattle.vx_model.proofs.EntryLists.{one_fits, filter_fits, short_name, inserted_names, removed_names, entries_without}
use Rattle.vx_model.proofs.EditKeeps.{node_held, here, elsewhere, same_at, others_same, same_numbers, replaced_laid}
use Rattle.vx_model.proofs.NameEdits.{IsSpelled, filled_is, Grown, directory_there, entry_added, name_added}

-- ---- a directory with other entries in its blocks

renamed : (l : Layout) (at : ℕ) (d : Directory) (names : Entries) (blocks : List DirectoryBlock) → IsDirectoryOf l at d → block_numbers blocks ≡ block_numbers (blocks_at l at)
    → names ≡ entries_from (entries_of blocks) → AllByRecursion IsSpelled blocks → IsDirectoryOf (with_blocks l at blocks) at (record d { entries = names })
renamed l at d names blocks is same are spelled =
    let now : blocks_at (with_blocks l at blocks) at ≡ blocks = here at blocks (l.directories at) in
    record {
      mode = is.mode;
      entries = are ∙ ap (λ (ds : List DirectoryBlock). entries_from (entries_of ds)) (sym now);
      spelled = subst (AllByRecursion IsSpelled) (sym now) spelled;
      few = (let count : length (blocks_at (with_blocks l at blocks) at) ≡ length (blocks_at l at) = ap (λ (ds : List DirectoryBlock). length ds) now ∙ same_length blocks (blocks_at l at) same in let low = is.few in omega (arith, count, low));
      maps = is.maps ∙ ap maps_for (pages_same 0 (blocks_at l at) blocks (sym same) ∙ ap (pages_from 0) (sym now));
      space = is.space;
    }

no_file_there : (s : State) (at : ℕ) (d : Directory) → map.get s.tree.nodes at ≡ Some (IsDirectory d) → IfThere (map.get s.tree.nodes at) IsFileNode → ⊥
no_file_there s at d there file = subst (λ (o : Option Node). IfThere o IsFileNode) there file

renamed_laid : (s : State) (at : ℕ) (d : Directory) (names : Entries) (blocks : List DirectoryBlock) → IsLaidOut s → map.get s.tree.nodes at ≡ Some (IsDirectory d) → block_numbers blocks ≡ block_numbers (blocks_at s.layout at)
    → names ≡ entries_from (entries_of blocks) → AllByRecursion IsSpelled blocks
    → IsLaidOut (record { tree = with_nodes s.tree (map.insert s.tree.nodes at (IsDirectory (record d { entries = names }))); layout = with_blocks s.layout at blocks })
renamed_laid s at d names blocks is there same are spelled =
    let held = node_held s is at (IsDirectory d) there in
    replaced_laid s is at (record d { entries = names }) blocks s.layout.maps (λ n ne. refl) (renamed s.layout at d names blocks held.0 same are spelled) held.1 held.2
    (same_once s.layout (with_blocks s.layout at blocks) refl (λ n. same_owned s.layout (with_blocks s.layout at blocks) n (same_numbers s.layout at blocks same n)) (λ b none. none) is.use_of_blocks)
    (no_file_there s at d there)

-- ---- a name more

-- the state with the name
abbrev pub named : State → ℕ → ℕ → FileName → Directory → Layout → State
named s at ino name d layout = record { tree = with_nodes s.tree (map.insert s.tree.nodes at (with_name d name ino)); layout = layout }

names_by : (old new : List DirEntry) (names : Entries) (pre post : List DirEntry) (e : DirEntry) → names ≡ entries_from old → map.get names e.name ≡ None → old ≡ pre ++ post → new ≡ pre ++ e ∷ post
    → map.insert names e.name e.ino ≡ entries_from new
names_by old new names pre post e are unused before after =
    let parts : names ≡ entries_from (pre ++ post) = are ∙ ap entries_from before in
    ap (λ (es : Entries). map.insert es e.name e.ino) parts
    ∙ sym (inserted_names pre post e (ap (λ (es : Entries). map.get es e.name) (sym parts) ∙ unused))
    ∙ ap entries_from (sym after)

filled_laid : (s : State) (at : ℕ) (d : Directory) (e : DirEntry) (filled : List DirectoryBlock) → IsLaidOut s → map.get s.tree.nodes at ≡ Some (IsDirectory d) → map.get d.entries e.name ≡ None → IsEntry e
    → with_entry (blocks_at s.layout at) e ≡ Some filled → IsLaidOut (named s at e.ino e.name d (with_blocks s.layout at filled))
filled_laid s at d e filled is there unused entry h =
    let f = filled_is (blocks_at s.layout at) filled e h in
    let held = node_held s is at (IsDirectory d) there in
    renamed_laid s at d (map.insert d.entries e.name e.ino) filled is there f.numbers
    (names_by (entries_of (blocks_at s.layout at)) (entries_of filled) d.entries f.pre f.post e held.0.entries unused f.before f.after) (f.spelled entry held.0.spelled)

each_push : (ds : List DirectoryBlock) (d : DirectoryBlock) → AllByRecursion IsSpelled ds → IsSpelled d → AllByRecursion IsSpelled (ds ++ d ∷ [])
each_push [] d all is = (is, tt)
each_push (x ∷ xs) d all is = (all.0, each_push xs d all.1 is)

module _ (l : Layout) (first at : ℕ) (d : Directory) (e : DirEntry) (after : Layout) (is : IsDirectoryOf l at d) (g : Grown l first at e after) where
  pub next : IsNext l at g.filling
  next = next_is l first at g.filling g.next

  abbrev pub last : DirectoryBlock
  last = record { block = block_of_page g.filling.pages (length (blocks_at l at)); entries = e ∷ [] }

  abbrev pub blocks : List DirectoryBlock
  blocks = blocks_at l at ++ last ∷ []

  abbrev pub new : Layout
  new = with_last l at e g.filling

  pages_are : g.filling.pages ≡ pages_from 0 blocks
  pages_are = next.pages (e ∷ []) ∙ ap (λ (b : ℕ). pages_from 0 (blocks_at l at ++ record { block = b; entries = e ∷ [] } ∷ [])) (sym next.found)

  pub blocks_now : blocks_at new at ≡ blocks
  blocks_now = here at blocks (l.directories at)

  pub maps_now : maps_at new at ≡ g.filling.maps
  maps_now = here at g.filling.maps (l.maps at)

  maps_count : length g.filling.maps ≡ maps_for (pages_from 0 blocks)
  maps_count =
      let parts : length g.filling.maps ≡ length (maps_at l at) + length next.more = ap (λ (ms : List ℕ). length ms) next.maps ∙ length-append (maps_at l at) next.more in
      let all : maps_for g.filling.pages ≡ maps_for (pages_from 0 blocks) = ap maps_for pages_are in
      let count = next.count in
      let old = is.maps in
      let low = maps_more 0 (blocks_at l at) (last ∷ []) in
      omega (arith, parts, all, count, old, low)

  pub grown_whole : IsWhole new at
  grown_whole = record { space = is.space; maps = ap (λ (ms : List ℕ). length ms) maps_now ∙ maps_count ∙ ap (λ (ds : List DirectoryBlock). maps_for (pages_from 0 ds)) (sym blocks_now) }

  pub grown_directory : IsEntry e → map.get d.entries e.name ≡ None → IsDirectoryOf new at (record d { entries = map.insert d.entries e.name e.ino })
  grown_directory entry unused = record {
    mode = is.mode;
    entries = names_by (entries_of (blocks_at l at)) (entries_of blocks) d.entries (entries_of (blocks_at l at)) [] e is.entries unused (sym (append-nil (entries_of (blocks_at l at))))
        (flat_map-append (λ (b : DirectoryBlock). b.entries) (blocks_at l at) (last ∷ []))
        ∙ ap (λ (ds : List DirectoryBlock). entries_from (entries_of ds)) (sym blocks_now);
    spelled = subst (AllByRecursion IsSpelled) (sym blocks_now) (each_push (blocks_at l at) last is.spelled (one_fits e entry));
    few = (let count : length (blocks_at new at) ≡ length (blocks_at l at) + 1 = ap (λ (ds : List DirectoryBlock). length ds) blocks_now ∙ length-append (blocks_at l at) (last ∷ []) in
        let low = leb-true _ _ g.within in omega (arith, count, low));
    maps = grown_whole.maps;
    space = grown_whole.space;
  }

  old_owned : owned l at ≡ page_blocks (pages_from 0 (blocks_at l at)) ++ maps_at l at
  old_owned = ap (λ (x : Space). block_numbers (blocks_at l at) ++ (page_blocks x.present ++ maps_at l at)) is.space ∙ ap (λ (bs : List ℕ). bs ++ maps_at l at) (sym (page_numbers 0 (blocks_at l at)))

  new_owned : owned new at ≡ page_blocks g.filling.pages ++ g.filling.maps
  new_owned =
      let numbers : block_numbers (blocks_at new at) ≡ page_blocks g.filling.pages = ap block_numbers blocks_now ∙ sym (page_numbers 0 blocks) ∙ ap page_blocks (sym pages_are) in
      (λ i. numbers i ++ (page_blocks (is.space i).present ++ maps_now i))

  placed : place_fill (directory_request l first) no_space (length (blocks_at l at)) 1 (directory_filling l at) ≡ Ok g.filling
  unfolding next_block
  placed = g.next

  grown_uses : PlaceLaws → 1 ≤ first → (b : ℕ) → uses (owned new at) b ≤ cond (is_free l b) 1 0 + uses (owned l at) b
  grown_uses place some b =
      let grows = place.grows (directory_request l first) no_space (length (blocks_at l at)) 1 (directory_filling l at) g.filling some placed in
      let kept = grows.purposes_kept b in
      let old : uses (owned l at) b ≡ uses (page_blocks (pages_from 0 (blocks_at l at)) ++ maps_at l at) b = ap (λ (xs : List ℕ). uses xs b) old_owned in
      let now : uses (owned new at) b ≡ uses (page_blocks g.filling.pages ++ g.filling.maps) b = ap (λ (xs : List ℕ). uses xs b) new_owned in
      omega (arith, kept, old, now)

  pub grown_layout_once : PlaceLaws → 1 ≤ first → at < 128 * l.units → IsOnceUsed l → IsOnceUsed new
  grown_layout_once place some low once =
      grown_once l once new at refl low (λ b. refl)
      (λ n ne. same_owned l new n (same_at l new n (others_same l at blocks new.maps (λ k other. elsewhere k at g.filling.maps (l.maps k) other) n ne))) (grown_uses place some)

grown_laid : (s : State) (at : ℕ) (d : Directory) (e : DirEntry) (after : Layout) → PlaceLaws → IsLaidOut s → map.get s.tree.nodes at ≡ Some (IsDirectory d) → map.get d.entries e.name ≡ None → IsEntry e
    → (g : Grown s.layout s.tree.tunables.initial_extent_size at e after) → IsLaidOut (named s at e.ino e.name d (with_last s.layout at e g.filling))
grown_laid s at d e after place is there unused entry g =
    let first : ℕ = s.tree.tunables.initial_extent_size in
    let held = node_held s is at (IsDirectory d) there in
    replaced_laid s is at (record d { entries = map.insert d.entries e.name e.ino }) (blocks s.layout first at d e after held.0 g) (with_last s.layout at e g.filling).maps
    (λ n ne. elsewhere n at g.filling.maps (s.layout.maps n) ne) (grown_directory s.layout first at d e after held.0 g entry unused) held.1 held.2
    (grown_layout_once s.layout first at d e after held.0 g place is.tunables.some held.2 is.use_of_blocks) (no_file_there s at d there)

some_same : {A : Type 0} (o : Option A) (x y : A) → o ≡ Some x → o ≡ Some y → x ≡ y
some_same {A = A} o x y h k = let e : ◌≡◌ {A = Option A} (Some x) (Some y) = sym h ∙ k in cc

directory_same : (x y : Directory) → IsDirectory x ≡ IsDirectory y → x ≡ y
directory_same x y h = cc

pub added : PlaceLaws → (s new : State) (at ino : ℕ) (name : FileName) (d : Directory) → IsLaidOut s → map.get s.tree.nodes at ≡ Some (IsDirectory d) → is_name name ≡ true → map.get d.entries name ≡ None
    → ino < 128 * s.layout.units → add_name s at name ino ≡ Ok new → IsLaidOut new
added place s new at ino name d is there legal unused low h =
    let a = name_added s new at ino name h in
    let same : d ≡ a.directory = directory_same d a.directory (some_same (map.get s.tree.nodes at) (IsDirectory d) (IsDirectory a.directory) there a.is_directory) in
    let new_name : map.get a.directory.entries name ≡ None = subst (λ (x : Directory). map.get x.entries name ≡ None) same unused in
    let limit : s.layout.units ≤ 64 = is.units_limit in
    let e : DirEntry = record { ino = ino; name = name } in
    let entry : IsEntry e = record { ino = omega arith; name = short_name name legal } in
    let grows = entry_added s.layout a.layout s.tree.tunables.initial_extent_size at e a.added in
    subst IsLaidOut (sym a.state) (elim grows [
      | inl f ↦ subst (λ (l : Layout). IsLaidOut (named s at ino name a.directory l)) (sym f.layout) (filled_laid s at a.directory e f.blocks is a.is_directory new_name entry f.filled)
      | inr g ↦ subst (λ (l : Layout). IsLaidOut (named s at ino name a.directory l)) (sym g.layout) (grown_laid s at a.directory e a.layout place is a.is_directory new_name entry g)
    ])

-- ---- a name less

pub without_numbers : (name : FileName) (ds : List DirectoryBlock) → block_numbers (map (without_name name) ds) ≡ block_numbers ds
without_numbers name [] = refl
without_numbers name (d ∷ ds) = ap (λ ns. d.block ∷ ns) (without_numbers name ds)

without_spelled : (name : FileName) (ds : List DirectoryBlock) → AllByRecursion IsSpelled ds → AllByRecursion IsSpelled (map (without_name name) ds)
without_spelled name [] all = tt
without_spelled name (d ∷ ds) all = (filter_fits (other_name name) d.entries all.0, without_spelled name ds all.1)

removed_by : (s : State) (at : ℕ) (name : FileName) (m : Maybe Directory) → IsLaidOut s → directory_at s.tree.nodes at ≡ m → IsLaidOut (remove_name_in s at name m)
removed_by s at name (Err why) is h = is
removed_by s at name (Ok d) is h =
    let there = directory_there s.tree.nodes at d h in
    let held = node_held s is at (IsDirectory d) there in
    let ds : List DirectoryBlock = blocks_at s.layout at in
    let names : map.remove d.entries name ≡ entries_from (entries_of (map (without_name name) ds)) =
    ap (λ (es : Entries). map.remove es name) held.0.entries
    ∙ sym (removed_names (entries_of ds) name)
    ∙ ap entries_from (sym (entries_without name ds)) in
    renamed_laid s at d (map.remove d.entries name) (map (without_name name) ds) is there (without_numbers name ds) names (without_spelled name ds held.0.spelled)

pub removed : (s : State) (at : ℕ) (name : FileName) → IsLaidOut s → IsLaidOut (remove_name s at name)
removed s at name is = removed_by s at name (directory_at s.tree.nodes at) is refl
