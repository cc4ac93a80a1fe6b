-- A directory that is loaded.
use Rattle.std.proofs.Common.{◌≡◌, ◌≢◌, ℕ, zero, suc, ◌+◌, ◌-◌, ◌*◌, ◌<◌, ◌≤◌, ◌^◌, Bool, true, false, cond, not, ◌&&◌, List, [], ◌∷◌, ◌++◌, take, drop, length, get_or, Option, Some, None, refl, sym, ◌∙◌, ap, subst, arith, inl, inr, append_assoc, append-nil, length-append}
use Rattle.std.specs.Prelude.{◌||◌, ◌==◌, nat_lt}
use Rattle.std.specs.List.{All, AllByRecursion, flat_map}
use Rattle.std.specs.FinMap as map
use Rattle.std.proofs.Math.Seq.{drop-cons}
use Rattle.std.proofs.lemmas.Bool.{cases_Bool, and_parts, and_from, eq-eqb, or_left, or_right, both_ways, ltb-true}
use Rattle.std.proofs.lemmas.List.{length-map, take_all}
use Rattle.std.proofs.lemmas.List.Elements.{All-from_recursion}
use Rattle.std.proofs.lemmas.Option.{none-some, same_Some}
use Rattle.vx_alloc.specs.FreeMaps.{FreeMapView, is_free as is_free_block, with_bit}
use Rattle.vx_base.specs.declared.inode.DirEntry.{DirEntry}
use Rattle.vx_base.specs.declared.inode.Extent.{Extent}
use Rattle.vx_base.specs.declared.inode.Inode.{Inode}
use Rattle.vx_base.specs.declared.kind.Kind.{Kind}
use Rattle.vx_base.specs.declared.kind.FileKind.TheVariants as kind
use Rattle.vx_dir.specs.Directories.{HasDistinctNames, HasShortNames, IsShort}
use Rattle.vx_dir.specs.Sizes.{Entries, used_by}
use Rattle.vx_extents.specs.Extents.{Mapped, extents_after, extent_from, follows, run, stretches}
use Rattle.vx_filemaps.proofs.Free.{free_data, data_low, has_taken, taken_other, taken_test}
use Rattle.vx_filemaps.specs.FileMaps.{HasTaken, IsTaken}
use Rattle.vx_filemaps.specs.Files.{FileView}
use Rattle.vx_filemaps.specs.Loads.{IsBelow, IsNext, extent_pages, with_extent}
use Rattle.vx_inode.specs.Tables.{with_inode}
use Rattle.vx_layout.specs.Dirs.{IsDir, IsEntry}
use Rattle.vx_layout.specs.Places.{is_data}
use Rattle.vx_model.specs.Contents.{Held, settled_of}
use Rattle.vx_model.specs.Images.{among}
use Rattle.vx_model.specs.LaidOut.{IsHeld, IsDirectoryOf, IsLaidOut, Owns}
use Rattle.vx_model.specs.Layout.{Layout, DirectoryBlock, volume, blocks_at, block_numbers, maps_at, owned, is_owned_below, pages_from, settled_at}
use Rattle.vx_model.specs.State.{State}
use Rattle.vx_model.specs.Tree.{Node, Directory, IsFile, IsDirectory}
use Rattle.vx_model.proofs.Stretching.{stretches_say}
use Rattle.vx_space.specs.Space.{Space, maps_for, page_blocks}
use Rattle.vx_space.specs.Uses.{uses}
use Rattle.vx_txn.specs.Directories.{DirectoryValue, placed, blocks_in, maps_in}
use Rattle.vx_txn.specs.Directories as txn
use Rattle.vx_txn.specs.Edits.{HasPages}
use Rattle.vx_txn.specs.Loads.{AreBlocksOf, AreNext, CanTake, IsDirectoryThere, IsLoadedTo, entries_by_block, loaded_directory, with_extents, without_blocks}
use Rattle.vx_txn.specs.Metas.{directory_of}
use Rattle.vx_txn.specs.declared.meta.Meta.{Meta}
use Rattle.vx_txn.proofs.Claims.{owner}
use Rattle.vx_txn.proofs.Growing.{among_uses}
use Rattle.vx_txn.proofs.Loading.{loaded_more}
use Rattle.vx_txn.proofs.Moves.{length_bytes}
use Rattle.vx_txn.proofs.OnceNamed.{distinct_by_block}
use Rattle.vx_txn.proofs.Settled.{extents_few, length_pages, page_blocks_from}
use Rattle.vx_txn.proofs.StateLaws.{inode_of_node, inode_of_option}

-- ---- pages that are read extent by extent

pub pages_read : (es : List Extent) (m : FileView) → with_extents es m ≡ record m { space = record m.space { present = m.space.present ++ flat_map extent_pages es } }
pages_read [] m = ap (λ (ms : List Mapped). record m { space = record m.space { present = ms } }) (sym (append-nil m.space.present))
pages_read (e ∷ es) m =
    pages_read es (with_extent m e)
    ∙ ap (λ (ms : List Mapped). record m { space = record m.space { present = ms } }) (append_assoc m.space.present (extent_pages e) (flat_map extent_pages es))

-- where a page stands in a directory
pub record IsAt (k : ℕ) (bs : List DirectoryBlock) (before : List Mapped) (m : Mapped) : Type 0 where
  pub behind : AllByRecursion (IsBelow m.page) before
  pub page : m.page ≡ k + length before

abbrev first_page : List Mapped → ℕ
first_page [] = 0
first_page (m ∷ pages) = m.page

abbrev pages_behind : List Mapped → List Mapped
pages_behind [] = []
pages_behind (m ∷ pages) = pages

page_here : (k : ℕ) (bs : List DirectoryBlock) (before : List Mapped) (m : Mapped) (after : List Mapped) → before ++ m ∷ after ≡ pages_from k bs → IsAt k bs before m
page_here k [] [] m after is = absurd (omega (arith, ap length is))
page_here k [] (x ∷ before) m after is = absurd (omega (arith, ap length is))
page_here k (d ∷ bs) [] m after is = let at : m.page ≡ k = ap first_page is in record { behind = tt; page = omega arith }
page_here k (d ∷ bs) (x ∷ before) m after is =
    let rest = page_here (k + 1) bs before m after (ap pages_behind is) in
    let first : x.page ≡ k = ap first_page is in
    let at = rest.page in
    record { behind = (omega arith, rest.behind); page = omega arith }

-- ---- extents of some length

abbrev HasPage : Extent → Type 0
HasPage e = 1 ≤ e.len

after_by : (t : Bool) (e : Extent) (es : List Extent) → HasPage e → AllByRecursion HasPage es → AllByRecursion HasPage (cond t es (e ∷ es))
after_by true e es some rest = rest
after_by false e es some rest = (some, rest)

some_after : (m : Mapped) (pages : List Mapped) → AllByRecursion HasPage (extents_after m pages)
some_after m [] = tt
some_after m (n ∷ pages) = after_by (follows m n) (extent_from n pages) (extents_after n pages) (omega arith) (some_after n pages)

some_pages : (pages : List Mapped) → AllByRecursion HasPage (stretches pages)
some_pages [] = tt
some_pages (m ∷ pages) = (omega arith, some_after m pages)

length_run : (n page block : ℕ) (kind : Kind) → length (run n page block kind) ≡ n
length_run zero page block kind = refl
length_run (suc n) page block kind = ap suc (length_run n (page + 1) (block + 1) kind)

-- ---- blocks with small numbers

abbrev IsLow : Mapped → Type 0
IsLow m = m.block < 2 ^ 32

low_front : (xs ys : List Mapped) → AllByRecursion IsLow (xs ++ ys) → AllByRecursion IsLow xs
low_front [] ys low = tt
low_front (x ∷ xs) ys low = (low.0, low_front xs ys low.1)

low_behind : (xs ys : List Mapped) → AllByRecursion IsLow (xs ++ ys) → AllByRecursion IsLow ys
low_behind [] ys low = low
low_behind (x ∷ xs) ys low = low_behind xs ys low.1

low_end : (n page block : ℕ) (kind : Kind) → 1 ≤ n → AllByRecursion IsLow (run n page block kind) → block + n ≤ 2 ^ 32
low_end zero page block kind some low = absurd (omega arith)
low_end (suc zero) page block kind some low = omega (arith, low.0)
low_end (suc (suc n)) page block kind some low = let rest = low_end (suc n) (page + 1) (block + 1) kind (omega arith) low.1 in omega arith

-- ---- each extent stands behind the pages before it

pages_of : (e : Extent) → HasPage e → (rest : List Mapped) → extent_pages e ++ rest ≡ record { page = e.page; block = e.start; kind = e.kind } ∷ (run (e.len - 1) (e.page + 1) (e.start + 1) e.kind ++ rest)
pages_of e some rest = let one : e.len ≡ suc (e.len - 1) = omega arith in ap (λ (n : ℕ). run n e.page e.start e.kind ++ rest) one

module _ (bs : List DirectoryBlock) (few : length bs ≤ 64) where
  one_next : (e : Extent) (before rest : List Mapped) → HasPage e → before ++ (extent_pages e ++ rest) ≡ pages_from 0 bs → AllByRecursion IsLow (extent_pages e) → IsNext before e
  one_next e before rest some is low =
      let first : Mapped = record { page = e.page; block = e.start; kind = e.kind } in
      let at = page_here 0 bs before first (run (e.len - 1) (e.page + 1) (e.start + 1) e.kind ++ rest) (ap (λ (ms : List Mapped). before ++ ms) (sym (pages_of e some rest)) ∙ is) in
      let place : e.page ≡ 0 + length before = at.page in
      let all : length (before ++ (extent_pages e ++ rest)) ≡ length bs = ap length is ∙ length_pages 0 bs in
      let parts = length-append before (extent_pages e ++ rest) in
      let more = length-append (extent_pages e) rest in
      let own = length_run e.len e.page e.start e.kind in
      let extents = extents_few before in
      record { some = some; within = omega arith; blocks = low_end e.len e.page e.start e.kind some low; behind = at.behind; few = omega arith }

  are_next : (es : List Extent) (before : List Mapped) → AllByRecursion HasPage es → before ++ flat_map extent_pages es ≡ pages_from 0 bs → AllByRecursion IsLow (flat_map extent_pages es) → AreNext es before
  are_next [] before some is low = tt
  are_next (e ∷ es) before some is low = (
    one_next e before (flat_map extent_pages es) some.0 is (low_front (extent_pages e) (flat_map extent_pages es) low),
    are_next es (before ++ extent_pages e) some.1 (append_assoc before (extent_pages e) (flat_map extent_pages es) ∙ is) (low_behind (extent_pages e) (flat_map extent_pages es) low),
  )

low_pages : (k : ℕ) (bs : List DirectoryBlock) → ((b : ℕ) → among (block_numbers bs) b ≡ true → b < 2 ^ 32) → AllByRecursion IsLow (pages_from k bs)
low_pages k [] low = tt
low_pages k (d ∷ bs) low = (low d.block (or_left _ _ (eq-eqb d.block d.block refl)), low_pages (k + 1) bs (λ b has. low b (or_right (b == d.block) _ has)))

-- ---- blocks that are taken

but_both : (f a b : Bool) → ((f && not a) && not b) ≡ (f && not (a || b))
but_both false a b = refl
but_both true true b = refl
but_both true false b = refl

and_all : (x : Bool) → (x && true) ≡ x
and_all true = refl
and_all false = refl

not_used : (xs : List ℕ) (b : ℕ) → uses xs b ≡ 0 → among xs b ≡ false
not_used xs b none = among_uses xs b ∙ ap (λ (n : ℕ). nat_lt 0 n) none

uses_here : (x : ℕ) (xs : List ℕ) → uses (x ∷ xs) x ≡ 1 + uses xs x
uses_here x xs = ap (λ (t : Bool). cond t 1 0 + uses xs x) (eq-eqb x x refl)

uses_less : (x : ℕ) (xs : List ℕ) (b : ℕ) → uses (x ∷ xs) b ≤ 1 → uses xs b ≤ 1
uses_less x xs b once = omega arith

pub can_take : (xs : List ℕ) (v : FreeMapView) → ((b : ℕ) → among xs b ≡ true → is_free_block v b ≡ true) → ((b : ℕ) → uses xs b ≤ 1) → CanTake xs v
can_take [] v free once = tt
can_take (x ∷ xs) v free once =
    let here : is_free_block v x ≡ true = free x (or_left _ _ (eq-eqb x x refl)) in
    let one = once x in
    let two = uses_here x xs in
    let gone : among xs x ≡ false = not_used xs x (omega arith) in (
      here,
      can_take xs (with_bit v x false) (λ b has.
          taken_other v x b (data_low v x (free_data v x here)) (λ same. both_ways _ gone (ap (among xs) (sym same) ∙ has)) ∙ free b (or_right (b == x) _ has))
          (λ b. uses_less x xs b (once b)),
    )

pub free_without : (xs : List ℕ) (v : FreeMapView) (c : ℕ) → CanTake xs v → is_free_block (without_blocks xs v) c ≡ (is_free_block v c && not (among xs c))
free_without [] v c can = sym (and_all (is_free_block v c))
free_without (x ∷ xs) v c can =
    free_without xs (with_bit v x false) c can.1
    ∙ ap (λ (f : ℕ → Bool). f c && not (among xs c)) (taken_test v x can.0)
    ∙ but_both (is_free_block v c) (c == x) (among xs c)

is_taken : (xs : List ℕ) (v : FreeMapView) → CanTake xs v → IsTaken v xs (without_blocks xs v)
is_taken [] v can = refl
is_taken (x ∷ xs) v can = (can.0, is_taken xs (with_bit v x false) can.1)

pub all_has_taken : (xs : List ℕ) (v : FreeMapView) → CanTake xs v → HasTaken v (without_blocks xs v)
all_has_taken xs v can = has_taken v xs (without_blocks xs v) (is_taken xs v can)

pub take_front : (xs ys : List ℕ) (v : FreeMapView) → CanTake (xs ++ ys) v → CanTake xs v
take_front [] ys v can = tt
take_front (x ∷ xs) ys v can = (can.0, take_front xs ys (with_bit v x false) can.1)

pub take_behind : (xs ys : List ℕ) (v : FreeMapView) → CanTake (xs ++ ys) v → CanTake ys (without_blocks xs v)
take_behind [] ys v can = can
take_behind (x ∷ xs) ys v can = take_behind xs ys (with_bit v x false) can.1

pub without_both : (xs ys : List ℕ) (v : FreeMapView) → without_blocks (xs ++ ys) v ≡ without_blocks ys (without_blocks xs v)
without_both [] ys v = refl
without_both (x ∷ xs) ys v = without_both xs ys (with_bit v x false)

module _ (blocks : List ℕ) (i b : ℕ) (v : FreeMapView) (within : i < length blocks) (is : b ≡ get_or blocks i 0) where
  next_left : drop i blocks ≡ b ∷ drop (i + 1) blocks
  next_left =
      let next : suc i ≡ i + 1 = omega arith in
      drop-cons blocks i 0 within ∙ (λ k. sym is k ∷ drop (next k) blocks)

  pub take_first : CanTake (drop i blocks) v → is_free_block v b ≡ true
  take_first can = (subst (λ (xs : List ℕ). CanTake xs v) next_left can).0

  pub take_rest : CanTake (drop i blocks) v → CanTake (drop (i + 1) blocks) (with_bit v b false)
  take_rest can = (subst (λ (xs : List ℕ). CanTake xs v) next_left can).1

  pub take_next : without_blocks (drop i blocks) v ≡ without_blocks (drop (i + 1) blocks) (with_bit v b false)
  take_next = ap (λ (xs : List ℕ). without_blocks xs v) next_left

-- ---- what the state has

placed_again : (k : ℕ) (bs : List DirectoryBlock) → placed (pages_from k bs) (entries_by_block bs) ≡ bs
placed_again k [] = refl
placed_again k (d ∷ bs) = ap (λ (ds : List DirectoryBlock). d ∷ ds) (placed_again (k + 1) bs)

pub record DirectoryFacts (s : State) (n : ℕ) (inode : Inode) : Type 0 where
  pub tree : Directory
  pub is : IsDirectoryOf s.layout n tree
  pub low : 2 ≤ n
  pub high : n < 128 * s.layout.units
  pub links : inode.nlink ≤ 32767

directory_by : (s : State) (n : ℕ) (h : Held) (stands : Option Node) (inode : Inode) → IsHeld s.layout n stands → inode_of_option h stands ≡ Some inode → inode.kind ≡ kind.Directory → DirectoryFacts s n inode
directory_by s n h None inode held is k = absurd (none-some inode is)
directory_by s n h (Some (IsFile f)) inode held is k =
    let e : inode_of_node h (IsFile f) ≡ inode = same_Some _ _ is in
    let other : kind.File ≡ inode.kind = ap (λ (i : Inode). i.kind) e in
    absurd (cc (other, k))
directory_by s n h (Some (IsDirectory t)) inode held is k =
    let e : inode_of_node h (IsDirectory t) ≡ inode = same_Some _ _ is in
    let links : 1 ≡ inode.nlink = ap (λ (i : Inode). i.nlink) e in
    record { tree = t; is = held.0; low = held.1; high = held.2; links = omega arith }

short_each : (es : List DirEntry) → AllByRecursion IsEntry es → AllByRecursion IsShort es
short_each [] each = tt
short_each (e ∷ es) each = let few = each.0.name in (omega arith, short_each es each.1)

fit_each : (bs : List DirectoryBlock) → AllByRecursion (λ (b : DirectoryBlock). IsDir 1024 b.entries) bs → AllByRecursion (λ (b : Entries). used_by b ≤ 1020) (entries_by_block bs)
fit_each [] each = tt
fit_each (d ∷ bs) each = let room = each.0.room in let same = length_bytes d.entries in (omega arith, fit_each bs each.1)

short_all : (bs : List DirectoryBlock) → AllByRecursion (λ (b : DirectoryBlock). IsDir 1024 b.entries) bs → AllByRecursion HasShortNames (entries_by_block bs)
short_all [] each = tt
short_all (d ∷ bs) each = (All-from_recursion IsShort d.entries (short_each d.entries each.0.each), short_all bs each.1)

-- a data block stands below the last unit's end
data_below : (l : Layout) (b : ℕ) → l.log_blocks ≤ 2048 → l.units ≤ 64 → is_data (volume l) b ≡ true → b < 2 ^ 32
unfolding is_data
data_below l b log units is =
    let parts = and_parts _ _ ((and_parts _ _ is).1) in
    let under : b - (2 + l.log_blocks) < 4096 * l.units = ltb-true _ _ parts.0 in
    omega (arith, under, log, units)

module _ (s : State) (n : ℕ) (inode : Inode) (extents : List Extent) (maps : List ℕ) (blocks : List Entries) (laid : IsLaidOut s) (there : IsDirectoryThere s n inode extents maps blocks) where
  abbrev bs : List DirectoryBlock
  bs = blocks_at s.layout n

  abbrev pub d : DirectoryValue
  d = loaded_directory extents maps blocks

  pub directory_facts : DirectoryFacts s n inode
  directory_facts = directory_by s n (settled_of s.layout n) (map.get s.tree.nodes n) inode (laid.nodes n) there.inode_is there.kind_is

  few : length bs ≤ 64
  few = let most = directory_facts.is.few in let limit = laid.limit in omega arith

  settled_is : settled_at s.layout n ≡ pages_from 0 bs
  settled_is = ap (λ (x : Space). pages_from 0 bs ++ x.settled) directory_facts.is.space ∙ append-nil (pages_from 0 bs)

  pages_are : flat_map extent_pages extents ≡ pages_from 0 bs
  pages_are = ap (flat_map extent_pages) (there.extents_are ∙ ap stretches settled_is) ∙ stretches_say (pages_from 0 bs)

  maps_same : maps ≡ maps_at s.layout n
  maps_same =
      there.maps_are ∙ ap (λ (ms : List Mapped). take (maps_for ms) (maps_at s.layout n)) settled_is
      ∙ take_all (maps_for (pages_from 0 bs)) (maps_at s.layout n) (let count = directory_facts.is.maps in omega arith)

  blocks_same : blocks_in (Some d) ≡ bs
  blocks_same = (λ i. placed (pages_are i) (there.blocks_are i)) ∙ placed_again 0 bs

  count : length d.maps.space.present ≡ length blocks
  count = ap length pages_are ∙ length_pages 0 bs ∙ sym (ap length there.blocks_are ∙ length-map bs (λ (b : DirectoryBlock). b.entries))

  pub shape : txn.IsDirectory d
  shape = record { block_size = refl; limit = refl; settled = refl; size = refl; same_count = count; pages = pages_are ∙ ap (pages_from 0) (sym blocks_same) }

  pub paged : HasPages d
  paged = record { same_count = count; pages = shape.pages }

  -- ---- what the directory is made of

  owned_is : page_blocks d.maps.space.present ++ maps ≡ owned s.layout n
  owned_is = (λ i. (ap page_blocks pages_are ∙ page_blocks_from 0 bs) i ++ maps_same i) ∙ ap (λ (x : Space). block_numbers bs ++ (page_blocks x.present ++ maps_at s.layout n)) (sym directory_facts.is.space)

  low_block : (b : ℕ) → Owns s.layout n b → b < 2 ^ 32
  low_block b has = data_below s.layout b laid.log_blocks laid.units_limit (laid.use_of_blocks.data_blocks n b has)

  front : (xs ys : List ℕ) (b : ℕ) → among xs b ≡ true → among (xs ++ ys) b ≡ true
  front [] ys b has = absurd (cc)
  front (x ∷ xs) ys b has = elim (cases_Bool (b == x)) [
    | inl hit ↦ or_left _ _ hit
    | inr miss ↦ or_right (b == x) _ (front xs ys b (sym (ap (λ (t : Bool). t || among xs b) miss) ∙ has))
  ]

  pub extents_next : AreNext extents []
  extents_next =
      are_next bs few extents [] (subst (AllByRecursion HasPage) (sym there.extents_are) (some_pages (settled_at s.layout n))) pages_are
      (subst (AllByRecursion IsLow) (sym pages_are) (low_pages 0 bs (λ b has. low_block b (front (block_numbers bs) _ b has))))

  pub blocks_fit : AreBlocksOf blocks
  blocks_fit =
      let same = ap length there.blocks_are ∙ length-map bs (λ (b : DirectoryBlock). b.entries) in
      let most = few in
      record {
        few = omega arith;
        fit = subst (All (λ (b : Entries). used_by b ≤ 1020)) (sym there.blocks_are) (All-from_recursion _ (entries_by_block bs) (fit_each bs directory_facts.is.spelled));
        short = subst (All HasShortNames) (sym there.blocks_are) (All-from_recursion _ (entries_by_block bs) (short_all bs directory_facts.is.spelled));
        distinct = subst HasDistinctNames (sym there.blocks_are) (distinct_by_block bs there.names);
      }

  -- ---- its blocks

  module _ (m : Meta) (is : IsLoadedTo s n m) where
    not_below : (b : ℕ) → Owns s.layout n b → is_owned_below s.layout b n ≡ false
    not_below b has = elim (cases_Bool (is_owned_below s.layout b n)) [
      | inl hit ↦
          let other = owner s.layout b n hit in
          let same = laid.use_of_blocks.once other.ino n b other.has has in
          let low = other.low in
          absurd (omega arith)
      | inr miss ↦ miss
    ]

    pub can_take_all : CanTake (page_blocks d.maps.space.present ++ maps) m.free
    can_take_all =
        subst (λ (xs : List ℕ). CanTake xs m.free) (sym owned_is)
        (can_take (owned s.layout n) m.free (λ b has. is.free b ∙ and_from _ _ (laid.use_of_blocks.data_blocks n b has) (ap not (not_below b has))) (laid.use_of_blocks.apart n))

    pub directory_loaded : (k : Meta) → k.inodes ≡ with_inode m.inodes n inode → directory_of k n ≡ Some d → ((q : ℕ) → q ≢ n → directory_of k q ≡ directory_of m q)
        → k.free ≡ without_blocks maps (without_blocks (page_blocks d.maps.space.present) m.free) → k.first ≡ m.first → IsLoadedTo s (n + 1) k
    directory_loaded k inodes here others free first =
        let all : List ℕ = page_blocks d.maps.space.present ++ maps in
        let free_is : k.free ≡ without_blocks all m.free = free ∙ sym (without_both (page_blocks d.maps.space.present) maps m.free) in
        loaded_more m k s n is inode (Some d) there.inode_is inodes here others (there.kind_is, shape) (sym blocks_same) (sym maps_same)
        (λ b. ap (λ (f : FreeMapView). is_free_block f b) free_is ∙ free_without all m.free b can_take_all ∙ ap (λ (xs : List ℕ). is_free_block m.free b && not (among xs b)) owned_is)
        (subst (HasTaken m.free) (sym free_is) (all_has_taken all m.free can_take_all)) first
