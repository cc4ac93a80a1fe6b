-- A name more in a new last block of a directory.
use Rattle.std.proofs.Common.{◌≡◌, ◌≢◌, ℕ, ◌+◌, ◌-◌, ◌*◌, ◌<◌, ◌≤◌, max, Bool, true, false, cond, not, List, [], ◌∷◌, ◌++◌, length, drop, Option, Some, None, Ok, Err, refl, sym, ◌∙◌, ap, subst, arith, inl, inr, length-append, length-drop, set, get_or, lit≤}
use Rattle.std.specs.Prelude.{◌==◌, is_none, nat_le, nat_lt}
use Rattle.std.specs.Option.{unwrap_or}
use Rattle.std.specs.FinMap as map
use Rattle.std.specs.List.{position_or_len}
use Rattle.std.proofs.lemmas.Bool.{cases_Bool, cases_eq, eq-eqb, ne_eqb, lt-ltb, le-ltb, le-leb, and_left, and_right, and_parts}
use Rattle.std.proofs.lemmas.List.{length-map}
use Rattle.vx_alloc.specs.FreeMaps.{FreeMapView, free_blocks, place_of, is_free as is_free_block}
use Rattle.vx_base.proofs.Maps.{at_key, at_other}
use Rattle.vx_base.specs.Paths.{FileName, is_name}
use Rattle.vx_base.specs.declared.call.ExtAttrs.{ExtAttrs}
use Rattle.vx_base.specs.declared.inode.DirEntry.{DirEntry}
use Rattle.vx_base.specs.declared.inode.Inode.{Inode}
use Rattle.vx_base.specs.declared.kind.FileKind.TheVariants as kind
use Rattle.vx_base.specs.declared.refusal.Refusal.{Refusal}
use Rattle.vx_base.specs.declared.refusal.Refusal.TheVariants as no
use Rattle.vx_dir.specs.Directories.{Directory as Names, inode_of, blocks_with, has_place, has_room as fits}
use Rattle.vx_base.specs.declared.kind.Kind.{Kind}
use Rattle.vx_extents.specs.Extents.{Mapped, mapped_at, with_page}
use Rattle.vx_filemaps.specs.FileMaps.{IsFor, IsFileIn, HasTaken, IsReady, filling_of}
use Rattle.vx_filemaps.specs.Files.{FileView}
use Rattle.vx_filemaps.specs.declared.place.PlaceRefusal.{PlaceRefusal}
use Rattle.vx_filemaps.specs.declared.place.PlaceRefusal.TheVariants as refusal
use Rattle.vx_inode.specs.Tables.{inode_at, with_inode, with_change}
use Rattle.vx_layout.specs.Places.{Volume}
use Rattle.vx_model.specs.Contents.{settled_of}
use Rattle.vx_model.specs.EditLaws.{EditLaws}
use Rattle.vx_model.specs.Edits.{with_nodes, with_name, add_name}
use Rattle.vx_model.specs.Images.{among}
use Rattle.vx_model.specs.LaidOut.{Owns}
use Rattle.vx_model.specs.Layout.{Layout, DirectoryBlock, volume, blocks_at, block_numbers, maps_at, space_at, is_free, owned, pages_from, directory_filling, directory_request, next_block, block_of_page, with_last, add_entry, room_place}
use Rattle.vx_model.specs.Outcome.{Maybe, ◌>>=◌, unless}
use Rattle.vx_model.specs.State.{State}
use Rattle.vx_model.specs.Touching.{Touched, IsTouched, joined, entries_touched, new_blocks, units_of}
use Rattle.vx_model.specs.Tree.{Tree, IsDirectory, no_attrs}
use Rattle.vx_space.specs.Laws.{PlaceLaws}
use Rattle.vx_space.specs.Placing.{Filling, Request, block_of, place_fill, request_of}
use Rattle.vx_space.specs.Space.{Space, no_space, page_blocks, maps_for}
use Rattle.vx_space.specs.Uses.{IsGrown, blocks_in as used_blocks, uses}
use Rattle.vx_txn.specs.Calls.{HasGone}
use Rattle.vx_txn.specs.Directories.{DirectoryValue, IsDirectory as HasShape, placed, blocks_in, maps_in}
use Rattle.vx_txn.specs.Edits.{HasGrown, IsEdited, IsFull, IsGrownTo, IsRefused, IsWanted, blocks_past, refusal_of, units_from, place_answer}
use Rattle.vx_txn.specs.Metas.{HasDirectory, directory_of, IsStateOf, Stands}
use Rattle.vx_txn.specs.declared.edits.EditRefusal.TheVariants as edit
use Rattle.vx_txn.specs.declared.meta.Meta.{Meta}
use Rattle.vx_txn.proofs.Changes.{FreeAfter, edited, set_change, set_here, change_at, next_gone}
use Rattle.vx_txn.proofs.Claims.{free_is, owned_below, same_free}
use Rattle.vx_txn.proofs.NameEdits.{place_in, place_most, stands, own, answered_place, more_room, not_filled, named_by, refused_by, laid_out_named, numbers_placed, room_is, with_here, with_other}
use Rattle.vx_txn.proofs.NextPage.{IsNext, next_is, next_refused, page_of, none_behind, last_there, behind_last, pages_append, placed_append}
use Rattle.vx_txn.proofs.Settled.{length_placed, one_map, pages_here}
use Rattle.vx_txn.proofs.StateLaws.{inode_of_node, inode_of_option, DirectoryHere, directory_here, blocks_here, maps_here}

-- ---- what is used

pub among_uses : (xs : List ℕ) (b : ℕ) → among xs b ≡ nat_lt 0 (uses xs b)
among_uses [] b = refl
among_uses (x ∷ xs) b = elim (cases_Bool (b == x)) [
  | inl hit ↦ rw hit (sym (lt-ltb 0 (1 + uses xs b) (omega arith)))
  | inr miss ↦ let same : 0 + uses xs b ≡ uses xs b = omega arith in rw miss (among_uses xs b ∙ ap (nat_lt 0) (sym same))
]

pub same_among : (xs ys : List ℕ) (b : ℕ) → uses xs b ≡ uses ys b → among xs b ≡ among ys b
same_among xs ys b same = among_uses xs b ∙ ap (nat_lt 0) same ∙ sym (among_uses ys b)

-- ---- the free blocks

module _ (m k : Meta) (s : State) (is : Stands m s) (at : ℕ) (low : at < 128 * s.layout.units) (l : Layout) (f g : Filling) (units : l.units ≡ s.layout.units) (log : l.log_blocks ≡ s.layout.log_blocks)
    (pending : (q : ℕ) → l.pending q ≡ s.layout.pending q) (before : (q : ℕ) → f.free q ≡ is_free s.layout q) (after : (q : ℕ) → is_free_block k.free q ≡ g.free q)
    (old : owned s.layout at ≡ used_blocks f) (new : owned l at ≡ used_blocks g) (others : (n : ℕ) → n ≢ at → owned l n ≡ owned s.layout n) where
  used_same : (q : ℕ) → uses (used_blocks g) q ≡ uses (used_blocks f) q → is_free l q ≡ is_free s.layout q
  used_same q same =
      same_free s.layout l q units log (λ n. elim (cases_eq n at) [
        | inl here ↦ subst (λ (i : ℕ). among (owned l i) q ≡ among (owned s.layout i) q) (sym here)
            (ap (λ (xs : List ℕ). among xs q) new ∙ same_among (used_blocks g) (used_blocks f) q same ∙ ap (λ (xs : List ℕ). among xs q) (sym old))
        | inr other ↦ ap (λ (xs : List ℕ). among xs q) (others n other)
      ]) (pending q)

  used_more : (q : ℕ) → 1 ≤ uses (used_blocks g) q → is_free l q ≡ false
  used_more q some =
      let has : Owns l at q = ap (λ (xs : List ℕ). among xs q) new ∙ among_uses (used_blocks g) q ∙ lt-ltb 0 (uses (used_blocks g) q) (omega arith) in
      let low_there : at < 128 * l.units = omega arith in
      free_is l q ∙ and_right _ _ (and_left _ _ (ap not (owned_below l q (128 * l.units) at low_there has)))

  pub free_grown : IsGrown f g → HasTaken m.free k.free → FreeAfter m.free k.free l
  free_grown grown taken = record {
    free = λ q.
        let kept = grown.purposes_kept q in
        let more = grown.kept q in
        elim (cases_Bool (f.free q)) [
          | inl a ↦
              let one : cond {A = ℕ} (f.free q) 1 0 ≡ 1 = ap (λ (t : Bool). cond t 1 0) a in
              elim (cases_Bool (g.free q)) [
                | inl b ↦ let two : cond {A = ℕ} (g.free q) 1 0 ≡ 1 = ap (λ (t : Bool). cond t 1 0) b in after q ∙ b ∙ sym (used_same q (omega arith) ∙ sym (before q) ∙ a)
                | inr b ↦ let two : cond {A = ℕ} (g.free q) 1 0 ≡ 0 = ap (λ (t : Bool). cond t 1 0) b in after q ∙ b ∙ sym (used_more q (omega arith))
              ]
          | inr a ↦
              let one : cond {A = ℕ} (f.free q) 1 0 ≡ 0 = ap (λ (t : Bool). cond t 1 0) a in
              elim (cases_Bool (g.free q)) [
                | inl b ↦ let two : cond {A = ℕ} (g.free q) 1 0 ≡ 1 = ap (λ (t : Bool). cond t 1 0) b in absurd (omega arith)
                | inr b ↦ let two : cond {A = ℕ} (g.free q) 1 0 ≡ 0 = ap (λ (t : Bool). cond t 1 0) b in after q ∙ b ∙ sym (used_same q (omega arith) ∙ sym (before q) ∙ a)
              ]
        ];
    pending = λ q. ap (λ (v : FreeMapView). place_of v q) taken.rest ∙ is.is.pending q ∙ sym (pending q);
    units = ap (λ (v : FreeMapView). v.units) taken.rest;
    first = ap (λ (v : FreeMapView). v.first) taken.rest;
    per_unit = ap (λ (v : FreeMapView). v.per_unit) taken.rest;
    bar = ap (λ (v : FreeMapView). v.bar) taken.rest;
    bits = taken.bits;
    places = ap (λ (v : FreeMapView). length v.pending) taken.rest;
  }

-- ---- what is wanted

-- what is said of requests by the maps in memory
pub record RequestLaws : Type 0 where
  pub request : (v : Volume) (free : ℕ → Bool) (x : Space) (maps : List ℕ) (m : FileView) (view : FreeMapView) (attrs : ExtAttrs) (first need : ℕ) → IsFileIn v free x maps m view → attrs.fixed ≡ 0
      → IsFor (request_of v free attrs first need) view first
  pub count : (v : Volume) (free : ℕ → Bool) (x : Space) (maps : List ℕ) (m : FileView) (view : FreeMapView) (attrs : ExtAttrs) (first need : ℕ) → IsFileIn v free x maps m view
      → (request_of v free attrs first need).free ≡ free_blocks view

pub is_ready : (m : Meta) (s : State) → IsStateOf m s → IsReady m.free
is_ready m s is = record {
  per_unit = let e : m.free.per_unit ≡ 4063 = is.per_unit in omega arith;
  apart = λ b free.
      let parts = and_parts _ _ ((and_parts _ _ (sym (is.free b ∙ free_is s.layout b) ∙ free)).1) in
      is.pending b ∙ none_from (s.layout.pending b) parts.1;
}
  where
    none_from : (o : Option ℕ) → is_none o ≡ true → o ≡ None
    none_from None is = refl
    none_from (Some x) is = absurd (cc)

module _ (place_laws : RequestLaws) (m : Meta) (s : State) (is : Stands m s) (at : ℕ) (d : DirectoryValue) (there : directory_of m at ≡ Some d) where
  abbrev pub wanted : Request
  wanted = directory_request s.layout 8

  abbrev shape : HasShape d
  shape = (directory_here m s is at d there).shape

  abbrev old_pages : List Mapped
  old_pages = d.maps.space.present

  abbrev pub next : ℕ
  next = length d.names.blocks

  pub count_here : length (blocks_at s.layout at) ≡ next
  count_here = ap length (blocks_here m s is at (Some d) there) ∙ length_placed old_pages d.names.blocks shape.same_count

  file_in : IsFileIn (volume s.layout) (is_free s.layout) d.maps.space d.maps.maps d.maps m.free
  file_in = record {
    space = refl;
    same_maps = refl;
    same_free = is.is.free;
    same_volume = λ i. record { block = 1024; first = (is.is.free_first ∙ is.is.first) i; units = (is.is.free_units ∙ sym is.is.units) i };
  }

  pub absent : mapped_at old_pages next ≡ None
  absent = ap (λ (p : List Mapped). mapped_at p next) (sym (pages_here m s is at d there)) ∙ none_behind 0 (blocks_at s.layout at) next (let count = count_here in omega arith)

  pub is_wanted : IsWanted wanted m.free d
  is_wanted = record {
    is_for = place_laws.request (volume s.layout) (is_free s.layout) d.maps.space d.maps.maps d.maps m.free no_attrs 8 1 file_in refl;
    need = sym (ap (λ (o : Option (ℕ × Kind)). cond {A = ℕ} (is_none o) 1 0 + 0) absent);
    count = place_laws.count (volume s.layout) (is_free s.layout) d.maps.space d.maps.maps d.maps m.free no_attrs 8 1 file_in;
  }

  filling_is : directory_filling s.layout at ≡ filling_of m.free d.maps
  filling_is = λ i. record { free = λ b. sym (is.is.free b) i; pages = pages_here m s is at d there i; maps = maps_here m s is at (Some d) there i }

  space_is : d.maps.space ≡ record { settled = []; present = old_pages; size = 0 }
  space_is = λ i. record { settled = shape.settled i; present = old_pages; size = shape.size i }

  pub next_same : (first : ℕ) → first ≡ 8 → next_block s.layout first at ≡ place_fill wanted d.maps.space next 1 (filling_of m.free d.maps)
  unfolding next_block
  next_same first eight =
      ap (λ (k : ℕ). place_fill (directory_request s.layout k) no_space (length (blocks_at s.layout at)) 1 (directory_filling s.layout at)) eight
      ∙ ap (λ (k : ℕ). place_fill wanted no_space k 1 (directory_filling s.layout at)) count_here
      ∙ ap (λ (f : Filling). place_fill wanted no_space next 1 f) filling_is
      ∙ sym (ap (λ (x : Space). place_fill wanted x next 1 (filling_of m.free d.maps)) space_is)

-- ---- a name in a new block

module _ (laws : EditLaws) (place_laws : RequestLaws) (space_laws : PlaceLaws) (base s : State) (m k : Meta) (t v : Touched) (gone : HasGone base s m t) (at : ℕ) (d : DirectoryValue) (there : directory_of m at ≡ Some d) (name : FileName) (ino : ℕ)
    (fresh : inode_of d.names name ≡ None) (i : ℕ) (answer : place_answer d.names name ≡ Ok i) (past : length d.names.blocks ≤ i) where
  abbrev is : Stands m s
  is = stands laws base s m k t v gone at d there

  abbrev mine : DirectoryHere s.layout at (inode_at m.inodes at) (map.get s.tree.nodes at) d
  mine = own laws base s m k t v gone at d there

  abbrev entry : DirEntry
  entry = record { ino = ino; name = name }

  abbrev first_extent : ℕ
  first_extent = s.tree.tunables.initial_extent_size

  eight : first_extent ≡ 8
  eight = ap (λ (x : Tree). x.tunables.initial_extent_size) gone.plain.rest

  placed_at : (place_in entry d.names.blocks ≡ i) × (has_place d.names (5 + length name) ≡ true)
  placed_at = answered_place d mine.shape name ino fresh i answer

  full : length d.names.blocks ≤ place_in entry d.names.blocks
  full = let same = placed_at.0 in omega arith

  pub below : length d.names.blocks < 64
  below = more_room d mine.shape name ino fresh full placed_at.1

  -- no place is behind the last block but the next one
  pub index_is : i ≡ length d.names.blocks
  index_is =
      let most : place_in entry d.names.blocks ≤ length d.names.blocks = place_most entry d.names.blocks in
      let same = placed_at.0 in omega arith

  may_have_more : nat_le (length (blocks_at s.layout at) + 1) s.layout.directory_limit ≡ true
  may_have_more =
      let count = count_here place_laws m s is at d there in
      let limit : s.layout.directory_limit ≡ 64 = gone.state.limit in
      let few = below in
      le-leb _ _ (omega arith)

  new_block_is : add_entry s.layout first_extent at entry ≡ (place_fill (wanted place_laws m s is at d there) d.maps.space (length d.names.blocks) 1 (filling_of m.free d.maps) >>= (λ f. Ok (with_last s.layout at entry f)))
  new_block_is =
      not_filled laws base s m k t v gone at d there name ino full
      ∙ ap (λ (c : Bool). unless c (no.TooBig (1024 * (length (blocks_at s.layout at) + 1))) (next_block s.layout first_extent at >>= (λ f. Ok (with_last s.layout at entry f)))) may_have_more
      ∙ ap (λ (r : Maybe Filling). r >>= (λ f. Ok (with_last s.layout at entry f))) (next_same place_laws m s is at d there first_extent eight)

  -- ---- where no block is there

  refused_with : (w : Refusal) → place_fill (wanted place_laws m s is at d there) d.maps.space (length d.names.blocks) 1 (filling_of m.free d.maps) ≡ Err w → IsRefused (add_name s at name ino) (edit.Refused w)
  refused_with w err = (
    refused_by laws base s m k t v gone at d there name ino w (new_block_is ∙ ap (λ (r : Maybe Filling). r >>= (λ f. Ok (with_last s.layout at entry f))) err),
    next_refused (wanted place_laws m s is at d there) d.maps.space (length d.names.blocks) (filling_of m.free d.maps) refl (absent place_laws m s is at d there) w err,
  )

  pub full_refused : (w : Refusal) → IsFull d m.free (refusal.Refused w) → IsRefused (add_name s at name ino) (edit.Refused w)
  full_refused w none = refused_with w (none (wanted place_laws m s is at d there) (is_wanted place_laws m s is at d there))

  pub refused_as : (why : PlaceRefusal) → IsFull d m.free why → IsRefused (add_name s at name ino) (refusal_of why)
  refused_as (refusal.Refused w) none = full_refused w none
  refused_as refusal.NoMemory none = tt

  -- ---- the blocks that were placed

  module _ (new : DirectoryValue) (free : FreeMapView) (grown : HasGrown entry d new m.free free) where
    abbrev f : Filling
    f = filling_of m.free d.maps

    abbrev g : Filling
    g = filling_of free new.maps

    filled : place_fill (wanted place_laws m s is at d there) d.maps.space (length d.names.blocks) 1 f ≡ Ok g
    filled = grown.placed (wanted place_laws m s is at d there) (is_wanted place_laws m s is at d there)

    nx : IsNext (length d.names.blocks) d.maps.space f g
    nx = next_is (wanted place_laws m s is at d there) d.maps.space (length d.names.blocks) f refl (absent place_laws m s is at d there) g filled

    abbrev b : ℕ
    b = nx.block

    abbrev n : ℕ
    n = length d.names.blocks

    abbrev last : DirectoryBlock
    last = record { block = b; entries = entry ∷ [] }

    count_is : n ≡ 0 + length (blocks_at s.layout at)
    count_is = let count = count_here place_laws m s is at d there in omega arith

    from_blocks : new.maps.space.present ≡ pages_from 0 (blocks_at s.layout at) ++ page_of n b ∷ []
    from_blocks = nx.pages ∙ ap (with_page (page_of n b)) (sym (pages_here m s is at d there)) ∙ behind_last 0 (blocks_at s.layout at) n b count_is

    new_pages : new.maps.space.present ≡ d.maps.space.present ++ page_of n b ∷ []
    new_pages = from_blocks ∙ ap (λ (p : List Mapped). p ++ page_of n b ∷ []) (pages_here m s is at d there)

    names_are : new.names ≡ record d.names { blocks = d.names.blocks ++ (entry ∷ []) ∷ [] }
    names_are =
        grown.names
        ∙ ap (λ (x : ℕ). record d.names { blocks = blocks_with d.names.blocks x entry }) (ap (λ (z : ℕ). position_or_len (fits (z - 4) (5 + length name)) d.names.blocks) mine.shape.block_size)
        ∙ ap (λ (c : Bool). record d.names { blocks = cond c (set d.names.blocks (place_in entry d.names.blocks) (get_or d.names.blocks (place_in entry d.names.blocks) [] ++ entry ∷ [])) (d.names.blocks ++ (entry ∷ []) ∷ []) }) (le-ltb (place_in entry d.names.blocks) n full)

    value_blocks : blocks_in (Some new) ≡ placed d.maps.space.present d.names.blocks ++ last ∷ []
    value_blocks = (λ j. placed (new_pages j) (names_are j).blocks) ∙ placed_append d.maps.space.present d.names.blocks (page_of n b) (entry ∷ []) mine.shape.same_count

    length_new : length new.maps.space.present ≡ n + 1
    length_new = ap length new_pages ∙ length-append d.maps.space.present (page_of n b ∷ []) ∙ (let same = mine.shape.same_count in omega arith)

    length_names : length new.names.blocks ≡ n + 1
    length_names = ap (λ (x : Names). length x.blocks) names_are ∙ length-append d.names.blocks ((entry ∷ []) ∷ [])

    pub new_shape : HasShape new
    new_shape = record {
      block_size = ap (λ (x : Names). x.block_size) names_are ∙ mine.shape.block_size;
      limit = ap (λ (x : Names). x.limit) names_are ∙ mine.shape.limit;
      settled = ap (λ (x : Space). x.settled) grown.space ∙ mine.shape.settled;
      size = ap (λ (x : Space). x.size) grown.space ∙ mine.shape.size;
      same_count = length_new ∙ sym length_names;
      pages =
          new_pages ∙ ap (λ (p : List Mapped). p ++ page_of n b ∷ []) mine.shape.pages
          ∙ ap (λ (x : ℕ). pages_from 0 (placed d.maps.space.present d.names.blocks) ++ page_of x b ∷ []) (let same = length_placed d.maps.space.present d.names.blocks mine.shape.same_count in omega arith)
          ∙ sym (pages_append 0 (placed d.maps.space.present d.names.blocks) last) ∙ ap (pages_from 0) (sym value_blocks);
    }

    -- one map block more at most
    pub grown_few : length (blocks_past n (length d.maps.maps) (Some new)) ≤ 2
    grown_few =
        let pages : length (drop n (page_blocks new.maps.space.present)) ≡ length (page_blocks new.maps.space.present) - n = length-drop n (page_blocks new.maps.space.present) in
        let maps : length (drop (length d.maps.maps) new.maps.maps) ≡ length new.maps.maps - length d.maps.maps = length-drop (length d.maps.maps) new.maps.maps in
        let both = length-append (drop n (page_blocks new.maps.space.present)) (drop (length d.maps.maps) new.maps.maps) in
        let blocks : length (page_blocks new.maps.space.present) ≡ length new.maps.space.present = length-map new.maps.space.present (λ (x : Mapped). x.block) in
        let count : length new.maps.maps ≡ length d.maps.maps + (max (maps_for d.maps.space.settled) (maps_for new.maps.space.present) - length d.maps.maps) = nx.count in
        let none : maps_for d.maps.space.settled ≡ 0 = ap maps_for mine.shape.settled in
        let one : maps_for new.maps.space.present ≤ 1 = one_map new.maps.space.present (let len = length_new in let few = below in omega arith) in
        let len = length_new in
        omega arith

    -- ---- the state after it

    abbrev placed_blocks : List DirectoryBlock
    placed_blocks = blocks_at s.layout at ++ record { block = block_of_page g.pages (length (blocks_at s.layout at)); entries = entry ∷ [] } ∷ []

    abbrev pub after : State
    after = record { tree = with_nodes s.tree (map.insert s.tree.nodes at (with_name mine.tree name ino)); layout = with_last s.layout at entry g }

    pub after_is : add_name s at name ino ≡ Ok after
    after_is = named_by laws base s m k t v gone at d there name ino (with_last s.layout at entry g) (new_block_is ∙ ap (λ (r : Maybe Filling). r >>= (λ x. Ok (with_last s.layout at entry x))) filled)

    last_block : block_of_page g.pages (length (blocks_at s.layout at)) ≡ b
    last_block =
        ap (λ (p : List Mapped). block_of_page p (length (blocks_at s.layout at))) from_blocks
        ∙ ap (λ (x : ℕ). block_of_page (pages_from 0 (blocks_at s.layout at) ++ page_of n b ∷ []) x) (count_here place_laws m s is at d there)
        ∙ ap (λ (o : Option (ℕ × Kind)). unwrap_or (block_of o) 0) (last_there 0 (blocks_at s.layout at) n b count_is)

    placed_are : placed_blocks ≡ blocks_in (Some new)
    placed_are =
        (λ j. blocks_here m s is at (Some d) there j ++ record { block = last_block j; entries = entry ∷ [] } ∷ []) ∙ sym value_blocks

    pub blocks_after : blocks_at after.layout at ≡ blocks_in (Some new)
    blocks_after = with_here s.layout at placed_blocks ∙ placed_are

    pub maps_after : maps_at after.layout at ≡ new.maps.maps
    maps_after = ap (λ (c : Bool). cond c g.maps (s.layout.maps at)) (eq-eqb at at refl)

    maps_others : (q : ℕ) → q ≢ at → maps_at after.layout q ≡ maps_at s.layout q
    maps_others q ne = ap (λ (c : Bool). cond c g.maps (s.layout.maps q)) (ne_eqb q at ne)

    numbers_after : block_numbers (blocks_at after.layout at) ≡ page_blocks new.maps.space.present
    numbers_after = ap block_numbers blocks_after ∙ numbers_placed new.maps.space.present new.names.blocks new_shape.same_count

    length_after : length (blocks_at after.layout at) ≡ n + 1
    length_after = ap length blocks_after ∙ length_placed new.maps.space.present new.names.blocks new_shape.same_count ∙ length_names

    old_owned : owned s.layout at ≡ used_blocks f
    old_owned = λ j. (ap block_numbers (blocks_here m s is at (Some d) there) ∙ numbers_placed d.maps.space.present d.names.blocks mine.shape.same_count) j ++ (page_blocks (mine.is.space j).present ++ maps_here m s is at (Some d) there j)

    new_owned : owned after.layout at ≡ used_blocks g
    new_owned = λ j. numbers_after j ++ (page_blocks (mine.is.space j).present ++ maps_after j)

    others_owned : (q : ℕ) → q ≢ at → owned after.layout q ≡ owned s.layout q
    others_owned q ne = λ j. block_numbers (with_other s.layout at placed_blocks q ne j) ++ (page_blocks (space_at s.layout q).present ++ maps_others q ne j)

    module _ (legal : is_name name ≡ true) (low : ino < 128 * m.inodes.units) (here : directory_of k at ≡ Some new) (other : (q : ℕ) → q ≢ at → directory_of k q ≡ directory_of m q)
        (inodes : k.inodes ≡ with_change m.inodes at (λ x. record x { size = 1024 * (i + 1) })) (same_free : k.free ≡ free) (first : k.first ≡ m.first) where
      new_inode : Inode
      new_inode = inode_of_node (settled_of after.layout at) (with_name mine.tree name ino)

      size_is : 1024 * (i + 1) ≡ 1024 * length (blocks_at after.layout at) + (space_at s.layout at).size
      size_is =
          let none : (space_at s.layout at).size ≡ 0 = ap (λ (x : Space). x.size) mine.is.space in
          let count = length_after in
          let index = index_is in
          omega arith

      set_is : k.inodes ≡ with_inode m.inodes at new_inode
      unfolding new_inode
      set_is =
          inodes ∙ change_at m.inodes at (λ x. record x { size = 1024 * (i + 1) }) (inode_of_node (settled_of s.layout at) (IsDirectory mine.tree)) mine.inode_there
          ∙ ap (with_inode m.inodes at) (λ j. record { kind = kind.Directory; mode = mine.tree.mode; nlink = 1; size = size_is j; attrs = no_attrs })

      grown_state : IsStateOf k after
      unfolding new_inode
      grown_state =
          edited m k s after at gone.state (set_change m k at new_inode set_is other first)
          (record {
            nodes = λ q ne. at_other s.tree.nodes at (with_name mine.tree name ino) q ne;
            blocks = λ q ne. with_other s.layout at placed_blocks q ne;
            maps = maps_others;
            spaces = λ q ne. refl;
            units = refl;
            log_blocks = refl;
            limit = refl;
          })
          (record {
            inode = set_here m k at new_inode set_is ∙ sym (ap (inode_of_option (settled_of after.layout at)) (at_key s.tree.nodes at (with_name mine.tree name ino)));
            blocks = blocks_after ∙ sym (ap blocks_in here);
            maps = maps_after ∙ sym (ap maps_in here);
            kind = subst (λ (o : Option DirectoryValue). HasDirectory (inode_at k.inodes at) o) (sym here) (subst (λ (o : Option Inode). HasDirectory o (Some new)) (sym (set_here m k at new_inode set_is)) (refl, new_shape));
          })
          (free_grown m k s is at mine.high after.layout f g refl refl (λ q. refl) gone.state.free (λ q. ap (λ (x : FreeMapView). is_free_block x q) same_free) old_owned new_owned others_owned
          (space_laws.grows (wanted place_laws m s is at d there) d.maps.space n 1 f g (lit≤ tt) filled) (subst (HasTaken m.free) (sym same_free) grown.taken))

      abbrev pub grown_touched : Touched
      grown_touched = record {
        inodes = at ∷ [];
        blocks = record { ino = at; index = i } ∷ [];
        maps = at ∷ [];
        units = units_from m.first (blocks_past i (length d.maps.maps) (Some new));
      }

      touches : IsTouched s after grown_touched
      touches =
          let more : (length (blocks_at after.layout at) == length (blocks_at s.layout at)) ≡ false = ne_eqb _ _ (λ same. let a = length_after in let c = count_here place_laws m s is at d there in absurd (omega arith)) in
          let room : room_place (blocks_at s.layout at) entry ≡ i =
          ap (λ (bs : List DirectoryBlock). room_place bs entry) (blocks_here m s is at (Some d) there) ∙ room_is entry d.maps.space.present d.names.blocks (place_in entry d.names.blocks) mine.shape.same_count refl ∙ placed_at.0 in
          let old_count : length (blocks_at s.layout at) ≡ i = count_here place_laws m s is at d there ∙ sym index_is in
          let old_maps : length (maps_at s.layout at) ≡ length d.maps.maps = ap length (maps_here m s is at (Some d) there) in
          let blocks : new_blocks s after at ≡ blocks_past i (length d.maps.maps) (Some new) = λ j. drop (old_count j) (numbers_after j) ++ drop (old_maps j) (maps_after j) in
          subst (λ (x : Touched). IsTouched s after x)
          (ap (λ (c : Bool). cond c (entries_touched at (room_place (blocks_at s.layout at) entry)) (record {
            inodes = at ∷ [];
            blocks = record { ino = at; index = room_place (blocks_at s.layout at) entry } ∷ [];
            maps = at ∷ [];
            units = units_of (volume after.layout) (new_blocks s after at);
          })) more
          ∙ (λ j. record { inodes = at ∷ []; blocks = record { ino = at; index = room j } ∷ []; maps = at ∷ []; units = units_from (sym gone.state.first j) (blocks j) }))
          (laws.added_touches s after at ino name gone.laid_out after_is)

      pub grown_gone : v ≡ joined t grown_touched → IsEdited base (add_name s at name ino) k v
      grown_gone touched =
          subst (λ (r : Maybe State). IsEdited base r k v) (sym after_is)
          (next_gone laws base s after m k t grown_touched v gone grown_state (laid_out_named laws base s m k t v gone at d there name ino after legal fresh low after_is) (laws.added_plain s after at ino name gone.plain after_is) touches touched)

-- the directory that has grown
pub record IsGrownAt (e : DirEntry) (d : DirectoryValue) (o : Option DirectoryValue) (free free_new : FreeMapView) : Type 0 where
  pub now : DirectoryValue
  pub is : o ≡ Some now
  pub grown : HasGrown e d now free free_new

pub grown_at : (e : DirEntry) (d : DirectoryValue) (o : Option DirectoryValue) (free free_new : FreeMapView) → IsGrownTo e d o free free_new → IsGrownAt e d o free free_new
grown_at e d None free free_new to = absurd to
grown_at e d (Some x) free free_new to = record { now = x; is = refl; grown = to }
