-- Blocks that a write gets.
use Rattle.std.proofs.Common.{◌≡◌, ℕ, zero, suc, ◌+◌, ◌*◌, ◌<◌, ◌≤◌, Bool, true, false, cond, List, length, Result, Ok, Err, inl, inr, refl, sym, ◌∙◌, ap, subst, arith}
use Rattle.std.specs.Prelude.{IfErr, OnOk, not}
use Rattle.std.proofs.lemmas.Bool.{cases_eq, and_left, and_right, or_left, or_right}
use Rattle.vx_layout.specs.Places.{Volume}
use Rattle.vx_alloc.specs.FreeMaps.{FreeMapView, is_free as is_free_block, place_of, free_blocks}
use Rattle.vx_base.specs.declared.call.ExtAttrs.{ExtAttrs}
use Rattle.vx_filemaps.specs.Files.{FileView}
use Rattle.vx_filemaps.specs.FileMaps.{HasTaken, IsFileIn, IsFor, IsRefusal, IsRequest, filling_of}
use Rattle.vx_filemaps.specs.declared.place.PlaceRefusal.{PlaceRefusal}
use Rattle.vx_space.specs.Outcome.{Maybe}
use Rattle.vx_space.specs.Space.{Space}
use Rattle.vx_space.specs.Placing.{Filling, Request, missing_in, pages_needed, place_fill, place_write, request_of}
use Rattle.vx_space.specs.Laws.{PlaceLaws}
use Rattle.vx_space.specs.Uses.{IsGrown, blocks_in, uses}
use Rattle.vx_model.specs.Tree.{File}
use Rattle.vx_model.specs.Images.{among}
use Rattle.vx_model.specs.Layout.{Layout, volume, blocks_at, space_at, maps_at, block_numbers, owned, is_owned_below, is_free}
use Rattle.vx_model.specs.State.{State}
use Rattle.vx_model.specs.LaidOut.{Owns}
use Rattle.vx_model.proofs.Uses.{uses_append, is_among}
use Rattle.vx_model.specs.Bytes.{file_filling, file_request, filled, write_filling}
use Rattle.vx_model.proofs.Changing.{elsewhere, file_held, owned_here, owned_same}
use Rattle.vx_model.proofs.FileSuccesses.{file_ok}
use Rattle.vx_blockmaps.specs.BlockMaps.{HasFilling, IsFreeMapOf, StandFor}
use Rattle.vx_blockmaps.proofs.Blocks.{free_is, same_free}
use Rattle.vx_blockmaps.proofs.Calls.{maps_of}
use Rattle.vx_blockmaps.proofs.Leaving.{same_among}

owned_below : (l : Layout) (b n i : ℕ) → i < n → Owns l i b → is_owned_below l b n ≡ true
unfolding is_owned_below
owned_below l b zero i lt has = absurd (omega (arith, lt))
owned_below l b (suc n) i lt has = elim (cases_eq i n) [
  | inl here ↦ or_left _ _ (ap (λ (k : ℕ). among (owned l k) b) (sym here) ∙ has)
  | inr other ↦ or_right (among (owned l n) b) _ (owned_below l b n i (omega (arith, lt, other)) has)
]

one_if : (t u : Bool) → t ≡ u → ◌≡◌ {A = ℕ} (cond t 1 0) (cond u 1 0)
one_if t u same = ap (λ (x : Bool). cond {A = ℕ} x 1 0) same

-- ---- free blocks become the file's

module _ (l : Layout) (at : ℕ) (low : at < 128 * l.units) (g : Filling) (grown : IsGrown (file_filling l at) g) where
  abbrev k : Layout
  k = filled l at g

  abbrev f : Filling
  f = file_filling l at

  old_uses : (b : ℕ) → uses (owned l at) b ≡ uses (block_numbers (blocks_at l at)) b + uses (blocks_in f) b
  old_uses b = uses_append (block_numbers (blocks_at l at)) (blocks_in f) b

  new_uses : (b : ℕ) → uses (owned k at) b ≡ uses (block_numbers (blocks_at l at)) b + uses (blocks_in g) b
  new_uses b = ap (λ (bs : List ℕ). uses bs b) (owned_here l at (record (space_at l at) { present = g.pages }) g.maps l.pending) ∙ uses_append (block_numbers (blocks_at l at)) (blocks_in g) b

  as_before : (b : ℕ) → uses (blocks_in g) b ≡ uses (blocks_in f) b → is_free k b ≡ is_free l b
  as_before b same =
      same_free l k b refl refl (λ n. elim (cases_eq n at) [
        | inl here ↦ subst (λ (i : ℕ). among (owned k i) b ≡ among (owned l i) b) (sym here) (let new = new_uses b in let old = old_uses b in same_among (owned k at) (owned l at) b (omega (arith, new, old, same)))
        | inr other ↦ ap (λ (bs : List ℕ). among bs b) (owned_same l k n (elsewhere l at (record (space_at l at) { present = g.pages }) g.maps l.pending n other))
      ]) refl

  taken : (b : ℕ) → 1 ≤ uses (blocks_in g) b → is_free k b ≡ false
  taken b some =
      let has : Owns k at b = (let new = new_uses b in is_among (owned k at) b (omega (arith, new, some))) in
      free_is k b ∙ and_right _ _ (and_left _ _ (ap not (owned_below k b (128 * k.units) at low has)))

  free_by : (b : ℕ) (t u : Bool) → g.free b ≡ t → is_free l b ≡ u → g.free b ≡ is_free k b
  free_by b true true now was =
      let one = one_if (g.free b) true now in
      let before = one_if (is_free l b) true was in
      let all = grown.purposes_kept b in
      now ∙ sym was ∙ sym (as_before b (omega (arith, one, before, all)))
  free_by b true false now was =
      let one = one_if (g.free b) true now in
      let before = one_if (is_free l b) false was in
      let kept = grown.kept b in
      let all = grown.purposes_kept b in
      absurd (omega (arith, one, before, kept, all))
  free_by b false true now was =
      let one = one_if (g.free b) false now in
      let before = one_if (is_free l b) true was in
      let all = grown.purposes_kept b in
      now ∙ sym (taken b (omega (arith, one, before, all)))
  free_by b false false now was =
      let one = one_if (g.free b) false now in
      let before = one_if (is_free l b) false was in
      let all = grown.purposes_kept b in
      now ∙ sym was ∙ sym (as_before b (omega (arith, one, before, all)))

  pub grown_free : (v w : FreeMapView) → IsFreeMapOf v l → HasTaken v w → ((b : ℕ) → is_free_block w b ≡ g.free b) → IsFreeMapOf w k
  grown_free v w is has same = record {
    free = λ b. same b ∙ free_by b (g.free b) (is_free l b) refl refl;
    pending = λ b. (λ i. place_of (has.rest i) b) ∙ is.pending b;
    units = ap (λ (x : FreeMapView). x.units) has.rest ∙ is.units;
    first = ap (λ (x : FreeMapView). x.first) has.rest ∙ is.first;
    per_unit = ap (λ (x : FreeMapView). x.per_unit) has.rest ∙ is.per_unit;
    bar = ap (λ (x : FreeMapView). x.bar) has.rest ∙ is.bar;
    bits = has.bits ∙ is.bits ∙ ap (λ (x : FreeMapView). 4096 * x.units) (sym has.rest);
    places = ap (λ (x : FreeMapView). length x.pending) has.rest ∙ is.places ∙ ap (λ (x : FreeMapView). 4096 * x.units) (sym has.rest);
  }

-- ---- what the maps in memory are asked for

-- what is said of a write by a file's space is said of it by the maps in memory
abbrev pub WriteIs : Type 0
WriteIs = (v : Volume) (free : ℕ → Bool) (x : Space) (maps : List ℕ) (m : FileView) (view : FreeMapView) (attrs : ExtAttrs) (first from n : ℕ) → IsFileIn v free x maps m view
    → place_write v free attrs first x maps from n ≡ place_fill (request_of v free attrs first (pages_needed attrs x.present from n)) m.space from n (filling_of view m)

abbrev pub RequestIs : Type 0
RequestIs = (v : Volume) (free : ℕ → Bool) (x : Space) (maps : List ℕ) (m : FileView) (view : FreeMapView) (attrs : ExtAttrs) (first need : ℕ) → IsFileIn v free x maps m view → attrs.fixed ≡ 0
    → IsFor (request_of v free attrs first need) view first

abbrev pub CountIs : Type 0
CountIs = (v : Volume) (free : ℕ → Bool) (x : Space) (maps : List ℕ) (m : FileView) (view : FreeMapView) (attrs : ExtAttrs) (first need : ℕ) → IsFileIn v free x maps m view
    → (request_of v free attrs first need).free ≡ free_blocks view

module _ (v : FreeMapView) (m : FileView) (s : State) (ino : ℕ) (f : File) (is : StandFor v m s ino f) (first from n : ℕ) where
  abbrev l : Layout
  l = s.layout

  abbrev r : Request
  r = file_request l first ino f from n

  file_in : IsFileIn (volume l) (is_free l) (space_at l ino) (maps_at l ino) m v
  file_in = record {
    space = is.maps.space;
    same_maps = is.maps.maps;
    same_free = is.free.free;
    same_volume = λ i. record { block = 1024; first = is.free.first i; units = is.free.units i };
  }

  module _ (needs : PlaceLaws) (request : RequestIs) (count : CountIs) (plain : f.attrs.fixed ≡ 0) (within : from + n ≤ 65536) where
    pub asked : IsRequest r m.space.present v first from n
    asked = record {
      is_for = request (volume l) (is_free l) (space_at l ino) (maps_at l ino) m v f.attrs first (pages_needed f.attrs (space_at l ino).present from n) file_in plain;
      need = needs.needs f.attrs (space_at l ino).present from n plain within ∙ ap (λ (x : Space). missing_in x.present from n) (sym is.maps.space);
      count = count (volume l) (is_free l) (space_at l ino) (maps_at l ino) m v f.attrs first (pages_needed f.attrs (space_at l ino).present from n) file_in;
    }

  module _ (write : WriteIs) where
    written_is : write_filling l first ino f from n ≡ place_fill r m.space from n (filling_of v m)
    unfolding write_filling
    written_is = write (volume l) (is_free l) (space_at l ino) (maps_at l ino) m v f.attrs first from n file_in

    pub refusal : {A : Type 0} (answer : Result A PlaceRefusal) → IfErr answer (IsRefusal (place_fill r m.space from n (filling_of v m))) → IfErr answer (IsRefusal (write_filling l first ino f from n))
    refusal answer h = subst (λ (x : Maybe Filling). IfErr answer (IsRefusal x)) (sym written_is) h

    -- what was written by the definitions
    placed_is : (g : Filling) → write_filling l first ino f from n ≡ Ok g → place_fill r (space_at l ino) from n (file_filling l ino) ≡ Ok g
    unfolding write_filling
    placed_is g h = h

    module _ (laws : PlaceLaws) (some : 1 ≤ first) (w : FreeMapView) (k : FileView) (settled : k.space ≡ record m.space { present = k.space.present }) (taken : HasTaken v w) where
      low : ino < 128 * l.units
      low = (file_held s is.laid_out ino f (file_ok s.tree.nodes ino f is.there)).2

      filling : place_fill r m.space from n (filling_of v m) ≡ Ok (filling_of w k) → HasFilling l first ino f from n w k
      filling h =
          let g : Filling = filling_of w k in
          let placed : write_filling l first ino f from n ≡ Ok g = written_is ∙ h in
          record {
            filling = g;
            placed = placed;
            free = grown_free l ino low g (laws.grows r (space_at l ino) from n (file_filling l ino) g some (placed_is g placed)) v w is.free taken (λ b. refl);
            maps =
                maps_of l ino (record (space_at l ino) { present = k.space.present }) k.maps l.pending k
                (settled ∙ ap (λ (x : Space). record x { present = k.space.present }) is.maps.space) refl;
          }

      pub filling_by : {A : Type 0} (answer : Result A PlaceRefusal) → OnOk answer (place_fill r m.space from n (filling_of v m) ≡ Ok (filling_of w k)) → OnOk answer (HasFilling l first ino f from n w k)
      filling_by (Ok x) h = filling h
      filling_by (Err why) h = tt
