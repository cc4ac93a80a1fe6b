-- The map of free blocks after a change, block by block.
use Rattle.std.proofs.Common.{◌≡◌, ◌≢◌, ℕ, zero, suc, ◌-◌, ◌*◌, ◌%◌, ◌<◌, ◌≤◌, Bool, true, false, not, ◌&&◌, List, [], ◌∷◌, ◌++◌, subst, length, Option, Some, None, refl, sym, ◌∙◌, ap, arith, inl, inr, set, get_or, replicate, length-set}
use Rattle.std.specs.Prelude.{is_some}
use Rattle.std.proofs.lemmas.Bool.{eqb-true, eq-eqb, both_ways, cases_Bool, cases_lt, and_left, and_right, and_parts, and_from, leb-true, ltb-true, lt-leb}
use Rattle.std.specs.Prelude.{◌==◌}
use Rattle.vx_space.specs.Placing.{without}
use Rattle.vx_filemaps.specs.FileMaps.{HasTaken, IsReady, IsTaken}
use Rattle.vx_alloc.specs.FreeMaps.{FreeMapView, all_free, is_data, is_free, is_in_set, is_barred, place_of, with_bit, with_place, is_used}

pub at_set : {X : Type 0} (xs : List X) (i : ℕ) (x d : X) → i < length xs → get_or (set xs i x) i d ≡ x
at_set [] i x d h = absurd (omega arith)
at_set (y ∷ xs) zero x d h = refl
at_set (y ∷ xs) (suc i) x d h = at_set xs i x d (omega arith)

pub at_other : {X : Type 0} (xs : List X) (i q : ℕ) (x d : X) → q ≢ i → get_or (set xs i x) q d ≡ get_or xs q d
at_other [] i q x d ne = refl
at_other (y ∷ xs) zero zero x d ne = absurd (ne refl)
at_other (y ∷ xs) zero (suc q) x d ne = refl
at_other (y ∷ xs) (suc i) zero x d ne = refl
at_other (y ∷ xs) (suc i) (suc q) x d ne = at_other xs i q x d (λ e. ne (ap suc e))

false_at : (xs : List Bool) (i : ℕ) → get_or (set xs i false) i false ≡ false
false_at [] i = refl
false_at (y ∷ xs) zero = refl
false_at (y ∷ xs) (suc i) = false_at xs i

-- a bit that is set, cleared and set again
set_again : (xs : List Bool) (i : ℕ) → get_or xs i false ≡ true → set (set xs i false) i true ≡ xs
set_again [] i is = refl
set_again (x ∷ xs) zero is = ap (λ (y : Bool). y ∷ xs) (sym is)
set_again (x ∷ xs) (suc i) is = ap (λ (ys : List Bool). x ∷ ys) (set_again xs i is)

-- no block of new units waits
none_waits : {X : Type 0} (x : X) (n i : ℕ) → get_or (replicate n x) i x ≡ x
none_waits x zero i = refl
none_waits x (suc n) zero = refl
none_waits x (suc n) (suc i) = none_waits x n i

pub new_ready : (first per_unit units : ℕ) → per_unit ≤ 4095 → IsReady (all_free first per_unit units)
new_ready first per_unit units few = record { per_unit = few; apart = λ b free. none_waits None (4096 * units) (b - first) }

-- a block below the first is none
below : (v : FreeMapView) (b : ℕ) → b < v.first → is_data v b ≡ false
below v b lt = and_left _ _ (lt-leb v.first b lt)

module _ (v : FreeMapView) (b : ℕ) where
  pub data_low : is_data v b ≡ true → v.first ≤ b
  data_low is = leb-true v.first b ((and_parts _ _ is).0)

  pub data_high : is_data v b ≡ true → b - v.first < 4096 * v.units
  data_high is = ltb-true _ _ ((and_parts _ _ ((and_parts _ _ is).1)).0)

  pub data_place : is_data v b ≡ true → 4096 - v.per_unit ≤ (b - v.first) % 4096
  data_place is = leb-true _ _ ((and_parts _ _ ((and_parts _ _ is).1)).1)

  pub free_data : is_free v b ≡ true → is_data v b ≡ true
  free_data is = (and_parts _ _ is).0

  free_bit : is_free v b ≡ true → is_in_set v b ≡ true
  free_bit is = (and_parts _ _ ((and_parts _ _ is).1)).1

  -- ---- taking and giving

  pub taken_here : is_free (with_bit v b false) b ≡ false
  taken_here = and_right (is_data v b) _ (and_right (not (is_barred v b)) _ (false_at v.free (b - v.first)))

  pub taken_other : (q : ℕ) → v.first ≤ b → q ≢ b → is_free (with_bit v b false) q ≡ is_free v q
  taken_other q low ne = elim (cases_lt q v.first) [
    | inl lt ↦ and_left _ _ (below v q lt) ∙ sym (and_left _ _ (below v q lt))
    | inr le ↦ ap (λ (x : Bool). is_data v q && (not (is_barred v q) && x)) (at_other v.free (b - v.first) (q - v.first) false false (omega arith))
  ]

  pub given_back : is_free v b ≡ true → with_bit (with_bit v b false) b true ≡ v
  given_back is = ap (λ (f : List Bool). record v { free = f }) (set_again v.free (b - v.first) (free_bit is))

  pub used_when_taken : is_free v b ≡ true → place_of v b ≡ None → is_used (with_bit v b false) b ≡ true
  used_when_taken is none =
      and_from _ _ (free_data is) (and_from _ _ (ap not (false_at v.free (b - v.first))) (ap (λ (o : Option ℕ). not (is_some o)) none))

  -- ---- waiting

  pub waits_here : (p : ℕ) → b - v.first < length v.pending → place_of (with_place v b p) b ≡ Some p
  waits_here p within = at_set v.pending (b - v.first) (Some p) None within

  pub waits_other : (p q : ℕ) → v.first < b → q ≢ b → place_of (with_place v b p) q ≡ place_of v q
  waits_other p q low ne = at_other v.pending (b - v.first) (q - v.first) (Some p) None (omega arith)

-- ---- blocks that are taken

module _ (v : FreeMapView) (b : ℕ) where
  taken_at : (c : ℕ) → is_free v b ≡ true → is_free (with_bit v b false) c ≡ (is_free v c && not (c == b))
  taken_at c free = elim (cases_Bool (c == b)) [
    | inl e ↦
        let same : c ≡ b = eqb-true c b e in
        ap (is_free (with_bit v b false)) same ∙ taken_here v b ∙ sym (and_right (is_free v c) _ (ap not e))
    | inr ne ↦ taken_other v b c (data_low v b (free_data v b free)) (λ e. both_ways _ ne (eq-eqb c b e)) ∙ sym (ap (λ (x : Bool). is_free v c && not x) ne ∙ and_true (is_free v c))
  ]
    where
      and_true : (x : Bool) → (x && true) ≡ x
      and_true true = refl
      and_true false = refl

  pub taken_test : is_free v b ≡ true → is_free (with_bit v b false) ≡ without (is_free v) b
  taken_test free i c = taken_at c free i

  pub still_free : (c : ℕ) → is_free v b ≡ true → is_free (with_bit v b false) c ≡ true → is_free v c ≡ true
  still_free c free there = (and_parts _ _ (sym (taken_at c free) ∙ there)).0

  pub taken_ready : is_free v b ≡ true → IsReady v → IsReady (with_bit v b false)
  taken_ready free ready = record { per_unit = ready.per_unit; apart = λ c there. ready.apart c (still_free c free there) }

pub taken_more : (base : FreeMapView) (taken : List ℕ) (v : FreeMapView) (b : ℕ) → IsTaken base taken v → is_free v b ≡ true → IsTaken base (taken ++ b ∷ []) (with_bit v b false)
taken_more base [] v b is free = (subst (λ (w : FreeMapView). is_free w b ≡ true) is free, ap (λ (w : FreeMapView). with_bit w b false) is)
taken_more base (c ∷ taken) v b is free = (is.0, taken_more (with_bit base c false) taken v b is.1 free)

-- the last one is given back
pub record IsLastTaken (base : FreeMapView) (taken : List ℕ) (v : FreeMapView) (b : ℕ) : Type 0 where
  pub mid : FreeMapView
  pub was : IsTaken base taken mid
  pub free : is_free mid b ≡ true
  pub taken_is : v ≡ with_bit mid b false
  pub ready : IsReady mid

pub last_taken : (base : FreeMapView) (taken : List ℕ) (v : FreeMapView) (b : ℕ) → IsReady base → IsTaken base (taken ++ b ∷ []) v → IsLastTaken base taken v b
last_taken base [] v b ready is = record { mid = base; was = refl; free = is.0; taken_is = is.1; ready = ready }
last_taken base (c ∷ taken) v b ready is =
    let rest = last_taken (with_bit base c false) taken v b (taken_ready base c is.0 ready) is.1 in
    record { mid = rest.mid; was = (is.0, rest.was); free = rest.free; taken_is = rest.taken_is; ready = rest.ready }

pub last_used : (base : FreeMapView) (taken : List ℕ) (v : FreeMapView) (b : ℕ) → IsLastTaken base taken v b → is_used v b ≡ true
last_used base taken v b is = subst (λ (w : FreeMapView). is_used w b ≡ true) (sym is.taken_is) (used_when_taken is.mid b is.free (is.ready.apart b is.free))

pub last_given : (base : FreeMapView) (taken : List ℕ) (v : FreeMapView) (b : ℕ) → IsLastTaken base taken v b → IsTaken base taken (with_bit v b true)
last_given base taken v b is =
    subst (λ (w : FreeMapView). IsTaken base taken w) (sym (ap (λ (w : FreeMapView). with_bit w b true) is.taken_is ∙ given_back is.mid b is.free)) is.was

pub none_left : (xs : List ℕ) → length xs ≡ 0 → xs ≡ []
none_left [] is = refl
none_left (x ∷ xs) is = absurd (omega (arith, is))

pub none_taken : (base : FreeMapView) (taken : List ℕ) (v : FreeMapView) → taken ≡ [] → IsTaken base taken v → v ≡ base
none_taken base taken v none is = subst (λ (bs : List ℕ). IsTaken base bs v) none is

-- whatever was taken
pub has_taken : (base : FreeMapView) (taken : List ℕ) (v : FreeMapView) → IsTaken base taken v → HasTaken base v
has_taken base [] v is = subst (HasTaken base) (sym is) (record { rest = refl; bits = refl })
has_taken base (b ∷ taken) v is =
    let more = has_taken (with_bit base b false) taken v is.1 in
    record { rest = more.rest; bits = more.bits ∙ length-set base.free (b - base.first) false }

pub none_has_taken : (base v : FreeMapView) → v ≡ base → HasTaken base v
none_has_taken base v same = subst (HasTaken base) (sym same) (record { rest = refl; bits = refl })
