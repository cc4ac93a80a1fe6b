-- Blocks that are given up, one after the other.
use Rattle.std.proofs.Common.{◌≡◌, ◌≢◌, ℕ, zero, suc, ◌+◌, ◌-◌, ◌<◌, ◌≤◌, Bool, true, false, not, ◌&&◌, List, [], ◌∷◌, length, Option, Some, None, refl, sym, ◌∙◌, ap, arith, inl, inr, cond, set}
use Rattle.std.specs.Prelude.{◌==◌, is_some}
use Rattle.std.proofs.lemmas.Bool.{cases_Bool, cases_eq, eqb-true, eq-eqb, and_parts}
use Rattle.std.proofs.lemmas.Option.{same_Some, none-some}
use Rattle.vx_base.specs.declared.kind.Kind.{Kind}
use Rattle.vx_alloc.specs.FreeMaps.{FreeMapView, is_data, is_barred, is_used, is_in_set, place_of, with_bit, with_place}
use Rattle.vx_space.specs.Uses.{uses}
use Rattle.vx_filemaps.specs.FileMaps.{IsReady}
use Rattle.vx_filemaps.specs.Settles.{pended, CanWait, without_page, IsUsedPage, without_pages, CanGo}
use Rattle.vx_filemaps.specs.GiveLaws.{IsSized, AreUsed, AreWaiting, block_gone, block_at, AreUsedPages, AreGone}
use Rattle.vx_filemaps.proofs.Free.{at_set, at_other, data_high, data_place}

-- ---- one block

-- what says the same of a block's place and of the set says the same of its use
used_alike : (v w : FreeMapView) (b : ℕ) → w ≡ record v { free = w.free; pending = w.pending } → place_of w b ≡ place_of v b → is_in_set w b ≡ is_in_set v b → is_used w b ≡ is_used v b
used_alike v w b rest place bit = λ i. is_data (rest i) b && (not (bit i) && not (is_some (place i)))

set_length : {X : Type 0} (xs : List X) (i : ℕ) (x : X) → length (set xs i x) ≡ length xs
set_length [] i x = refl
set_length (y ∷ xs) zero x = refl
set_length (y ∷ xs) (suc i) x = ap suc (set_length xs i x)

in_and_out : (t : Bool) → t ≡ true → not t ≡ true → ⊥
in_and_out true is not_is = absurd cc
in_and_out false is not_is = absurd cc

none_there : (o : Option ℕ) → not (is_some o) ≡ true → o ≡ None
none_there None is = refl
none_there (Some x) is = absurd cc

module _ (v : FreeMapView) (b : ℕ) (sized : IsSized v) (used : is_used v b ≡ true) where
  is_block : is_data v b ≡ true
  is_block = (and_parts _ _ used).0

  above : v.first < b
  above = let place = data_place v b is_block in let few = sized.per_unit in omega (arith, place, few)

  within_bits : b - v.first < length v.free
  within_bits = let high = data_high v b is_block in let size = sized.bits in omega (arith, high, size)

  within_places : b - v.first < length v.pending
  within_places = let high = data_high v b is_block in let size = sized.places in omega (arith, high, size)

  pub placed_here : (place : ℕ) → place_of (with_place v b place) b ≡ Some place
  placed_here place = at_set v.pending (b - v.first) (Some place) None within_places

  pub placed_other : (place q : ℕ) → q ≢ b → place_of (with_place v b place) q ≡ place_of v q
  placed_other place q ne = let low = above in at_other v.pending (b - v.first) (q - v.first) (Some place) None (λ e. absurd (omega (arith, low, e, ne)))

  pub given_here : is_in_set (with_bit v b true) b ≡ true
  given_here = at_set v.free (b - v.first) true false within_bits

  pub given_other : (q : ℕ) → q ≢ b → is_in_set (with_bit v b true) q ≡ is_in_set v q
  given_other q ne = let low = above in at_other v.free (b - v.first) (q - v.first) true false (λ e. absurd (omega (arith, low, e, ne)))

  pub placed_sized : (place : ℕ) → IsSized (with_place v b place)
  placed_sized place = record { per_unit = sized.per_unit; bits = sized.bits; places = set_length v.pending (b - v.first) (Some place) ∙ sized.places }

  pub given_sized : IsSized (with_bit v b true)
  given_sized = record { per_unit = sized.per_unit; bits = set_length v.free (b - v.first) true ∙ sized.bits; places = sized.places }

  pub placed_ready : (place : ℕ) → IsReady v → IsReady (with_place v b place)
  placed_ready place ready = record {
    per_unit = ready.per_unit;
    apart = λ c free. elim (cases_eq c b) [
      | inl e ↦ absurd (in_and_out (is_in_set v b) (sym (ap (is_in_set v) e) ∙ (and_parts _ _ (and_parts _ _ free).1).1) (and_parts _ _ (and_parts _ _ used).1).0)
      | inr ne ↦ placed_other place c ne ∙ ready.apart c free
    ];
  }

  pub given_ready : IsReady v → IsReady (with_bit v b true)
  given_ready ready = record {
    per_unit = ready.per_unit;
    apart = λ c free. elim (cases_eq c b) [
      | inl e ↦ ap (place_of v) e ∙ none_there (place_of v b) (and_parts _ _ (and_parts _ _ used).1).1
      | inr ne ↦ ready.apart c (sym (λ i. is_data v c && (not (is_barred v c) && given_other c ne i)) ∙ free)
    ];
  }

-- ---- a list of blocks

module _ (b : ℕ) (bs : List ℕ) (v : FreeMapView) (place : ℕ) (sized : IsSized v) (are : AreUsed (b ∷ bs) v) where
  self : ◌≡◌ {A = ℕ} (cond (b == b) 1 0) 1
  self = ap (λ t. cond t 1 0) (eq-eqb b b refl)

  pub first_used : is_used v b ≡ true
  first_used = are.used b (let one = self in omega (arith, one))

  pub gone_after : uses bs b ≡ 0
  gone_after = let one = self in let few = are.once b in omega (arith, one, few)

  pub other_than : (c : ℕ) → 1 ≤ uses bs c → c ≢ b
  other_than c some e = let none : uses bs c ≡ 0 = ap (uses bs) e ∙ gone_after in absurd (omega (arith, some, none))

  pub rest_used : AreUsed bs (with_place v b place)
  rest_used = record {
    used = λ c some.
        let other = other_than c some in
        used_alike v (with_place v b place) c refl (placed_other v b sized first_used place c other) refl ∙ are.used c (omega (arith, some));
    once = λ c. (let few = are.once c in omega (arith, few));
  }

pub can_wait : (place : ℕ) (blocks : List ℕ) (v : FreeMapView) → IsSized v → AreUsed blocks v → CanWait place blocks v
can_wait place [] v sized are = tt
can_wait place (b ∷ bs) v sized are =
    let used = first_used b bs v place sized are in
    (used, can_wait place bs (with_place v b place) (placed_sized v b sized used place) (rest_used b bs v place sized are))

pub wait : (place : ℕ) (blocks : List ℕ) (v : FreeMapView) → IsSized v → AreUsed blocks v → AreWaiting place blocks v (pended place blocks v)
wait place [] v sized are = record { wait = λ b some. absurd (omega (arith, some)); others = λ b none. refl; rest = refl; sized = sized; ready = λ r. r }
wait place (b ∷ bs) v sized are =
    let used = first_used b bs v place sized are in
    let more = wait place bs (with_place v b place) (placed_sized v b sized used place) (rest_used b bs v place sized are) in
    record {
      wait = λ c some. elim (cases_eq c b) [
        | inl e ↦
            more.others c (ap (uses bs) e ∙ gone_after b bs v place sized are)
            ∙ ap (place_of (with_place v b place)) e ∙ placed_here v b sized used place
        | inr ne ↦ (let none : ◌≡◌ {A = ℕ} (cond (c == b) 1 0) 0 = ap (λ t. cond t 1 0) (differs c b ne) in more.wait c (omega (arith, some, none)))
      ];
      others = λ c none. elim (cases_eq c b) [
        | inl e ↦ absurd (let one : ◌≡◌ {A = ℕ} (cond (c == b) 1 0) 1 = ap (λ t. cond t 1 0) (eq-eqb c b e) in omega (arith, none, one))
        | inr ne ↦ more.others c (omega (arith, none)) ∙ placed_other v b sized used place c ne
      ];
      rest = more.rest;
      sized = more.sized;
      ready = λ r. more.ready (placed_ready v b sized used place r);
    }
  where
    differs : (c d : ℕ) → c ≢ d → (c == d) ≡ false
    differs c d ne = elim (cases_Bool (c == d)) [
      | inl e ↦ absurd (ne (eqb-true c d e))
      | inr is ↦ is
    ]

-- ---- one page

pub record IsStep (place : ℕ) (o p : Option (ℕ × Kind)) (v w : FreeMapView) : Type 0 where
  pub sized : IsSized w
  pub waits : (b : ℕ) (kind : Kind) → o ≡ Some (b, kind) → place_of w b ≡ Some place
  pub frees : (b : ℕ) (kind : Kind) → o ≡ None → p ≡ Some (b, kind) → is_in_set w b ≡ true
  pub others : (c : ℕ) → (block_gone o p ≡ Some c → ⊥) → (place_of w c ≡ place_of v c) × (is_in_set w c ≡ is_in_set v c)
  pub rest : w ≡ record v { free = w.free; pending = w.pending }
  pub ready : IsReady v → IsReady w

step : (place : ℕ) (o p : Option (ℕ × Kind)) (v : FreeMapView) → IsSized v → IsUsedPage o p v → IsStep place o p v (without_page place o p v)
step place (Some m) p v sized used = record {
  sized = placed_sized v m.0 sized used place;
  waits = λ b kind is. (let e : m.0 ≡ b = ap (λ (x : ℕ × Kind). x.0) (same_Some m (b, kind) is) in ap (place_of (with_place v m.0 place)) (sym e) ∙ placed_here v m.0 sized used place);
  frees = λ b kind none is. absurd (none-some m (sym none));
  others = λ c not. (placed_other v m.0 sized used place c (λ e. not (ap Some (sym e))), refl);
  rest = refl;
  ready = placed_ready v m.0 sized used place;
}
step place None (Some m) v sized used = record {
  sized = given_sized v m.0 sized used;
  waits = λ b kind is. absurd (none-some (b, kind) is);
  frees = λ b kind none is. (let e : m.0 ≡ b = ap (λ (x : ℕ × Kind). x.0) (same_Some m (b, kind) is) in ap (is_in_set (with_bit v m.0 true)) (sym e) ∙ given_here v m.0 sized used);
  others = λ c not. (refl, given_other v m.0 sized used c (λ e. not (ap Some (sym e))));
  rest = refl;
  ready = given_ready v m.0 sized used;
}
step place None None v sized used = record {
  sized = sized;
  waits = λ b kind is. absurd (none-some (b, kind) is);
  frees = λ b kind none is. absurd (none-some (b, kind) is);
  others = λ c not. (refl, refl);
  rest = refl;
  ready = λ r. r;
}

-- a page's block is used still
still_used : (o p : Option (ℕ × Kind)) (v w : FreeMapView) → ((b : ℕ) → block_gone o p ≡ Some b → is_used w b ≡ is_used v b) → IsUsedPage o p v → IsUsedPage o p w
still_used (Some m) p v w same used = same m.0 refl ∙ used
still_used None (Some m) v w same used = same m.0 refl ∙ used
still_used None None v w same used = tt

-- ---- the pages of a range

module _ (place : ℕ) (s t : ℕ → Option (ℕ × Kind)) (from n : ℕ) (v : FreeMapView) (sized : IsSized v) (are : AreUsedPages s t from (suc n) v) where
  first : IsUsedPage (s from) (t from) v
  first = are.used from (omega arith) (omega arith)

  pub one_step : IsStep place (s from) (t from) v (without_page place (s from) (t from) v)
  one_step = step place (s from) (t from) v sized first

  -- no later page has the first one's block
  pub not_later : (b : ℕ) → block_at s t from ≡ Some b → (q : ℕ) → from + 1 ≤ q → q < from + 1 + n → block_at s t q ≡ Some b → ⊥
  not_later b here q low high there = let e = are.apart from q b (omega arith) (omega arith) (omega (arith, low)) (omega (arith, high)) here there in absurd (omega (arith, e, low))

  pub later_used : AreUsedPages s t (from + 1) n (without_page place (s from) (t from) v)
  later_used = record {
    used = λ q low high.
        still_used (s q) (t q) v (without_page place (s from) (t from) v)
        (λ b is. (let same = one_step.others b (λ here. not_later b here q low high is) in used_alike v (without_page place (s from) (t from) v) b one_step.rest same.0 same.1))
        (are.used q (omega (arith, low)) (omega (arith, high)));
    apart = λ p q b lp hp lq hq. are.apart p q b (omega (arith, lp)) (omega (arith, hp)) (omega (arith, lq)) (omega (arith, hq));
  }

pub can_go : (place : ℕ) (s t : ℕ → Option (ℕ × Kind)) (from n : ℕ) (v : FreeMapView) → IsSized v → AreUsedPages s t from n v → CanGo place s t n from v
can_go place s t from zero v sized are = tt
can_go place s t from (suc n) v sized are =
    (are.used from (omega arith) (omega arith), can_go place s t (from + 1) n (without_page place (s from) (t from) v) (one_step place s t from n v sized are).sized (later_used place s t from n v sized are))

pub go : (place : ℕ) (s t : ℕ → Option (ℕ × Kind)) (from n : ℕ) (v : FreeMapView) → IsSized v → AreUsedPages s t from n v → AreGone place s t from n v (without_pages place s t n from v)
go place s t from zero v sized are = record {
  waits = λ p b kind low high is. absurd (omega (arith, low, high));
  frees = λ p b kind low high none is. absurd (omega (arith, low, high));
  others = λ b not. (refl, refl);
  rest = refl;
  sized = sized;
  ready = λ r. r;
}
go place s t from (suc n) v sized are =
    let w : FreeMapView = without_page place (s from) (t from) v in
    let one = one_step place s t from n v sized are in
    let more = go place s t (from + 1) n w one.sized (later_used place s t from n v sized are) in
    record {
      waits = λ p b kind low high is. elim (cases_eq p from) [
        | inl e ↦
            let here : s from ≡ Some (b, kind) = ap s (sym e) ∙ is in
            (more.others b (λ q l h. not_later place s t from n v sized are b (settled_gone (s from) (t from) b kind here) q l h)).0 ∙ one.waits b kind here
        | inr ne ↦ more.waits p b kind (omega (arith, low, ne)) (omega (arith, high)) is
      ];
      frees = λ p b kind low high none is. elim (cases_eq p from) [
        | inl e ↦
            let gone : s from ≡ None = ap s (sym e) ∙ none in
            let here : t from ≡ Some (b, kind) = ap t (sym e) ∙ is in
            (more.others b (λ q l h. not_later place s t from n v sized are b (held_gone (s from) (t from) b kind gone here) q l h)).1 ∙ one.frees b kind gone here
        | inr ne ↦ more.frees p b kind (omega (arith, low, ne)) (omega (arith, high)) none is
      ];
      others = λ b not.
          let first = one.others b (λ is. not from (omega arith) (omega arith) is) in
          let later = more.others b (λ q l h is. not q (omega (arith, l)) (omega (arith, h)) is) in
          (later.0 ∙ first.0, later.1 ∙ first.1);
      rest = more.rest ∙ (λ i. record (one.rest i) { free = (without_pages place s t n (from + 1) w).free; pending = (without_pages place s t n (from + 1) w).pending });
      sized = more.sized;
      ready = λ r. more.ready (one.ready r);
    }
  where
    settled_gone : (o p : Option (ℕ × Kind)) (b : ℕ) (kind : Kind) → o ≡ Some (b, kind) → block_gone o p ≡ Some b
    settled_gone o p b kind is = ap (λ (x : Option (ℕ × Kind)). block_gone x p) is

    held_gone : (o p : Option (ℕ × Kind)) (b : ℕ) (kind : Kind) → o ≡ None → p ≡ Some (b, kind) → block_gone o p ≡ Some b
    held_gone o p b kind none is = ap (λ (x : Option (ℕ × Kind)). block_gone x p) none ∙ ap (block_gone None) is
