-- Marks of blocks.
use Rattle.std.proofs.Common.{◌≡◌, ◌≢◌, ℕ, ◌+◌, ◌-◌, ◌*◌, ◌<◌, ◌≤◌, Bool, true, false, List, [], ◌∷◌, ◌++◌, length, get_or, set, refl, sym, ap, subst, ◌∙◌, inl, inr, arith, rules, get_or-set_same, get_or-set_other}
use Rattle.std.specs.Prelude.{◌==◌, ◌||◌}
use Rattle.std.proofs.lemmas.Bool.{cases_eq, leb-true, ltb-true, and_parts}
use Rattle.std.proofs.lemmas.List.Folds.{list_any-append}
use Rattle.vx_layout.specs.Places.{Volume, is_data}
use Rattle.vx_sound.specs.Said.{among}
use Rattle.vx_check.specs.Parts.{AreMarksOf}

or_true : (p : Bool) → (p || true) ≡ true
or_true true = refl
or_true false = refl

or_false : (p : Bool) → (p || false) ≡ p
or_false true = refl
or_false false = refl

same_test : (c : ℕ) → (c == c) ≡ true
same_test c = search rules

other_test : (c b : ℕ) → c ≢ b → (c == b) ≡ false
other_test c b ne = search rules

among_more : (l : List ℕ) (b c : ℕ) → among (l ++ b ∷ []) c ≡ (among l c || (c == b || false))
among_more l b c = list_any-append (λ y. c == y) l (b ∷ [])

pub marks_more : (marks : List Bool) (l : List ℕ) (b : ℕ) → b < length marks → AreMarksOf marks l → AreMarksOf (set marks b true) (l ++ b ∷ [])
marks_more marks l b lt h c = elim (cases_eq c b) [
  | inl e ↦
      let here : get_or (set marks b true) c false ≡ true = subst (λ (x : ℕ). get_or (set marks b true) x false ≡ true) (sym e) (get_or-set_same marks b true false lt) in
      let test : (c == b) ≡ true = subst (λ (x : ℕ). (c == x) ≡ true) e (same_test c) in
      here ∙ sym (among_more l b c ∙ ap (λ (t : Bool). among l c || (t || false)) test ∙ or_true (among l c))
  | inr ne ↦
      let test : (c == b) ≡ false = other_test c b ne in
      get_or-set_other marks b c true false ne ∙ h c ∙ sym (among_more l b c ∙ ap (λ (t : Bool). among l c || (t || false)) test ∙ or_false (among l c))
]

-- ---- data blocks

pub data_below : (v : Volume) (b : ℕ) → is_data v b ≡ true → b < v.first + 4096 * v.units
unfolding is_data
data_below v b h =
    let one = and_parts _ _ h in
    let two = and_parts _ _ one.1 in
    let from : v.first ≤ b = leb-true _ _ one.0 in
    let within : b - v.first < 4096 * v.units = ltb-true _ _ two.0 in
    omega arith
