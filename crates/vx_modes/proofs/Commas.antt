-- Elements as they are cut off.
use Rattle.std.proofs.Common.{◌≡◌, ℕ, ◌+◌, ◌-◌, ◌<◌, false, cond, List, ◌∷◌, length, take, drop, Some, None, sym, ap, subst, ◌∙◌, arith, inl, inr}
use Rattle.std.specs.List.{slice_split, position, position_or_len}
use Rattle.std.proofs.lemmas.Bool.{cases_lt, lt-ltb}
use Rattle.std.proofs.lemmas.List.{take_all, length-drop}
use Rattle.std.proofs.lemmas.List.Elements.{All-from_get_or}
use Rattle.std.proofs.lemmas.List.Quantifiers.{position-Some}
use Rattle.std.proofs.lemmas.List.Sums.{fails_before_first, position_or_len_is}
use Rattle.std.proofs.lemmas.List.Splits.{slice_split_first, slice_split_none}
use Rattle.vx_modes.specs.Parse.{is_comma, elements_of}

-- where there is a comma
pub elements_of-comma : (xs : List ℕ) (i : ℕ) → position is_comma xs ≡ Some i → elements_of (Some xs) ≡ take i xs ∷ elements_of (Some (take (length xs - (i + 1)) (drop (i + 1) xs)))
unfolding elements_of
elements_of-comma xs i h =
    let found = position-Some is_comma xs i 0 h in
    let place : position_or_len is_comma xs ≡ i = position_or_len_is is_comma xs i 0 (omega arith) found.2 (λ _. found.1) in
    let P : ℕ → Type 0 = λ k. k < length xs → slice_split is_comma xs ≡ take k xs ∷ slice_split is_comma (drop (k + 1) xs) in
    let whole : take (length xs - (i + 1)) (drop (i + 1) xs) ≡ drop (i + 1) xs = take_all _ _ (omega (arith, length-drop (i + 1) xs)) in
    subst P place (slice_split_first is_comma xs 0) found.0 ∙ ap (λ (l : List ℕ). take i xs ∷ slice_split is_comma l) (sym whole)

-- where there is none
pub elements_of-alone : (xs : List ℕ) → position is_comma xs ≡ None → elements_of (Some xs) ≡ xs ∷ elements_of None
unfolding elements_of
elements_of-alone xs h =
    let n = position_or_len is_comma xs in
    elim (cases_lt n (length xs)) [
      | inl lt ↦
          let some : position is_comma xs ≡ Some n = ap (λ b. cond b (Some n) None) (lt-ltb n (length xs) lt) in
          cc
      | inr ge ↦ slice_split_none is_comma xs (All-from_get_or (λ x. is_comma x ≡ false) xs 0 (λ k lt. fails_before_first is_comma xs k 0 (omega arith)))
    ]
