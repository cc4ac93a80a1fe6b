-- The first element that passes a test, as a loop finds it.
use Rattle.std.proofs.Common.{◌≡◌, ℕ, ◌<◌, ◌≤◌, Bool, true, false, List, [], ◌∷◌, length, get_or, refl, sym, ◌∙◌, ap, arith}
use Rattle.std.specs.List.{position_or_len, count_by}
use Rattle.std.proofs.lemmas.Grind.{common_steps}
use Rattle.std.proofs.lemmas.List.{get_or_default}
use Rattle.std.proofs.lemmas.List.Sums.{position_or_len_is, prefix_len-le-length, sum_by-cons}
use Rattle.vx_dir.specs.Sizes.{Entries, entry_size, used_by}

module _ {X : Type 0} (p : X → Bool) (xs : List X) where
  pub found : (d : X) (i : ℕ) (x : X) → i < length xs → x ≡ get_or xs i x → ((k : ℕ) → k < i → p (get_or xs k d) ≡ false) → p x ≡ true → i ≡ position_or_len p xs
  found d i x within is before here = sym (position_or_len_is p xs i d (omega arith) before (λ _. ap p (get_or_default xs i d x within ∙ sym is) ∙ here))

  pub none_passes : (d : X) (i : ℕ) → length xs ≤ i → ((k : ℕ) → k < i → p (get_or xs k d) ≡ false) → length xs ≡ position_or_len p xs
  none_passes d i whole before = sym (position_or_len_is p xs (length xs) d (omega arith) (λ k h. before k (omega arith)) (λ h. absurd (omega arith)))

  pub position_within : position_or_len p xs ≤ length xs
  position_within = prefix_len-le-length _ xs

  -- what was so far, and what is at i
  pub fails_to : (d : X) (i : ℕ) (x : X) → i < length xs → x ≡ get_or xs i x → p x ≡ false → p (get_or xs i d) ≡ false
  fails_to d i x within is here = ap p (get_or_default xs i d x within ∙ sym is) ∙ here

module _ {X : Type 0} (p : X → Bool) where
  pub count_none : (xs : List X) → length xs ≤ position_or_len p xs → count_by p xs ≡ 0
  count_none [] h = refl
  count_none (x ∷ xs) h = grind (arith, common_steps, count_none xs)

-- no entry is without bytes
pub length_le_used : (es : Entries) → length es ≤ used_by es
length_le_used [] = omega arith
length_le_used (e ∷ es) = omega (arith, length_le_used es, sum_by-cons entry_size e es)
