-- What a list of slots has at a number.
use Rattle.std.proofs.Common.{◌≡◌, ℕ, zero, suc, ◌+◌, ◌<◌, ◌≤◌, true, false, nat_eq, List, [], ◌∷◌, ◌++◌, length, Option, Some, None, refl, sym, ◌∙◌, ap, arith, set, get_or, cond, inl, inr}
use Rattle.std.specs.Prelude.{is_some}
use Rattle.std.specs.Ordering.{nat_cmp, eq_by_cmp}
use Rattle.std.specs.Cmp.{nat_cmp_total}
use Rattle.std.specs.FinMap.{find, get, insert, remove, get-from_entries, get-insert, get-remove, same_map, nat_cmp-IsAntisymmetric}
use Rattle.std.proofs.lemmas.Bool.{cases_lt}
use Rattle.std.proofs.lemmas.Bool.Decides.{nat_tests}
use Rattle.vx_inode.specs.Slots.{slots_from, by_number}

apart : (q n : ℕ) → q < n → eq_by_cmp nat_cmp q n ≡ false
apart q n h = grind (arith, nat_tests)

apart_above : (q n : ℕ) → n < q → eq_by_cmp nat_cmp q n ≡ false
apart_above q n h = grind (arith, nat_tests)

tied : (q n : ℕ) → q ≡ n → eq_by_cmp nat_cmp q n ≡ true
tied q n h = grind (arith, nat_tests)

tied_is_eq : (q i : ℕ) → eq_by_cmp nat_cmp q i ≡ nat_eq q i
tied_is_eq q i = grind (arith, nat_tests)

one_down : (q i : ℕ) → nat_eq q i ≡ nat_eq (suc q) (suc i)
one_down q i = grind (arith, nat_tests)

module _ {X : Type 0} where
  below : (q n : ℕ) (slots : List (Option X)) → q < n → find nat_cmp q (slots_from n slots) ≡ None
  below q n [] h = refl
  below q n (None ∷ slots) h = below q (n + 1) slots (omega arith)
  below q n (Some x ∷ slots) h = rw (apart q n h) (below q (n + 1) slots (omega arith))

  find_at : (q n i : ℕ) (slots : List (Option X)) → q ≡ n + i → find nat_cmp q (slots_from n slots) ≡ get_or slots i None
  find_at q n i [] h = refl
  find_at q n zero (None ∷ slots) h = below q (n + 1) slots (omega arith)
  find_at q n zero (Some x ∷ slots) h = rw (tied q n (omega arith)) refl
  find_at q n (suc i) (None ∷ slots) h = find_at q (n + 1) i slots (omega arith)
  find_at q n (suc i) (Some x ∷ slots) h = rw (apart_above q n (omega arith)) (find_at q (n + 1) i slots (omega arith))

  pub get_at : (slots : List (Option X)) (q : ℕ) → get (by_number slots) q ≡ get_or slots q None
  get_at slots q = get-from_entries nat_cmp_total (slots_from 0 slots) q ∙ find_at q 0 q slots (omega arith)

  at-set : (slots : List (Option X)) (i q : ℕ) (o : Option X) → i < length slots → get_or (set slots i o) q None ≡ cond (nat_eq q i) o (get_or slots q None)
  at-set [] i q o h = absurd (omega arith)
  at-set (p ∷ slots) zero zero o h = refl
  at-set (p ∷ slots) zero (suc q) o h = grind (arith, nat_tests)
  at-set (p ∷ slots) (suc i) zero o h = grind (arith, nat_tests)
  at-set (p ∷ slots) (suc i) (suc q) o h = at-set slots i q o (omega arith) ∙ ap (λ b. cond b o (get_or slots q None)) (one_down q i)

  at-push : (slots : List (Option X)) (q : ℕ) → get_or (slots ++ None ∷ []) q None ≡ get_or slots q None
  at-push [] zero = refl
  at-push [] (suc q) = refl
  at-push (o ∷ slots) zero = refl
  at-push (o ∷ slots) (suc q) = at-push slots q

  after_set : (slots : List (Option X)) (i q : ℕ) (o : Option X) → i < length slots → get (by_number (set slots i o)) q ≡ cond (eq_by_cmp nat_cmp q i) o (get (by_number slots) q)
  after_set slots i q o h =
      get_at (set slots i o) q ∙ at-set slots i q o h ∙ ap (cond (nat_eq q i) o) (sym (get_at slots q)) ∙ ap (λ b. cond b o (get (by_number slots) q)) (sym (tied_is_eq q i))

  pub set_some : (slots : List (Option X)) (i : ℕ) (x : X) → i < length slots → by_number (set slots i (Some x)) ≡ insert (by_number slots) i x
  set_some slots i x h = same_map nat_cmp_total nat_cmp-IsAntisymmetric _ _ (λ q. after_set slots i q (Some x) h ∙ sym (get-insert nat_cmp_total (by_number slots) i x q))

  pub set_none : (slots : List (Option X)) (i : ℕ) → i < length slots → by_number (set slots i None) ≡ remove (by_number slots) i
  set_none slots i h = same_map nat_cmp_total nat_cmp-IsAntisymmetric _ _ (λ q. after_set slots i q None h ∙ sym (get-remove nat_cmp_total (by_number slots) i q))

  pub push_none : (slots : List (Option X)) → by_number (slots ++ None ∷ []) ≡ by_number slots
  push_none slots = same_map nat_cmp_total nat_cmp-IsAntisymmetric _ _ (λ q. get_at (slots ++ None ∷ []) q ∙ at-push slots q ∙ sym (get_at slots q))

  -- within the list the default doesn't matter
  any_default : (slots : List (Option X)) (i : ℕ) (d : Option X) → i < length slots → get_or slots i d ≡ get_or slots i None
  any_default [] i d h = absurd (omega arith)
  any_default (o ∷ slots) zero d h = refl
  any_default (o ∷ slots) (suc i) d h = any_default slots i d (omega arith)

  pub get_within : (slots : List (Option X)) (i : ℕ) (d : Option X) → i < length slots → get (by_number slots) i ≡ get_or slots i d
  get_within slots i d h = get_at slots i ∙ sym (any_default slots i d h)

  past : (slots : List (Option X)) (i : ℕ) → length slots ≤ i → get_or slots i None ≡ None
  past [] i h = refl
  past (o ∷ slots) zero h = absurd (omega arith)
  past (o ∷ slots) (suc i) h = past slots i (omega arith)

  pub get_past : (slots : List (Option X)) (i : ℕ) → length slots ≤ i → get (by_number slots) i ≡ None
  get_past slots i h = get_at slots i ∙ past slots i h

  pub used_within : (slots : List (Option X)) (i : ℕ) → is_some (get (by_number slots) i) ≡ true → i < length slots
  used_within slots i used = elim (cases_lt i (length slots)) [
    | inl lt ↦ lt
    | inr le ↦ let none : is_some (get (by_number slots) i) ≡ false = ap is_some (get_past slots i le) in cc
  ]
