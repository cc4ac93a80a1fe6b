-- How many keys a map has, by the range that they lie in.
use Rattle.std.proofs.Common.{◌≡◌, ◌≢◌, ℕ, zero, suc, ◌+◌, ◌<◌, ◌≤◌, true, Option, Some, None, refl, sym, ◌∙◌, ap, subst, inl, inr, arith, cond}
use Rattle.std.specs.Prelude.{is_some}
use Rattle.std.specs.Ordering.{nat_cmp, is_eq}
use Rattle.std.specs.Cmp.{nat_cmp_total, tied_itself}
use Rattle.std.specs.FinMap.{FinMap, empty, get, insert, remove, len, get-empty, get-remove, len-insert, len-empty, same_map, nat_cmp-IsAntisymmetric}
use Rattle.std.proofs.lemmas.Bool.{cases_eq, cases_lt}
use Rattle.vx_base.proofs.Maps.{apart, at_key, at_other}

module _ {X : Type 0} where
  pub removed : (m : FinMap nat_cmp X) (k : ℕ) → get (remove m k) k ≡ None
  removed m k = get-remove nat_cmp_total m k k ∙ ap (λ b. cond b None (get m k)) (ap is_eq (tied_itself nat_cmp_total k))

  pub kept : (m : FinMap nat_cmp X) (k q : ℕ) → q ≢ k → get (remove m k) q ≡ get m q
  kept m k q ne = get-remove nat_cmp_total m k q ∙ ap (λ b. cond b None (get m q)) (apart nat_cmp nat_cmp-IsAntisymmetric q k ne)

  -- what is removed and put again
  put_back : (m : FinMap nat_cmp X) (k : ℕ) (v : X) → get m k ≡ Some v → insert (remove m k) k v ≡ m
  put_back m k v is = same_map nat_cmp_total nat_cmp-IsAntisymmetric _ _ (λ q.
      elim (cases_eq q k) [
        | inl here ↦ subst (λ (x : ℕ). get (insert (remove m k) k v) x ≡ get m x) (sym here) (at_key (remove m k) k v ∙ sym is)
        | inr other ↦ at_other (remove m k) k v q other ∙ kept m k q other
      ])

  pub len_more : (m : FinMap nat_cmp X) (k : ℕ) (v : X) → get m k ≡ None → len (insert m k v) ≡ len m + 1
  len_more m k v none = len-insert nat_cmp_total m k v ∙ ap (λ (o : Option X). cond (is_some o) (len m) (len m + 1)) none

  len_less : (m : FinMap nat_cmp X) (k : ℕ) (v : X) → get m k ≡ Some v → len m ≡ len (remove m k) + 1
  len_less m k v is = ap len (sym (put_back m k v is)) ∙ len_more (remove m k) k v (removed m k)

  removed_none : (m : FinMap nat_cmp X) (k q : ℕ) → get m q ≡ None → get (remove m k) q ≡ None
  removed_none m k q none = elim (cases_eq q k) [
    | inl here ↦ subst (λ (x : ℕ). get (remove m k) x ≡ None) (sym here) (removed m k)
    | inr other ↦ kept m k q other ∙ none
  ]

  within_step : (m : FinMap nat_cmp X) (a n : ℕ) (o : Option X) → get m (a + n) ≡ o → ((q : ℕ) → q < a → get m q ≡ None) → ((q : ℕ) → a + suc n ≤ q → get m q ≡ None)
      → ((less : FinMap nat_cmp X) → ((q : ℕ) → q < a → get less q ≡ None) → ((q : ℕ) → a + n ≤ q → get less q ≡ None) → len less ≤ n) → len m ≤ suc n
  within_step m a n None is low high induction =
      let fewer : len m ≤ n = induction m low (λ q h. elim (cases_eq q (a + n)) [
        | inl here ↦ subst (λ (x : ℕ). get m x ≡ None) (sym here) is
        | inr other ↦ high q (omega arith)
      ]) in
      omega arith
  within_step m a n (Some v) is low high induction =
      let fewer : len (remove m (a + n)) ≤ n = induction (remove m (a + n)) (λ q h. removed_none m (a + n) q (low q h)) (λ q h. elim (cases_eq q (a + n)) [
        | inl here ↦ subst (λ (x : ℕ). get (remove m (a + n)) x ≡ None) (sym here) (removed m (a + n))
        | inr other ↦ removed_none m (a + n) q (high q (omega arith))
      ]) in
      omega (arith, len_less m (a + n) v is)

  nothing : (m : FinMap nat_cmp X) (a : ℕ) → ((q : ℕ) → q < a → get m q ≡ None) → ((q : ℕ) → a ≤ q → get m q ≡ None) → len m ≡ 0
  nothing m a low high =
      ap len (same_map nat_cmp_total nat_cmp-IsAntisymmetric m empty (λ q. elim (cases_lt q a) [ inl lt ↦ low q lt | inr le ↦ high q le ] ∙ sym (get-empty nat_cmp q))) ∙ len-empty nat_cmp X

  -- no map has more keys than there are numbers
  pub len_within : (m : FinMap nat_cmp X) (a n : ℕ) → ((q : ℕ) → q < a → get m q ≡ None) → ((q : ℕ) → a + n ≤ q → get m q ≡ None) → len m ≤ n
  len_within m a zero low high = let none : len m ≡ 0 = nothing m a low (λ q h. high q (omega arith)) in omega arith
  len_within m a (suc n) low high = within_step m a n (get m (a + n)) refl low high (λ less. len_within less a n)

  all_step : (m : FinMap nat_cmp X) (a n : ℕ) (o : Option X) → get m (a + n) ≡ o → is_some o ≡ true → n ≤ len (remove m (a + n)) → suc n ≤ len m
  all_step m a n None is some more = cc
  all_step m a n (Some v) is some more = omega (arith, len_less m (a + n) v is)

  -- a map that has all of them has as many
  pub len_all : (m : FinMap nat_cmp X) (a n : ℕ) → ((q : ℕ) → a ≤ q → q < a + n → is_some (get m q) ≡ true) → n ≤ len m
  len_all m a zero all = omega arith
  len_all m a (suc n) all =
      all_step m a n (get m (a + n)) refl (all (a + n) (omega arith) (omega arith))
      (len_all (remove m (a + n)) a n (λ q low high. ap is_some (kept m (a + n) q (λ e. absurd (omega arith))) ∙ all q low (omega arith)))
