-- The first bits of a bitmap, as they are set one after another.
use Rattle.std.proofs.Common.{◌≡◌, ◌≢◌, ℕ, zero, suc, ◌+◌, ◌<◌, Bool, true, false, List, length, replicate, set, get_or, nat_lt, refl, sym, subst, ◌∙◌, arith, inl, inr}
use Rattle.std.proofs.lemmas.Bool.{cases_eq, cases_order, lt-ltb, le-ltb}
use Rattle.std.proofs.lemmas.List.{get_or-set_same, get_or-set_other}

pub none_set : (n k : ℕ) → get_or (replicate n false) k false ≡ false
none_set zero k = refl
none_set (suc n) zero = refl
none_set (suc n) (suc k) = none_set n k

pub not_below_zero : (k : ℕ) → nat_lt k 0 ≡ false
not_below_zero k = le-ltb k 0 (omega arith)

-- the numbers below i + 1 are i and those below it
below_next : (k i : ℕ) → k ≢ i → nat_lt k i ≡ nat_lt k (i + 1)
below_next k i other =
    elim (cases_order k i) [
      | inl same ↦ absurd (other same)
      | inr apart ↦ elim apart [
        | inl below ↦ lt-ltb k i below ∙ sym (lt-ltb k (i + 1) (omega (arith, below)))
        | inr above ↦ le-ltb k i (omega (arith, above)) ∙ sym (le-ltb k (i + 1) (omega (arith, above)))
      ]
    ]

pub one_more : (xs : List Bool) (i : ℕ) → i < length xs → ((k : ℕ) → get_or xs k false ≡ nat_lt k i) → (k : ℕ) → get_or (set xs i true) k false ≡ nat_lt k (i + 1)
one_more xs i lt is k = elim (cases_eq k i) [
  | inl here ↦ subst (λ (x : ℕ). get_or (set xs i true) x false ≡ nat_lt x (i + 1)) (sym here) (get_or-set_same xs i true false lt ∙ sym (lt-ltb i (i + 1) (omega arith)))
  | inr other ↦ get_or-set_other xs i k true false other ∙ is k ∙ below_next k i other
]
