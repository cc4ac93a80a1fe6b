-- The positions at which batches begin.
use Rattle.std.proofs.Common.{◌≡◌, ◌⊎◌, ◌+◌, ◌*◌, ◌<◌, ◌≤◌, ℕ, zero, suc, true, false, List, [], ◌∷◌, ◌++◌, length, refl, ap, inl, inr, arith, Contains}
use Rattle.std.specs.Prelude.{filter, nat_le}
use Rattle.std.proofs.lemmas.Bool.{cases_lt, cases_eq}
use Rattle.std.proofs.lemmas.Bool.Decides.{nat_tests}
use Rattle.vx_log.specs.Logs.{AreAfter, AreStarts}

after_long : (start : ℕ) (starts : List ℕ) (head : ℕ) → AreAfter start starts head → start + 2 * (length starts + 1) ≤ head
after_long start [] head h = omega (arith, h)
after_long start (next ∷ starts) head h = omega (arith, h.0, after_long next starts head h.1)

-- each batch takes two log sectors at least
pub starts_long : (tail : ℕ) (starts : List ℕ) (head : ℕ) → AreStarts tail starts head → tail + 2 * length starts ≤ head
starts_long tail [] head h = omega (arith, h)
starts_long tail (start ∷ starts) head h = omega (arith, h.0, after_long start starts head h.1)

after_push : (start : ℕ) (starts : List ℕ) (head head2 : ℕ) → AreAfter start starts head → head + 2 ≤ head2 → AreAfter start (starts ++ head ∷ []) head2
after_push start [] head head2 h le = (h, le)
after_push start (next ∷ starts) head head2 h le = (h.0, after_push next starts head head2 h.1 le)

pub starts_push : (tail : ℕ) (starts : List ℕ) (head head2 : ℕ) → AreStarts tail starts head → head + 2 ≤ head2 → AreStarts tail (starts ++ head ∷ []) head2
starts_push tail [] head head2 h le = (h, le)
starts_push tail (start ∷ starts) head head2 h le = (h.0, after_push start starts head head2 h.1 le)

-- no later batch begins before an earlier one
after_above : (start : ℕ) (starts : List ℕ) (head to : ℕ) → AreAfter start starts head → (to ≡ head) ⊎ Contains starts to → start + 2 ≤ to
after_above start starts head to h (inl end) = omega (arith, end, after_long start starts head h)
after_above start [] head to h (inr (k, lt, is)) = absurd (omega (arith, lt))
after_above start (next ∷ starts) head to h (inr (zero, lt, is)) = omega (arith, h.0, is)
after_above start (next ∷ starts) head to h (inr (suc k, lt, is)) = omega (arith, h.0, after_above next starts head to h.1 (inr (k, omega (arith, lt), is)))

all_stay : (start : ℕ) (starts : List ℕ) (head to : ℕ) → AreAfter start starts head → to ≤ start → filter (λ (s : ℕ). nat_le to s) starts ≡ starts
all_stay start [] head to h le = refl
all_stay start (next ∷ starts) head to h le =
    let more : to ≤ next = omega (arith, h.0, le) in
    let test : nat_le to next ≡ true = grind (arith, nat_tests) in
    rw test (ap (λ (l : List ℕ). next ∷ l) (all_stay next starts head to h.1 more))

later : (next : ℕ) (starts : List ℕ) (head to : ℕ) → next < to → (to ≡ head) ⊎ Contains (next ∷ starts) to → (to ≡ head) ⊎ Contains starts to
later next starts head to lt (inl end) = inl end
later next starts head to lt (inr (zero, within, is)) = absurd (omega (arith, lt, is))
later next starts head to lt (inr (suc k, within, is)) = inr (k, omega (arith, within), is)

after_advanced : (start : ℕ) (starts : List ℕ) (head to : ℕ) → AreAfter start starts head → (to ≡ head) ⊎ Contains starts to → AreStarts to (filter (λ (s : ℕ). nat_le to s) starts) head
after_advanced start [] head to h (inl end) = end
after_advanced start [] head to h (inr (k, lt, is)) = absurd (omega (arith, lt))
after_advanced start (next ∷ starts) head to h at = elim (cases_lt next to) [
  | inl less ↦
      let test : nat_le to next ≡ false = grind (arith, nat_tests) in
      rw test (after_advanced next starts head to h.1 (later next starts head to less at))
  | inr more ↦
      let test : nat_le to next ≡ true = grind (arith, nat_tests) in
      let stay : filter (λ (s : ℕ). nat_le to s) starts ≡ starts = all_stay next starts head to h.1 more in
      rw (test, stay) (elim (cases_eq to next) [
        | inl same ↦ (same, h.1)
        | inr other ↦ absurd (let less : to < next = omega (arith, more, other) in first_is_least at less)
      ])
]
  where
    first_is_least : (to ≡ head) ⊎ Contains (next ∷ starts) to → to < next → ⊥
    first_is_least (inl end) lt = omega (arith, end, lt, after_long next starts head h.1)
    first_is_least (inr (zero, within, is)) lt = omega (arith, lt, is)
    first_is_least (inr (suc k, within, is)) lt = omega (arith, lt, after_above next starts head to h.1 (inr (k, omega (arith, within), is)))

-- the batches from a boundary on
pub starts_advanced : (tail : ℕ) (starts : List ℕ) (head to : ℕ) → AreStarts tail starts head → (to ≡ head) ⊎ Contains starts to → AreStarts to (filter (λ (s : ℕ). nat_le to s) starts) head
starts_advanced tail [] head to h (inl end) = end
starts_advanced tail [] head to h (inr (k, lt, is)) = absurd (omega (arith, lt))
starts_advanced tail (start ∷ starts) head to h at = elim (cases_lt start to) [
  | inl less ↦
      let test : nat_le to start ≡ false = grind (arith, nat_tests) in
      rw test (after_advanced start starts head to h.1 (later start starts head to less at))
  | inr more ↦
      let test : nat_le to start ≡ true = grind (arith, nat_tests) in
      let stay : filter (λ (s : ℕ). nat_le to s) starts ≡ starts = all_stay start starts head to h.1 more in
      rw (test, stay) (elim (cases_eq to start) [
        | inl same ↦ (same, h.1)
        | inr other ↦ absurd (let less : to < start = omega (arith, more, other) in first_is_least at less)
      ])
]
  where
    first_is_least : (to ≡ head) ⊎ Contains (start ∷ starts) to → to < start → ⊥
    first_is_least (inl end) lt = omega (arith, end, lt, after_long start starts head h.1)
    first_is_least (inr (zero, within, is)) lt = omega (arith, lt, is)
    first_is_least (inr (suc k, within, is)) lt = omega (arith, lt, after_above start starts head to h.1 (inr (k, omega (arith, within), is)))

-- a boundary is not below the tail
pub boundary_above : (tail : ℕ) (starts : List ℕ) (head to : ℕ) → AreStarts tail starts head → (to ≡ head) ⊎ Contains starts to → tail ≤ to
boundary_above tail starts head to h (inl end) = omega (arith, end, starts_long tail starts head h)
boundary_above tail [] head to h (inr (k, lt, is)) = absurd (omega (arith, lt))
boundary_above tail (start ∷ starts) head to h (inr (zero, lt, is)) = omega (arith, h.0, is)
boundary_above tail (start ∷ starts) head to h (inr (suc k, lt, is)) = omega (arith, h.0, after_above start starts head to h.1 (inr (k, omega (arith, lt), is)))
