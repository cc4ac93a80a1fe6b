-- What is placed was free.
use Rattle.std.proofs.Common.{◌≡◌, ℕ, zero, suc, ◌+◌, ◌*◌, ◌<◌, ◌≤◌, Bool, true, ◌&&◌, cond, Option, Some, None, inl, inr, sym, ◌∙◌, ap, arith}
use Rattle.std.proofs.lemmas.Bool.{cases_Bool, and_parts}
use Rattle.std.proofs.lemmas.Option.{same_Some, none-some}
use Rattle.vx_layout.specs.Places.{Volume}
use Rattle.vx_space.specs.Placement.{are_all, lowest_of, or_else, run_start, aligned_start, is_aligned, longest_start, longest_run, next_free, first_run, page_place}

abbrev pub Passes : (ℕ → Bool) → ℕ → ℕ → Type 0
Passes test b n = (k : ℕ) → k < n → test (b + k) ≡ true

passing : (test : ℕ → Bool) (b n : ℕ) → are_all test b n ≡ true → Passes test b n
passing test b zero all k below = absurd (omega arith)
passing test b (suc n) all zero below = let same : b + 0 ≡ b = omega arith in ap test same ∙ (and_parts _ _ all).0
passing test b (suc n) all (suc k) below =
    let same : b + suc k ≡ b + 1 + k = omega arith in
    ap test same ∙ passing test (b + 1) n (and_parts _ _ all).1 k (omega arith)

lowest_passes : (test : ℕ → Bool) (more from b : ℕ) → lowest_of test more from ≡ Some b → test b ≡ true
lowest_passes test zero from b found = absurd (none-some b found)
lowest_passes test (suc more) from b found = elim (cases_Bool (test from)) [
  | inl passed ↦
      let same : Some from ≡ Some b = sym (ap (λ x. cond x (Some from) (lowest_of test more (from + 1))) passed) ∙ found in
      sym (ap test (same_Some from b same)) ∙ passed
  | inr failed ↦ lowest_passes test more (from + 1) b (sym (ap (λ x. cond x (Some from) (lowest_of test more (from + 1))) failed) ∙ found)
]

pub start_passes : (v : Volume) (free : ℕ → Bool) (n b : ℕ) → run_start v free n ≡ Some b → Passes free b n
unfolding run_start
start_passes v free n b found = passing free b n (lowest_passes (λ c. are_all free c n) (4096 * v.units) v.first b found)

pub aligned_passes : (v : Volume) (free : ℕ → Bool) (align n b : ℕ) → aligned_start v free align n ≡ Some b → Passes free b n
unfolding aligned_start
aligned_passes v free align n b found =
    passing free b n (and_parts _ _ (lowest_passes (λ c. is_aligned v align c && are_all free c n) (4096 * v.units) v.first b found)).1

first_passes : (free : ℕ → Bool) (n b : ℕ) → 0 < n → Passes free b n → free b ≡ true
first_passes free n b some passes = let same : b + 0 ≡ b = omega arith in sym (ap free same) ∙ passes 0 some

or_else_passes : (P : ℕ → Type 0) (x y : Option ℕ) (b : ℕ) → (x ≡ Some b → P b) → (y ≡ Some b → P b) → or_else x y ≡ Some b → P b
or_else_passes P None y b left right found = right found
or_else_passes P (Some c) y b left right found = left found

longest_free : (v : Volume) (free : ℕ → Bool) (n b : ℕ) → longest_start v free n ≡ Some b → free b ≡ true
longest_free v free zero b found = absurd (none-some b found)
longest_free v free (suc n) b found =
    or_else_passes (λ c. free c ≡ true) (run_start v free (suc n)) (longest_start v free n) b
    (λ here. first_passes free (suc n) b (omega arith) (start_passes v free (suc n) b here)) (longest_free v free n b) found

pub longest_is_free : (v : Volume) (free : ℕ → Bool) (b : ℕ) → longest_run v free ≡ Some b → free b ≡ true
longest_is_free v free b = longest_free v free 4096 b

next_is_free : (free : ℕ → Bool) (before : Option ℕ) (b : ℕ) → next_free free before ≡ Some b → free b ≡ true
next_is_free free None b found = absurd (none-some b found)
next_is_free free (Some before) b found = elim (cases_Bool (free (before + 1))) [
  | inl passed ↦
      let same : Some (before + 1) ≡ Some b = sym (ap (λ x. cond x (Some (before + 1)) None) passed) ∙ found in
      sym (ap free (same_Some (before + 1) b same)) ∙ passed
  | inr failed ↦ absurd (none-some b (sym (ap (λ x. cond x (Some (before + 1)) None) failed) ∙ found))
]

-- the length of a first extent is above 0
abbrev pub IsAbove : Option ℕ → Type 0
IsAbove None = Unit {0}
IsAbove (Some n) = 1 ≤ n

run_is_free : (v : Volume) (free : ℕ → Bool) (first : Option ℕ) (b : ℕ) → IsAbove first → first_run v free first ≡ Some b → free b ≡ true
run_is_free v free None b some found = absurd (none-some b found)
run_is_free v free (Some n) b some found = first_passes free n b some (start_passes v free n b found)

pub page_is_free : (v : Volume) (free : ℕ → Bool) (before first : Option ℕ) (b : ℕ) → IsAbove first → page_place v free before first ≡ Some b → free b ≡ true
page_is_free v free before first b some found =
    or_else_passes (λ c. free c ≡ true) (next_free free before) (or_else (first_run v free first) (longest_run v free)) b (next_is_free free before b)
    (or_else_passes (λ c. free c ≡ true) (first_run v free first) (longest_run v free) b (run_is_free v free first b some) (longest_is_free v free b)) found
