-- Where a page goes.
use Rattle.std.proofs.Common.{◌≡◌, ℕ, zero, suc, ◌+◌, ◌-◌, ◌*◌, ◌%◌, ◌<◌, ◌≤◌, max, Bool, if◌then◌else◌, true, false, Option, Some, None, inl, inr, refl, sym, ◌∙◌, ap, arith}
use Rattle.std.proofs.lemmas.Bool.{cases_Bool, and_parts, and_left, eq-eqb, false_from_ne_true}
use Rattle.vx_alloc.specs.FreeMaps.{FreeMapView, free_blocks, count_below, is_free, is_aligned, place_in_unit, can_follow, IsFreeRun, IsLowestRun, HasNoRun, IsLowestAligned, HasNoAligned, IsAtLongest, IsAfter, IsStart, IsPlaced, IsLongest}
use Rattle.vx_alloc.proofs.Units.{within_units}

-- every block is a multiple of 1
pub aligned_one : (view : FreeMapView) (b : ℕ) → is_aligned view 1 b ≡ true
aligned_one view b = eq-eqb (place_in_unit view b % 1) 0 (omega arith)

pub lowest_unaligned : (view : FreeMapView) (n b : ℕ) → IsLowestAligned view n 1 b → IsLowestRun view n b
lowest_unaligned view n b found = record { free = found.free; lowest = λ c below free. found.lowest c below (aligned_one view c) free }

pub none_unaligned : (view : FreeMapView) (n : ℕ) → HasNoAligned view n 1 → HasNoRun view n
none_unaligned view n none c free = none c (aligned_one view c) free

-- what comes first in a run is free
pub first_free : (view : FreeMapView) (n b : ℕ) → 0 < n → IsFreeRun view b n → is_free view b ≡ true
first_free view n b some free = let same : b + 0 ≡ b = omega arith in sym (ap (is_free view) same) ∙ free 0 some

pub at_longest_free : (view : FreeMapView) (b : ℕ) → IsAtLongest view b → is_free view b ≡ true
at_longest_free view b found = first_free view found.run b found.some found.lowest.free

pub start_free : (view : FreeMapView) (first : Option ℕ) (b : ℕ) → IsStart view first b → is_free view b ≡ true
start_free view None b found = at_longest_free view b found
start_free view (Some n) b (inl lowest) = first_free view (max n 1) b (omega arith) lowest.free
start_free view (Some n) b (inr longest) = at_longest_free view b longest.1

after_free : (view : FreeMapView) (after : Option ℕ) (b : ℕ) → can_follow view after ≡ true → IsAfter after b → is_free view b ≡ true
after_free view None b can is = absurd is
after_free view (Some block) b can is = ap (is_free view) is ∙ (and_parts _ _ can).0

-- a page goes to a free block
pub placed_free : (view : FreeMapView) (after first : Option ℕ) (b : ℕ) → IsPlaced view after first b → is_free view b ≡ true
placed_free view after first b placed = elim (cases_Bool (can_follow view after)) [
  | inl can ↦ after_free view after b can (placed.following can)
  | inr cannot ↦ start_free view first b (placed.starting cannot)
]

-- nothing follows the last number
pub none_past_end : (view : FreeMapView) (block : ℕ) → view.first + 4096 * view.units ≤ block + 1 → can_follow view (Some block) ≡ false
none_past_end view block past =
    and_left _ _ (false_from_ne_true _ (λ free.
    let within = within_units view (block + 1) free in
    let low : view.first ≤ block + 1 = within.low in
    let high : block + 1 - view.first < 4096 * view.units = within.high in
    omega arith))

count_none : (test : ℕ → Bool) (n : ℕ) → ((k : ℕ) → test k ≡ false) → count_below test n ≡ 0
count_none test zero none = refl
count_none test (suc n) none = ap (λ bit. count_below test n + (if bit then 1 else 0)) (none n) ∙ ap (λ m. m + 0) (count_none test n none)

-- where the longest run has no block, none is free
pub none_free : (view : FreeMapView) → IsLongest view 0 → free_blocks view ≡ 0
none_free view longest =
    count_none (λ i. is_free view (view.first + i)) (4096 * view.units) (λ k. false_from_ne_true _ (λ free.
    let run : IsFreeRun view (view.first + k) 1 = λ j below. let same : view.first + k + j ≡ view.first + k = omega arith in ap (is_free view) same ∙ free in
    let short : 1 ≤ 0 = longest.most (view.first + k) 1 run in
    absurd (omega arith)))
