-- Where a page goes: what the map of free blocks finds is what the page rule says.
use Rattle.std.proofs.Common.{◌≡◌, ◌≢◌, ℕ, zero, suc, ◌+◌, ◌-◌, ◌*◌, ◌/◌, ◌%◌, ◌<◌, ◌≤◌, max, Bool, true, false, ◌&&◌, cond, Option, Some, None, inl, inr, refl, sym, ◌∙◌, ap, subst, arith}
use Rattle.std.proofs.lemmas.Bool.{cases_Bool, cases_lt, and_parts, and_from, eq-eqb, leb-true, ltb-true, both_ways, false_from_ne_true}
use Rattle.std.proofs.lemmas.Option.{same_Some, none-some}
use Rattle.vx_layout.specs.Places.{Volume}
use Rattle.vx_alloc.specs.FreeMaps.{FreeMapView, free_blocks, count_below, is_free, unit_of, place_in_unit, can_follow, IsFreeRun, IsLowestRun, HasNoRun, IsAtLongest, IsStart, IsPlaced}
use Rattle.vx_space.specs.Placement.{are_all, lowest_of, or_else, first_run, run_start, longest_start, longest_run, page_place}

-- a first extent has a length
abbrev pub IsAbove : Option ℕ → Type 0
IsAbove None = Unit {0}
IsAbove (Some n) = 1 ≤ n

-- ---- numbers that pass a test

abbrev pub Passes : (ℕ → Bool) → ℕ → ℕ → Type 0
Passes test b n = (k : ℕ) → k < n → test (b + k) ≡ true

pub passing : (test : ℕ → Bool) (b n : ℕ) → are_all test b n ≡ true → Passes test b n
passing test b zero all k below = absurd (omega arith)
passing test b (suc n) all zero below = let same : b + 0 ≡ b = omega arith in ap test same ∙ (and_parts _ _ all).0
passing test b (suc n) all (suc k) below =
    let same : b + suc k ≡ b + 1 + k = omega arith in
    ap test same ∙ passing test (b + 1) n (and_parts _ _ all).1 k (omega arith)

pub all_pass : (test : ℕ → Bool) (b n : ℕ) → Passes test b n → are_all test b n ≡ true
all_pass test b zero passes = refl
all_pass test b (suc n) passes =
    let same : b + 0 ≡ b = omega arith in
    and_from _ _ (sym (ap test same) ∙ passes 0 (omega arith))
    (all_pass test (b + 1) n (λ k below. let next : b + 1 + k ≡ b + suc k = omega arith in ap test next ∙ passes (suc k) (omega arith)))

same_all : (f g : ℕ → Bool) → ((q : ℕ) → f q ≡ g q) → (b n : ℕ) → are_all f b n ≡ are_all g b n
same_all f g same b zero = refl
same_all f g same b (suc n) = ap (λ x. x && are_all f (b + 1) n) (same b) ∙ ap (λ x. g b && x) (same_all f g same (b + 1) n)

-- ---- the lowest number that passes a test

pub lowest_found : (test : ℕ → Bool) (more from b : ℕ) → test b ≡ true → from ≤ b → b < from + more → ((c : ℕ) → c < b → test c ≡ false) → lowest_of test more from ≡ Some b
lowest_found test zero from b here low high before = absurd (omega arith)
lowest_found test (suc more) from b here low high before = elim (cases_lt from b) [
  | inl below ↦ ap (λ x. cond x (Some from) (lowest_of test more (from + 1))) (before from below) ∙ lowest_found test more (from + 1) b here (omega arith) (omega arith) before
  | inr above ↦
      let same : from ≡ b = omega arith in
      ap (λ x. cond x (Some from) (lowest_of test more (from + 1))) (ap test same ∙ here) ∙ ap Some same
]

pub lowest_none : (test : ℕ → Bool) (more from : ℕ) → ((c : ℕ) → test c ≡ false) → lowest_of test more from ≡ None
lowest_none test zero from none = refl
lowest_none test (suc more) from none = ap (λ x. cond x (Some from) (lowest_of test more (from + 1))) (none from) ∙ lowest_none test more (from + 1) none

lowest_passes : (test : ℕ → Bool) (more from b : ℕ) → lowest_of test more from ≡ Some b → test b ≡ true
lowest_passes test zero from b found = absurd (none-some b found)
lowest_passes test (suc more) from b found = elim (cases_Bool (test from)) [
  | inl passed ↦
      let same : Some from ≡ Some b = sym (ap (λ x. cond x (Some from) (lowest_of test more (from + 1))) passed) ∙ found in
      sym (ap test (same_Some from b same)) ∙ passed
  | inr failed ↦ lowest_passes test more (from + 1) b (sym (ap (λ x. cond x (Some from) (lowest_of test more (from + 1))) failed) ∙ found)
]

same_lowest : (f g : ℕ → Bool) → ((q : ℕ) → f q ≡ g q) → (more from : ℕ) → lowest_of f more from ≡ lowest_of g more from
same_lowest f g same zero from = refl
same_lowest f g same (suc more) from =
    ap (λ x. cond x (Some from) (lowest_of f more (from + 1))) (same from) ∙ ap (λ x. cond (g from) (Some from) x) (same_lowest f g same more (from + 1))

-- ---- runs of free blocks

same_start : (v : Volume) (f g : ℕ → Bool) → ((q : ℕ) → f q ≡ g q) → (n : ℕ) → run_start v f n ≡ run_start v g n
unfolding run_start
same_start v f g same n = same_lowest (λ b. are_all f b n) (λ b. are_all g b n) (λ b. same_all f g same b n) (4096 * v.units) v.first

starts : (v : Volume) (free : ℕ → Bool) (n b : ℕ) → Passes free b n → v.first ≤ b → b < v.first + 4096 * v.units → ((c : ℕ) → c < b → Passes free c n → ⊥) → run_start v free n ≡ Some b
unfolding run_start
starts v free n b passes low high lowest =
    lowest_found (λ c. are_all free c n) (4096 * v.units) v.first b (all_pass free b n passes) low high
    (λ c below. false_from_ne_true _ (λ all. lowest c below (passing free c n all)))

no_start : (v : Volume) (free : ℕ → Bool) (n : ℕ) → ((c : ℕ) → Passes free c n → ⊥) → run_start v free n ≡ None
unfolding run_start
no_start v free n none = lowest_none (λ c. are_all free c n) (4096 * v.units) v.first (λ c. false_from_ne_true _ (λ all. none c (passing free c n all)))

start_passes : (v : Volume) (free : ℕ → Bool) (n b : ℕ) → run_start v free n ≡ Some b → Passes free b n
unfolding run_start
start_passes v free n b found = passing free b n (lowest_passes (λ c. are_all free c n) (4096 * v.units) v.first b found)

first_passes : (free : ℕ → Bool) (n b : ℕ) → 0 < n → Passes free b n → free b ≡ true
first_passes free n b some passes = let same : b + 0 ≡ b = omega arith in sym (ap free same) ∙ passes 0 some

-- ---- the longest run

same_longest : (v : Volume) (f g : ℕ → Bool) → ((q : ℕ) → f q ≡ g q) → (n : ℕ) → longest_start v f n ≡ longest_start v g n
same_longest v f g same zero = refl
same_longest v f g same (suc n) =
    ap (λ x. or_else x (longest_start v f n)) (same_start v f g same (suc n)) ∙ ap (λ x. or_else (run_start v g (suc n)) x) (same_longest v f g same n)

longest_found : (v : Volume) (free : ℕ → Bool) (n run b : ℕ) → 0 < run → run ≤ n → run_start v free run ≡ Some b → ((m : ℕ) → run < m → run_start v free m ≡ None) → longest_start v free n ≡ Some b
longest_found v free zero run b some within found longer = absurd (omega arith)
longest_found v free (suc n) run b some within found longer = elim (cases_lt run (suc n)) [
  | inl below ↦ ap (λ x. or_else x (longest_start v free n)) (longer (suc n) below) ∙ longest_found v free n run b some (omega arith) found longer
  | inr above ↦
      let same : suc n ≡ run = omega arith in
      ap (λ x. or_else x (longest_start v free n)) (ap (run_start v free) same ∙ found)
]

longest_none : (v : Volume) (free : ℕ → Bool) → ((m : ℕ) → 0 < m → run_start v free m ≡ None) → (n : ℕ) → longest_start v free n ≡ None
longest_none v free none zero = refl
longest_none v free none (suc n) = ap (λ x. or_else x (longest_start v free n)) (none (suc n) (omega arith)) ∙ longest_none v free none n

or_else_passes : (P : ℕ → Type 0) (x y : Option ℕ) (b : ℕ) → (x ≡ Some b → P b) → (y ≡ Some b → P b) → or_else x y ≡ Some b → P b
or_else_passes P None y b left right found = right found
or_else_passes P (Some c) y b left right found = left found

longest_free : (v : Volume) (free : ℕ → Bool) (n b : ℕ) → longest_start v free n ≡ Some b → free b ≡ true
longest_free v free zero b found = absurd (none-some b found)
longest_free v free (suc n) b found =
    or_else_passes (λ c. free c ≡ true) (run_start v free (suc n)) (longest_start v free n) b
    (λ here. first_passes free (suc n) b (omega arith) (start_passes v free (suc n) b here)) (longest_free v free n b) found

-- ---- the map's runs

pub record IsWithin (view : FreeMapView) (b : ℕ) : Type 0 where
  pub low : view.first ≤ b
  pub high : b - view.first < 4096 * view.units
  pub data_block : 4096 - view.per_unit ≤ place_in_unit view b

pub within_units : (view : FreeMapView) (b : ℕ) → is_free view b ≡ true → IsWithin view b
within_units view b free =
    let parts = and_parts _ _ ((and_parts _ _ free).0) in
    let inner = and_parts _ _ parts.1 in
    record {
      low = leb-true view.first b parts.0;
      high = ltb-true (b - view.first) (4096 * view.units) inner.0;
      data_block = leb-true (4096 - view.per_unit) (place_in_unit view b) inner.1;
    }

-- the first block of a unit is no data block
not_first : (view : FreeMapView) (b : ℕ) → view.per_unit ≤ 4095 → is_free view b ≡ true → (b - view.first) % 4096 ≢ 0
not_first view b few free zero_place =
    let within = within_units view b free in
    let past : 4096 - view.per_unit ≤ (b - view.first) % 4096 = within.data_block in
    omega arith

-- so no run is longer than a unit
pub run_within : (view : FreeMapView) (b n : ℕ) → view.per_unit ≤ 4095 → IsFreeRun view b n → n ≤ 4096
run_within view b n few free = elim (cases_lt 4096 n) [
  | inl long ↦
      let first_within = within_units view (b + 0) (free 0 (omega arith)) in
      let low : view.first ≤ b + 0 = first_within.low in
      let off : ℕ = 4095 - (b - view.first + 4095) % 4096 in
      let zero_place : (b + off - view.first) % 4096 ≡ 0 = omega arith in
      absurd (not_first view (b + off) few (free off (omega arith)) zero_place)
  | inr short ↦ short
]

-- where a block is free behind another, the two stand in one unit
follows : (view : FreeMapView) (before : ℕ) → view.per_unit ≤ 4095 → is_free view (before + 1) ≡ true → can_follow view (Some before) ≡ true
follows view before few free =
    let within = within_units view (before + 1) free in
    let low : view.first ≤ before + 1 = within.low in
    let place : (before + 1 - view.first) % 4096 ≢ 0 = not_first view (before + 1) few free in
    let unit : (before - view.first) / 4096 ≡ (before + 1 - view.first) / 4096 = omega arith in
    and_from _ _ free (eq-eqb (unit_of view before) (unit_of view (before + 1)) unit)

-- ---- both

module _ (view : FreeMapView) (v : Volume) (free : ℕ → Bool) (same : (q : ℕ) → is_free view q ≡ free q) (first_is : view.first ≡ v.first) (units_are : view.units ≡ v.units) where
  passes_of : (b n : ℕ) → IsFreeRun view b n → Passes free b n
  passes_of b n run k below = sym (same (b + k)) ∙ run k below

  run_of : (b n : ℕ) → Passes free b n → IsFreeRun view b n
  run_of b n passes k below = same (b + k) ∙ passes k below

  pub lowest_start : (n b : ℕ) → 0 < n → IsLowestRun view n b → run_start v free n ≡ Some b
  lowest_start n b some found =
      let begins = within_units view (b + 0) (found.free 0 some) in
      let low : view.first ≤ b + 0 = begins.low in
      let high : b + 0 - view.first < 4096 * view.units = begins.high in
      let size : 4096 * view.units ≡ 4096 * v.units = ap (λ u. 4096 * u) units_are in
      starts v free n b (passes_of b n found.free) (omega arith) (omega arith) (λ c below passes. found.lowest c below (run_of c n passes))

  pub no_run : (n : ℕ) → HasNoRun view n → run_start v free n ≡ None
  no_run n none = no_start v free n (λ c passes. none c (run_of c n passes))

  at_longest : view.per_unit ≤ 4095 → (b : ℕ) → IsAtLongest view b → longest_run v free ≡ Some b
  at_longest few b found =
      longest_found v free 4096 found.run b found.some (run_within view b found.run few found.lowest.free) (lowest_start found.run b found.some found.lowest)
      (λ m longer. no_run m (λ c run. let short : m ≤ found.run = found.longest.most c m run in omega arith))

  first_page : view.per_unit ≤ 4095 → (first : Option ℕ) (b : ℕ) → IsAbove first → IsStart view first b → or_else (first_run v free first) (longest_run v free) ≡ Some b
  first_page few None b some found = at_longest few b found
  first_page few (Some first) b some (inl lowest) =
      let n : max first 1 ≡ first = omega (arith, some) in
      ap (λ x. or_else x (longest_run v free)) (lowest_start first b some (subst (λ m. IsLowestRun view m b) n lowest))
  first_page few (Some first) b some (inr longest) =
      let n : max first 1 ≡ first = omega (arith, some) in
      ap (λ x. or_else x (longest_run v free)) (no_run first (subst (HasNoRun view) n longest.0)) ∙ at_longest few b longest.1

  following_page : (before : ℕ) (first : Option ℕ) (b : ℕ) → can_follow view (Some before) ≡ true → b ≡ before + 1 → page_place v free (Some before) first ≡ Some b
  following_page before first b can is =
      ap (λ x. or_else (cond x (Some (before + 1)) None) (or_else (first_run v free first) (longest_run v free))) (sym (same (before + 1)) ∙ (and_parts _ _ can).0) ∙ ap Some (sym is)

  other_page : view.per_unit ≤ 4095 → (before : ℕ) (first : Option ℕ) (b : ℕ) → IsAbove first → can_follow view (Some before) ≡ false → IsStart view first b → page_place v free (Some before) first ≡ Some b
  other_page few before first b some cannot found =
      let used : is_free view (before + 1) ≡ false = false_from_ne_true _ (λ passed. both_ways _ cannot (follows view before few passed)) in
      ap (λ x. or_else (cond x (Some (before + 1)) None) (or_else (first_run v free first) (longest_run v free))) (sym (same (before + 1)) ∙ used) ∙ first_page few first b some found

-- ---- nothing free

count_zero : (test : ℕ → Bool) (n k : ℕ) → count_below test n ≡ 0 → k < n → test k ≡ false
count_zero test zero k counted below = absurd (omega arith)
count_zero test (suc n) k counted below =
    let last : test n ≡ false = false_from_ne_true _ (λ passed. let one : count_below test n + 1 ≡ 0 = sym (ap (λ x. count_below test n + cond x 1 0) passed) ∙ counted in omega arith) in
    elim (cases_lt k n) [
      | inl inside ↦ count_zero test n k (omega arith) inside
      | inr at_end ↦ let same : k ≡ n = omega arith in ap test same ∙ last
    ]

none_free : (view : FreeMapView) → free_blocks view ≡ 0 → (b : ℕ) → is_free view b ≡ true → ⊥
none_free view counted b free =
    let within = within_units view b free in
    let low : view.first ≤ b = within.low in
    let same : b ≡ view.first + (b - view.first) = omega arith in
    both_ways _ (count_zero (λ i. is_free view (view.first + i)) (4096 * view.units) (b - view.first) counted within.high) (sym (ap (is_free view) same) ∙ free)

no_first : (v : Volume) (free : ℕ → Bool) (first : Option ℕ) → IsAbove first → ((m : ℕ) → 0 < m → run_start v free m ≡ None) → first_run v free first ≡ None
no_first v free None some nowhere = refl
no_first v free (Some n) some nowhere = nowhere n some

no_page : (v : Volume) (free : ℕ → Bool) (after first : Option ℕ) → IsAbove first → ((m : ℕ) → 0 < m → run_start v free m ≡ None) → ((q : ℕ) → free q ≡ false) → page_place v free after first ≡ None
no_page v free None first some nowhere used = ap (λ x. or_else x (longest_run v free)) (no_first v free first some nowhere) ∙ longest_none v free nowhere 4096
no_page v free (Some before) first some nowhere used =
    ap (λ x. or_else (cond x (Some (before + 1)) None) (or_else (first_run v free first) (longest_run v free))) (used (before + 1))
    ∙ ap (λ x. or_else x (longest_run v free)) (no_first v free first some nowhere) ∙ longest_none v free nowhere 4096

-- ---- where a page goes

module _ (view : FreeMapView) (v : Volume) (free : ℕ → Bool) (same : (b : ℕ) → is_free view b ≡ free b) (from : view.first ≡ v.first) (units : view.units ≡ v.units) (per_unit : view.per_unit ≤ 4095) where
  pub placed : (after first : Option ℕ) (b : ℕ) → IsAbove first → IsPlaced view after first b → page_place v free after first ≡ Some b
  placed None first b some found = first_page view v free same from units per_unit first b some (found.starting refl)
  placed (Some before) first b some found = elim (cases_Bool (can_follow view (Some before))) [
    | inl can ↦ following_page view v free same from units before first b can (found.following can)
    | inr cannot ↦ other_page view v free same from units per_unit before first b some cannot (found.starting cannot)
  ]

  pub longest_placed : (b : ℕ) → IsPlaced view None None b → longest_run v free ≡ Some b
  longest_placed b found = at_longest view v free same from units per_unit b (found.starting refl)

  nowhere_free : free_blocks view ≡ 0 → (m : ℕ) → 0 < m → run_start v free m ≡ None
  nowhere_free counted m more = no_start v free m (λ c passes. none_free view counted c (same c ∙ first_passes free m c more passes))

  pub none_placed : (after first : Option ℕ) → IsAbove first → free_blocks view ≡ 0 → page_place v free after first ≡ None
  none_placed after first some counted =
      no_page v free after first some (nowhere_free counted) (λ q. false_from_ne_true _ (λ passed. none_free view counted q (same q ∙ passed)))

  pub longest_nowhere : free_blocks view ≡ 0 → longest_run v free ≡ None
  longest_nowhere counted = longest_none v free (nowhere_free counted) 4096
