-- Runs of free blocks, as the map finds them and as they are defined.
use Rattle.std.proofs.Common.{◌≡◌, ◌≢◌, ℕ, zero, suc, ◌+◌, ◌-◌, ◌*◌, ◌%◌, ◌<◌, ◌≤◌, Bool, true, false, not, ◌&&◌, cond, Some, None, inl, inr, refl, sym, ◌∙◌, ap, arith}
use Rattle.std.specs.Prelude.{nat_eq, nat_le, nat_lt, slice_set}
use Rattle.std.proofs.lemmas.Bool.{cases_Bool, cases_lt, cases_eq, and_parts, and_from, and_left, and_right, ne_eqb, both_ways, false_from_ne_true}
use Rattle.std.proofs.lemmas.Bool.Decides.{nat_tests}
use Rattle.vx_layout.specs.Places.{Volume}
use Rattle.vx_alloc.specs.FreeMaps.{FreeMapView, is_free, with_bit, cleared, without_run, place_in_unit, IsFreeRun, IsLowestRun, HasNoRun, IsLowestAligned, HasNoAligned, IsLongest}
use Rattle.vx_alloc.specs.FreeMaps as alloc
use Rattle.vx_space.specs.Placement.{are_all, lowest_of, run_start, is_aligned, aligned_start, length_or, longest_length_of, longest_length}
use Rattle.vx_filemaps.specs.FileMaps.{volume_in}
use Rattle.vx_filemaps.specs.RunLaws.{is_in_run}
use Rattle.vx_filemaps.proofs.Free.{taken_here, taken_other}
use Rattle.vx_filemaps.proofs.Placing.{within_units, run_within, passing, all_pass, lowest_found, lowest_none, no_run}

-- ---- runs that begin at a multiple

module _ (view : FreeMapView) (align : ℕ) (some : 0 < align) where
  same_test : (b : ℕ) → alloc.is_aligned view align b ≡ is_aligned (volume_in view) align b
  same_test b = ap (λ (t : Bool). cond t (nat_eq (place_in_unit view b) 0) (nat_eq (place_in_unit view b % align) 0)) (ne_eqb align 0 (λ e. absurd (omega (arith, some, e))))

  pub lowest_aligned : (n b : ℕ) → 0 < n → IsLowestAligned view n align b → aligned_start (volume_in view) (is_free view) align n ≡ Some b
  unfolding aligned_start
  lowest_aligned n b more found =
      let begins = within_units view (b + 0) (found.free 0 more) in
      let low : view.first ≤ b + 0 = begins.low in
      let high : b + 0 - view.first < 4096 * view.units = begins.high in
      lowest_found (λ c. is_aligned (volume_in view) align c && are_all (is_free view) c n) (4096 * view.units) view.first b
      (and_from _ _ (sym (same_test b) ∙ found.aligned) (all_pass (is_free view) b n found.free)) (omega (arith, low)) (omega (arith, low, high))
      (λ c below. false_from_ne_true _ (λ passed. (let parts = and_parts _ _ passed in found.lowest c below (same_test c ∙ parts.0) (passing (is_free view) c n parts.1))))

  pub none_aligned : (n : ℕ) → HasNoAligned view n align → aligned_start (volume_in view) (is_free view) align n ≡ None
  unfolding aligned_start
  none_aligned n none =
      lowest_none (λ c. is_aligned (volume_in view) align c && are_all (is_free view) c n) (4096 * view.units) view.first
      (λ c. false_from_ne_true _ (λ passed. (let parts = and_parts _ _ passed in none c (same_test c ∙ parts.0) (passing (is_free view) c n parts.1))))

-- ---- the longest run

-- a number that passes, in range, is found, or one below it
lowest_some : (test : ℕ → Bool) (more from b : ℕ) → test b ≡ true → from ≤ b → b < from + more → (c : ℕ) × (lowest_of test more from ≡ Some c)
lowest_some test zero from b here low high = absurd (omega (arith, low, high))
lowest_some test (suc more) from b here low high = elim (cases_Bool (test from)) [
  | inl passed ↦ (from, ap (λ t. cond t (Some from) (lowest_of test more (from + 1))) passed)
  | inr failed ↦
      let apart : from ≢ b = λ e. both_ways _ failed (ap test e ∙ here) in
      let rest = lowest_some test more (from + 1) b here (omega (arith, low, apart)) (omega (arith, high)) in
      (rest.0, ap (λ t. cond t (Some from) (lowest_of test more (from + 1))) failed ∙ rest.1)
]

run_some : (view : FreeMapView) (n b : ℕ) → 0 < n → IsFreeRun view b n → (c : ℕ) × (run_start (volume_in view) (is_free view) n ≡ Some c)
unfolding run_start
run_some view n b more run =
    let begins = within_units view (b + 0) (run 0 more) in
    let low : view.first ≤ b + 0 = begins.low in
    let high : b + 0 - view.first < 4096 * view.units = begins.high in
    lowest_some (λ c. are_all (is_free view) c n) (4096 * view.units) view.first b (all_pass (is_free view) b n run) (omega (arith, low)) (omega (arith, low, high))

length_found : (v : Volume) (free : ℕ → Bool) (n run b : ℕ) → 0 < run → run ≤ n → run_start v free run ≡ Some b → ((m : ℕ) → run < m → run_start v free m ≡ None) → longest_length_of v free n ≡ run
length_found v free zero run b some within found longer = absurd (omega (arith, some, within))
length_found v free (suc n) run b some within found longer = elim (cases_lt run (suc n)) [
  | inl below ↦ ap (λ o. length_or (suc n) o (longest_length_of v free n)) (longer (suc n) below) ∙ length_found v free n run b some (omega (arith, below)) found longer
  | inr above ↦
      let same : suc n ≡ run = omega (arith, within, above) in
      ap (λ o. length_or (suc n) o (longest_length_of v free n)) (ap (run_start v free) same ∙ found) ∙ same
]

length_none : (v : Volume) (free : ℕ → Bool) → ((m : ℕ) → 0 < m → run_start v free m ≡ None) → (n : ℕ) → longest_length_of v free n ≡ 0
length_none v free none zero = refl
length_none v free none (suc n) = ap (λ o. length_or (suc n) o (longest_length_of v free n)) (none (suc n) (omega arith)) ∙ length_none v free none n

pub longest_is : (view : FreeMapView) (n : ℕ) → view.per_unit ≤ 4095 → IsLongest view n → longest_length (volume_in view) (is_free view) ≡ n
longest_is view n few found = elim (cases_lt 0 n) [
  | inl some ↦
      let run = run_some view n found.start some found.free in
      length_found (volume_in view) (is_free view) 4096 n run.0 some (run_within view found.start n few found.free) run.1
      (λ m longer. no_run view (volume_in view) (is_free view) (λ q. refl) refl refl m (λ c free. (let short = found.most c m free in absurd (omega (arith, short, longer)))))
  | inr none ↦
      let all : longest_length (volume_in view) (is_free view) ≡ 0 =
      length_none (volume_in view) (is_free view) (λ m more. no_run view (volume_in view) (is_free view) (λ q. refl) refl refl m (λ c free. (let short = found.most c m free in absurd (omega (arith, short, more, none))))) 4096 in
      let same : n ≡ 0 = omega (arith, none) in all ∙ sym same
]

-- ---- a run that is taken

-- n blocks that are taken one after the other
abbrev pub without_each : FreeMapView → ℕ → ℕ → FreeMapView
without_each view b zero = view
without_each view b (suc n) = with_bit (without_each view b n) (b + n) false

run_is_each : (view : FreeMapView) (b n : ℕ) → view.first ≤ b → without_run view b n ≡ without_each view b n
run_is_each view b zero low = refl
run_is_each view b (suc n) low =
    let at : b - view.first + n ≡ b + n - view.first = omega (arith, low) in
    ap (λ (i : ℕ). record view { free = slice_set (cleared view.free (b - view.first) n) i false }) at ∙ ap (λ (w : FreeMapView). with_bit w (b + n) false) (run_is_each view b n low)

each_first : (view : FreeMapView) (b n : ℕ) → (without_each view b n).first ≡ view.first
each_first view b zero = refl
each_first view b (suc n) = each_first view b n

none_in : (b c : ℕ) → is_in_run b 0 c ≡ false
none_in b c = elim (cases_lt c b) [
  | inl lt ↦ (let no : nat_le b c ≡ false = grind (arith, nat_tests) in and_left _ _ no)
  | inr le ↦ (let no : nat_lt c (b + 0) ≡ false = grind (arith, nat_tests) in and_right (nat_le b c) _ no)
]

last_in : (b n : ℕ) → is_in_run b (suc n) (b + n) ≡ true
last_in b n =
    let low : nat_le b (b + n) ≡ true = grind (arith, nat_tests) in
    let high : nat_lt (b + n) (b + suc n) ≡ true = grind (arith, nat_tests) in
    and_from _ _ low high

others_in : (b n c : ℕ) → c ≢ b + n → is_in_run b n c ≡ is_in_run b (suc n) c
others_in b n c ne = elim (cases_lt c (b + n)) [
  | inl lt ↦
      let one : nat_lt c (b + n) ≡ true = grind (arith, nat_tests) in
      let two : nat_lt c (b + suc n) ≡ true = grind (arith, nat_tests) in
      ap (λ (t : Bool). nat_le b c && t) (one ∙ sym two)
  | inr le ↦
      let past : b + suc n ≤ c = omega (arith, le, ne) in
      let one : nat_lt c (b + n) ≡ false = grind (arith, nat_tests) in
      let two : nat_lt c (b + suc n) ≡ false = grind (arith, nat_tests) in
      ap (λ (t : Bool). nat_le b c && t) (one ∙ sym two)
]

taken_each : (view : FreeMapView) (b n c : ℕ) → view.first ≤ b → is_free (without_each view b n) c ≡ (is_free view c && not (is_in_run b n c))
taken_each view b zero c low = sym (ap (λ (t : Bool). is_free view c && not t) (none_in b c) ∙ and_true (is_free view c))
  where
    and_true : (t : Bool) → (t && true) ≡ t
    and_true true = refl
    and_true false = refl
taken_each view b (suc n) c low = taken_last (without_each view b n) (each_first view b n) (taken_each view b n c low)
  where
    taken_last : (w : FreeMapView) → w.first ≡ view.first → is_free w c ≡ (is_free view c && not (is_in_run b n c)) → is_free (with_bit w (b + n) false) c ≡ (is_free view c && not (is_in_run b (suc n) c))
    taken_last w same rest = elim (cases_eq c (b + n)) [
      | inl e ↦
          let yes : is_in_run b (suc n) c ≡ true = ap (is_in_run b (suc n)) e ∙ last_in b n in
          ap (is_free (with_bit w (b + n) false)) e ∙ taken_here w (b + n) ∙ sym (and_right (is_free view c) _ (ap not yes))
      | inr ne ↦ taken_other w (b + n) c (omega (arith, low, same)) ne ∙ rest ∙ ap (λ (t : Bool). is_free view c && not t) (others_in b n c ne)
    ]

none_taken : (view : FreeMapView) (b c : ℕ) → is_free (without_run view b 0) c ≡ (is_free view c && not (is_in_run b 0 c))
none_taken view b c = sym (ap (λ (t : Bool). is_free view c && not t) (none_in b c) ∙ and_true (is_free view c))
  where
    and_true : (t : Bool) → (t && true) ≡ t
    and_true true = refl
    and_true false = refl

pub run_taken : (view : FreeMapView) (b n c : ℕ) → IsFreeRun view b n → is_free (without_run view b n) c ≡ (is_free view c && not (is_in_run b n c))
run_taken view b zero c run = none_taken view b c
run_taken view b (suc n) c run =
    let begins = within_units view (b + 0) (run 0 (omega arith)) in
    let low : view.first ≤ b = (let at = begins.low in omega (arith, at)) in
    ap (λ (w : FreeMapView). is_free w c) (run_is_each view b (suc n) low) ∙ taken_each view b (suc n) c low
