-- The free blocks of a map, by the maximal runs of its set.
use Rattle.std.proofs.Common.{◌≡◌, ℕ, ◌+◌, ◌-◌, ◌*◌, ◌/◌, ◌%◌, ◌<◌, ◌≤◌, true, false, leb, ltb, ◌&&◌, List, length, get_or, Option, Some, None, inl, inr, refl, sym, ◌∙◌, ap, subst, arith}
use Rattle.std.proofs.lemmas.Bool.{cases_lt, cases_order, both_ways, and_parts, and_from, leb-true, leb-false, ltb-true, le-leb, lt-leb, lt-ltb, not-true, not_from_false, false_from_ne_true}
use Rattle.std.proofs.lemmas.List.Elements.{Contains-get_or}
use Rattle.vx_alloc.specs.declared.run_index.Run.{Run}
use Rattle.vx_alloc.specs.FreeMaps.{FreeMapView, is_at_or_past, IsFreeRun, IsLongest, IsAtLongest, IsLowestAligned, HasNoAligned}
use Rattle.vx_alloc.specs.RunIndexes.{covers, rank, AreApart, IsInside, AreInside, IsInUnit, AreInUnits, IsAligned, IsFit, IsFirstFit, HasNoFit, IsLongestRun, HasNoneBelow, is_data_place, open_units, limit_of}
use Rattle.vx_alloc.proofs.Units.{Passes, free_at, aligned_at, placed_run, free_run}
use Rattle.vx_alloc.proofs.RunLists.{holder, covered}
use Rattle.vx_alloc.proofs.Joins.{same_tests}

-- the runs are those of the set of free blocks
pub record IsMapOf (view : FreeMapView) (runs : List Run) : Type 0 where
  pub covered : (i : ℕ) → covers runs i ≡ get_or view.free i false
  pub placed : (i : ℕ) → get_or view.free i false ≡ true → is_data_place view.per_unit i ≡ true
  pub unit : view.per_unit < 4096
  pub bits : length view.free ≡ 4096 * view.units

-- ---- the limit

below_limit : (units : ℕ) (bar : Option ℕ) (i : ℕ) → i < 4096 * units → is_at_or_past bar (i / 4096) ≡ false → i < 4096 * open_units units bar
below_limit units None i inside off = inside
below_limit units (Some bar) i inside off = let low : i / 4096 < bar = leb-false bar (i / 4096) off in omega arith

pub unbarred : (units : ℕ) (bar : Option ℕ) (i : ℕ) → i < 4096 * open_units units bar → is_at_or_past bar (i / 4096) ≡ false
unbarred units None i below = refl
unbarred units (Some bar) i below = lt-leb bar (i / 4096) (omega arith)

in_units : (units : ℕ) (bar : Option ℕ) (i : ℕ) → i < 4096 * open_units units bar → i < 4096 * units
in_units units None i below = below
in_units units (Some bar) i below = omega arith

-- a block is free where a run has it and it is not barred
pub free_by_runs : (view : FreeMapView) (runs : List Run) → IsMapOf view runs → (i : ℕ) → free_at view i ≡ covers runs i && ltb i (limit_of view)
free_by_runs view runs map i =
    let back : (view.first + i) - view.first ≡ i = omega arith in
    same_tests _ _
    (λ free.
    let parts = and_parts _ _ free in
    let within = and_parts _ _ parts.0 in
    let placed = and_parts _ _ within.1 in
    let state = and_parts _ _ parts.1 in
    let high : (view.first + i) - view.first < 4096 * view.units = ltb-true ((view.first + i) - view.first) (4096 * view.units) placed.0 in
    let off : is_at_or_past view.bar (i / 4096) ≡ false = sym (ap (λ (n : ℕ). is_at_or_past view.bar (n / 4096)) back) ∙ not-true _ state.0 in
    let bit : get_or view.free i false ≡ true = sym (ap (λ (n : ℕ). get_or view.free n false) back) ∙ state.1 in
    and_from _ _ (map.covered i ∙ bit) (lt-ltb i (limit_of view) (below_limit view.units view.bar i (omega arith) off)))
    (λ is.
    let parts = and_parts _ _ is in
    let below : i < limit_of view = ltb-true i (limit_of view) parts.1 in
    let bit : get_or view.free i false ≡ true = sym (map.covered i) ∙ parts.0 in
    let inside : i < 4096 * view.units = in_units view.units view.bar i below in
    let there : (view.first + i) - view.first < 4096 * view.units = omega arith in
    and_from _ _
    (and_from _ _ (le-leb view.first (view.first + i) (omega arith)) (and_from _ _ (lt-ltb _ _ there) (ap (λ (n : ℕ). leb (4096 - view.per_unit) (n % 4096)) back ∙ map.placed i bit)))
    (and_from _ _ (not_from_false _ (ap (λ (n : ℕ). is_at_or_past view.bar (n / 4096)) back ∙ unbarred view.units view.bar i below)) (ap (λ (n : ℕ). get_or view.free n false) back ∙ bit)))

-- the first block of a unit is in no run
pub unit_starts : (view : FreeMapView) (runs : List Run) → IsMapOf view runs → (u : ℕ) → covers runs (4096 * u) ≡ false
unit_starts view runs map u = false_from_ne_true _ (λ is.
    let placed : 4096 - view.per_unit ≤ (4096 * u) % 4096 = leb-true (4096 - view.per_unit) ((4096 * u) % 4096) (map.placed (4096 * u) (sym (map.covered (4096 * u)) ∙ is)) in
    let unit : view.per_unit < 4096 = map.unit in
    let first : (4096 * u) % 4096 ≡ 0 = omega arith in
    absurd (omega arith))

pub runs_in_units : (room : ℕ) (runs : List Run) → AreInside room runs → ((u : ℕ) → covers runs (4096 * u) ≡ false) → AreInUnits runs
runs_in_units room runs inside starts k d here =
    let start : ℕ = (get_or runs k d).start in
    let len : ℕ = (get_or runs k d).len in
    let some : 0 < len = (inside k d here).some in
    record {
      past = elim (cases_lt 0 (start % 4096)) [
        | inl past ↦ past
        | inr first ↦
            let at : start ≡ 4096 * (start / 4096) = omega arith in
            absurd (both_ways _ (starts (start / 4096)) (covered runs (4096 * (start / 4096)) k d here (omega arith) (omega arith)))
      ];
      end = elim (cases_lt 4096 ((start % 4096) + len)) [
        | inr fits ↦ fits
        | inl over ↦ absurd (both_ways _ (starts ((start / 4096) + 1)) (covered runs (4096 * ((start / 4096) + 1)) k d here (omega arith) (omega arith)))
      ];
    }

-- ---- free runs and runs of the set

-- blocks that are in runs one after another are in one run
one_run : (runs : List Run) (limit c n : ℕ) → AreApart runs → 0 < n → ((k : ℕ) → k < n → covers runs (c + k) ≡ true) → c < limit → IsFit runs limit n c
one_run runs limit c n apart some all below =
    let e : Run = record { start = 0; len = 0 } in
    let first = holder runs (c + 0) (all 0 some) in
    let k : ℕ = first.at in
    let here : k < length runs = first.held.in_bounds in
    let low : (get_or runs k e).start ≤ c + 0 = (first.held.between e).low in
    let high : c + 0 < (get_or runs k e).start + (get_or runs k e).len = (first.held.between e).high in
    record {
      run = get_or runs k e;
      has = Contains-get_or runs k e here;
      low = omega arith;
      end = elim (cases_lt ((get_or runs k e).start + (get_or runs k e).len) (c + n)) [
        | inr fits ↦ fits
        | inl short ↦
            let past : ℕ = (get_or runs k e).start + (get_or runs k e).len in
            let at : c + (past - c) ≡ past = omega arith in
            let next = holder runs (c + (past - c)) (all (past - c) (omega arith)) in
            let j : ℕ = next.at in
            let there : j < length runs = next.held.in_bounds in
            let low' : (get_or runs j e).start ≤ c + (past - c) = (next.held.between e).low in
            let high' : c + (past - c) < (get_or runs j e).start + (get_or runs j e).len = (next.held.between e).high in
            elim (cases_order k j) [
              | inl same ↦ let is : get_or runs k e ≡ get_or runs j e = ap (λ (m : ℕ). get_or runs m e) same in absurd (omega (arith, ap (λ (r : Run). r.start) is, ap (λ (r : Run). r.len) is))
              | inr others ↦ elim others [
                | inl later ↦ let gap : (get_or runs k e).start + (get_or runs k e).len < (get_or runs j e).start = apart k j e later there in absurd (omega arith)
                | inr earlier ↦ let gap : (get_or runs j e).start + (get_or runs j e).len < (get_or runs k e).start = apart j k e earlier here in absurd (omega arith)
              ]
            ]
      ];
      below = omega arith;
    }

pub fit_of_passes : (view : FreeMapView) (runs : List Run) (c n : ℕ) → IsMapOf view runs → AreApart runs → 0 < n → Passes (free_at view) c n → IsFit runs (limit_of view) n c
fit_of_passes view runs c n map apart some passes =
    let first : c + 0 < limit_of view = ltb-true (c + 0) (limit_of view) (and_parts _ _ (sym (free_by_runs view runs map (c + 0)) ∙ passes 0 some)).1 in
    one_run runs (limit_of view) c n apart some (λ k h. (and_parts _ _ (sym (free_by_runs view runs map (c + k)) ∙ passes k h)).0) (omega arith)

pub passes_of_fit : (view : FreeMapView) (runs : List Run) (c n : ℕ) → IsMapOf view runs → AreInUnits runs → IsFit runs (limit_of view) n c → Passes (free_at view) c n
passes_of_fit view runs c n map units fit k h =
    let at : ℕ = fit.has.0 in
    let here : at < length runs = fit.has.1 in
    let unit : IsInUnit fit.run = subst IsInUnit fit.has.2 (units at fit.run here) in
    let fits : (fit.run.start % 4096) + fit.run.len ≤ 4096 = unit.end in
    let low : fit.run.start ≤ c = fit.low in
    let end : c + n ≤ fit.run.start + fit.run.len = fit.end in
    let below : fit.run.start < 4096 * open_units view.units view.bar = fit.below in
    let starts : (get_or runs at fit.run).start ≡ fit.run.start = ap (λ (r : Run). r.start) fit.has.2 in
    let lengths : (get_or runs at fit.run).len ≡ fit.run.len = ap (λ (r : Run). r.len) fit.has.2 in
    let inside : c + k < 4096 * open_units view.units view.bar = omega arith in
    free_by_runs view runs map (c + k) ∙ and_from _ _ (covered runs (c + k) at fit.run here (omega arith) (omega arith)) (lt-ltb (c + k) (limit_of view) inside)

-- ---- the longest

module _ (view : FreeMapView) (runs : List Run) (map : IsMapOf view runs) (apart : AreApart runs) (inside : AreInside (4096 * 64) runs) where
  fits_in : (run : Run) → IsLongestRun runs (limit_of view) run → IsFit runs (limit_of view) run.len run.start
  fits_in run longest = record { run = run; has = longest.has; low = omega arith; end = omega arith; below = longest.below }

  run_passes : (run : Run) → IsLongestRun runs (limit_of view) run → Passes (free_at view) run.start run.len
  run_passes run longest = passes_of_fit view runs run.start run.len map (runs_in_units (4096 * 64) runs inside (unit_starts view runs map)) (fits_in run longest)

  -- a run that has blocks that are free has no higher rank
  lower_rank : (run : Run) (b n : ℕ) → IsLongestRun runs (limit_of view) run → (fit : IsFit runs (limit_of view) n b) → rank fit.run ≤ rank run
  lower_rank run b n longest fit = subst (λ (r : Run). r.start < limit_of view → rank r ≤ rank run) fit.has.2 (longest.most fit.has.0 fit.run fit.has.1) fit.below

  start_low : (b n : ℕ) → (fit : IsFit runs (limit_of view) n b) → fit.run.start < 4294967296
  start_low b n fit =
      let is : IsInside (4096 * 64) fit.run = subst (IsInside (4096 * 64)) fit.has.2 (inside fit.has.0 fit.run fit.has.1) in
      let end : fit.run.start + fit.run.len ≤ 4096 * 64 = is.end in
      omega arith

  fit_of_run : (b m : ℕ) → 0 < m → IsFreeRun view b m → IsFit runs (limit_of view) m (b - view.first)
  fit_of_run b m some free = fit_of_passes view runs (b - view.first) m map apart some (placed_run view b m some free).passing

  pub longest_is : (run : Run) → IsLongestRun runs (limit_of view) run → IsLongest view run.len
  longest_is run longest = record {
    start = view.first + run.start;
    free = free_run view run.start run.len (run_passes run longest);
    most = λ b m free. elim (cases_lt 0 m) [
      | inr none ↦ omega arith
      | inl some ↦
          let fit = fit_of_run b m some free in
          let low : fit.run.start ≤ b - view.first = fit.low in
          let end : (b - view.first) + m ≤ fit.run.start + fit.run.len = fit.end in
          let lower : rank fit.run ≤ rank run = lower_rank run (b - view.first) m longest fit in
          omega arith
    ];
  }

  pub at_longest_is : (run : Run) → IsLongestRun runs (limit_of view) run → IsAtLongest view (view.first + run.start)
  at_longest_is run longest =
      let own = fits_in run longest in
      let is : IsInside (4096 * 64) run = subst (IsInside (4096 * 64)) longest.has.2 (inside longest.has.0 run longest.has.1) in
      let ends : run.start + run.len ≤ 4096 * 64 = is.end in
      record {
        run = run.len;
        some = is.some;
        longest = longest_is run longest;
        lowest = record {
          free = free_run view run.start run.len (run_passes run longest);
          lowest = λ c lower free.
              let some : 0 < run.len = is.some in
              let begins : view.first ≤ c = (placed_run view c run.len some free).low in
              let fit = fit_of_run c run.len some free in
              let low : fit.run.start ≤ c - view.first = fit.low in
              let end : (c - view.first) + run.len ≤ fit.run.start + fit.run.len = fit.end in
              let small : fit.run.start < 4294967296 = start_low (c - view.first) run.len fit in
              let rank_low : rank fit.run ≤ rank run = lower_rank run (c - view.first) run.len longest fit in
              absurd (omega arith);
        };
      }

  pub none_longest : HasNoneBelow runs (limit_of view) → IsLongest view 0
  none_longest none = record {
    start = 0;
    free = λ k h. absurd (omega arith);
    most = λ b m free. elim (cases_lt 0 m) [
      | inr zero_long ↦ omega arith
      | inl some ↦
          let fit = fit_of_run b m some free in
          let high : limit_of view ≤ (get_or runs fit.has.0 fit.run).start = none fit.has.0 fit.run fit.has.1 in
          let is : (get_or runs fit.has.0 fit.run).start ≡ fit.run.start = ap (λ (r : Run). r.start) fit.has.2 in
          let below : fit.run.start < limit_of view = fit.below in
          absurd (omega arith)
    ];
  }

  -- ---- the first fit

  aligned_is : (align i : ℕ) → aligned_at view align i ≡ true → IsAligned align i
  aligned_is align i is = let back : (view.first + i) - view.first ≡ i = omega arith in subst (IsAligned align) back is

  pub first_fit_is : (n align start : ℕ) → 0 < n → IsFirstFit runs (limit_of view) n align start → IsLowestAligned view n align (view.first + start)
  first_fit_is n align start some found = record {
    free = free_run view start n (passes_of_fit view runs start n map (runs_in_units (4096 * 64) runs inside (unit_starts view runs map)) found.fit);
    aligned = let back : start ≡ (view.first + start) - view.first = omega arith in subst (IsAligned align) back found.aligned;
    lowest = λ c lower aligned free.
        let run = placed_run view c n some free in
        let begins : view.first ≤ c = run.low in
        found.lowest (c - view.first) (omega arith) aligned (fit_of_run c n some free);
  }

  pub none_fit_is : (n align : ℕ) → 0 < n → HasNoFit runs (limit_of view) n align → HasNoAligned view n align
  none_fit_is n align some none c aligned free = none (c - view.first) aligned (fit_of_run c n some free)
