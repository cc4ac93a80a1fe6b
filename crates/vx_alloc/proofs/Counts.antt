-- Counts of the blocks that are free, and of lists that change.
use Rattle.std.proofs.Common.{◌≡◌, ◌≢◌, ◌⊎◌, ℕ, zero, suc, ◌+◌, ◌-◌, ◌*◌, ◌<◌, ◌≤◌, Bool, true, false, cond, ltb, ◌&&◌, if◌then◌else◌, List, [], ◌∷◌, length, get_or, set, take, Option, Some, None, inl, inr, refl, sym, ◌∙◌, ap, subst, length-set, get_or-set_other, arith}
use Rattle.std.proofs.lemmas.Bool.{cases_Bool, cases_lt, and_parts, and_from, and_right, lt-ltb, le-ltb, both_ways, false_from_ne_true}
use Rattle.std.proofs.lemmas.List.{get_or_default, take_all}
use Rattle.std.proofs.lemmas.List.Sums.{count_by_more_yes, count_by_more_no, sum_by-set}
use Rattle.std.specs.List.{count_by}
use Rattle.vx_alloc.specs.declared.run_index.Run.{Run}
use Rattle.vx_alloc.specs.FreeMaps.{FreeMapView, IsFreeRun, count_below, free_blocks, cleared}
use Rattle.vx_alloc.specs.RunIndexes.{covers, open_units, limit_of, AreApart}
use Rattle.vx_alloc.proofs.Units.{free_at, placed_run}
use Rattle.vx_alloc.proofs.RunLists.{holder, covered, starts_rise}
use Rattle.vx_alloc.proofs.Joins.{same_tests}
use Rattle.vx_alloc.proofs.MapRuns.{IsMapOf, free_by_runs}

abbrev pub is_set : Bool → Bool
is_set bit = bit

-- ---- all blocks

-- without a bar a block is free where its bit is set
free_is_bit : (view : FreeMapView) (runs : List Run) → IsMapOf view runs → view.bar ≡ None → (i : ℕ) → i < 4096 * view.units → free_at view i ≡ get_or view.free i false
free_is_bit view runs is open_bar i within =
    let all : open_units view.units view.bar ≡ view.units = ap (open_units view.units) open_bar in
    let below : i < limit_of view = omega arith in
    same_tests _ _
    (λ free. sym (is.covered i) ∙ (and_parts _ _ (sym (free_by_runs view runs is i) ∙ free)).0)
    (λ bit. free_by_runs view runs is i ∙ and_from _ _ (is.covered i ∙ bit) (lt-ltb i (limit_of view) below))

count_front : (view : FreeMapView) (runs : List Run) → IsMapOf view runs → view.bar ≡ None → (n : ℕ) → n ≤ 4096 * view.units → count_below (free_at view) n ≡ count_by is_set (take n view.free)
count_front view runs is open_bar zero within = refl
count_front view runs is open_bar (suc n) within =
    let rest = count_front view runs is open_bar n (omega arith) in
    let same : free_at view n ≡ get_or view.free n false = free_is_bit view runs is open_bar n (omega arith) in
    let bits : length view.free ≡ 4096 * view.units = is.bits in
    let here : n < length view.free = omega arith in
    let next : suc n ≡ n + 1 = omega arith in
    elim (cases_Bool (get_or view.free n false)) [
      | inl bit ↦
          ap (λ (b : Bool). count_below (free_at view) n + (if b then 1 else 0)) (same ∙ bit) ∙ ap (λ (m : ℕ). m + 1) rest
          ∙ sym (ap (λ (m : ℕ). count_by is_set (take m view.free)) next ∙ count_by_more_yes is_set view.free n false here bit)
      | inr bit ↦
          let plus : count_by is_set (take n view.free) + 0 ≡ count_by is_set (take n view.free) = omega arith in
          ap (λ (b : Bool). count_below (free_at view) n + (if b then 1 else 0)) (same ∙ bit) ∙ ap (λ (m : ℕ). m + 0) rest ∙ plus
          ∙ sym (ap (λ (m : ℕ). count_by is_set (take m view.free)) next ∙ count_by_more_no is_set view.free n false here bit)
    ]

pub count_free : (view : FreeMapView) (runs : List Run) → IsMapOf view runs → view.bar ≡ None → count_by is_set view.free ≡ free_blocks view
count_free view runs is open_bar =
    let bits : length view.free ≡ 4096 * view.units = is.bits in
    sym (count_front view runs is open_bar (4096 * view.units) (omega arith) ∙ ap (count_by is_set) (take_all (4096 * view.units) view.free (omega arith)))

-- ---- bits that are cleared

pub length-cleared : (bits : List Bool) (from n : ℕ) → length (cleared bits from n) ≡ length bits
length-cleared bits from zero = refl
length-cleared bits from (suc n) = length-set (cleared bits from n) (from + n) false ∙ length-cleared bits from n

pub get_or-cleared_out : (bits : List Bool) (from n i : ℕ) → (from ≤ i → from + n ≤ i) → get_or (cleared bits from n) i false ≡ get_or bits i false
get_or-cleared_out bits from zero i out = refl
get_or-cleared_out bits from (suc n) i out =
    let other : i ≢ from + n = elim (cases_lt i from) [ inl below ↦ (λ e. absurd (omega arith)) | inr above ↦ (let past : from + suc n ≤ i = out above in λ e. absurd (omega arith)) ] in
    get_or-set_other (cleared bits from n) (from + n) i false false other
    ∙ get_or-cleared_out bits from n i (λ low. let past : from + suc n ≤ i = out low in omega arith)

pub get_or-cleared_in : (bits : List Bool) (from n i : ℕ) → from ≤ i → i < from + n → get_or (cleared bits from n) i false ≡ false
get_or-cleared_in bits from zero i low high = absurd (omega arith)
get_or-cleared_in bits from (suc n) i low high = elim (cases_lt i (from + n)) [
  | inl below ↦ let other : i ≢ from + n = omega arith in get_or-set_other (cleared bits from n) (from + n) i false false other ∙ get_or-cleared_in bits from n i low below
  | inr at ↦
      let same : from + n ≡ i = omega arith in
      subst (λ (m : ℕ). get_or (set (cleared bits from n) (from + n) false) m false ≡ false) same (set_false (cleared bits from n) (from + n))
]
  where
    set_false : (xs : List Bool) (k : ℕ) → get_or (set xs k false) k false ≡ false
    set_false [] k = refl
    set_false (x ∷ xs) zero = refl
    set_false (x ∷ xs) (suc k) = set_false xs k

pub count_cleared : (bits : List Bool) (from n : ℕ) → from + n ≤ length bits → ((i : ℕ) → from ≤ i → i < from + n → get_or bits i false ≡ true) → count_by is_set (cleared bits from n) + n ≡ count_by is_set bits
count_cleared bits from zero within all = omega arith
count_cleared bits from (suc n) within all =
    let before : count_by is_set (cleared bits from n) + n ≡ count_by is_set bits = count_cleared bits from n (omega arith) (λ i low high. all i low (omega arith)) in
    let long : length (cleared bits from n) ≡ length bits = length-cleared bits from n in
    let bit : get_or (cleared bits from n) (from + n) false ≡ true = get_or-cleared_out bits from n (from + n) (λ low. omega arith) ∙ all (from + n) (omega arith) (omega arith) in
    let one : ◌≡◌ {A = ℕ} (cond (get_or (cleared bits from n) (from + n) false) 1 0) 1 = ap (λ (b : Bool). cond {A = ℕ} b 1 0) bit in
    let step : count_by is_set (set (cleared bits from n) (from + n) false) + cond {A = ℕ} (get_or (cleared bits from n) (from + n) false) 1 0 ≡ count_by is_set (cleared bits from n) + 0
    = sum_by-set (λ (b : Bool). cond {A = ℕ} (is_set b) 1 0) (cleared bits from n) (from + n) false false (omega arith) in
    omega arith

-- the bits of a free run
pub run_bits : (view : FreeMapView) (b n : ℕ) → 0 < n → IsFreeRun view b n → (i : ℕ) → b - view.first ≤ i → i < (b - view.first) + n → get_or view.free i false ≡ true
run_bits view b n some free i low high =
    let begins : view.first ≤ b = (placed_run view b n some free).low in
    let at : (b + (i - (b - view.first))) - view.first ≡ i = omega arith in
    sym (ap (λ (m : ℕ). get_or view.free m false) at) ∙ (and_parts _ _ (and_parts _ _ (free (i - (b - view.first)) (omega arith))).1).1

pub run_fits : (view : FreeMapView) (b n : ℕ) → 0 < n → IsFreeRun view b n → (b - view.first) + n ≤ 4096 * view.units
run_fits view b n some free = (placed_run view b n some free).high

-- ---- the data blocks of units

-- ---- the blocks below a limit

count_none : (test : ℕ → Bool) (from n : ℕ) → ((i : ℕ) → from ≤ i → i < from + n → test i ≡ false) → count_below test (from + n) ≡ count_below test from
count_none test from zero none = let same : from + zero ≡ from = omega arith in ap (count_below test) same
count_none test from (suc n) none =
    let next : from + suc n ≡ suc (from + n) = omega arith in
    let rest = count_none test from n (λ i low high. none i low (omega arith)) in
    let plus : count_below test (from + n) + 0 ≡ count_below test (from + n) = omega arith in
    ap (count_below test) next ∙ ap (λ (b : Bool). count_below test (from + n) + (if b then 1 else 0)) (none (from + n) (omega arith) (omega arith)) ∙ plus ∙ rest

count_all : (test : ℕ → Bool) (from n : ℕ) → ((i : ℕ) → from ≤ i → i < from + n → test i ≡ true) → count_below test (from + n) ≡ count_below test from + n
count_all test from zero all = let same : from + zero ≡ from = omega arith in let plus : count_below test from ≡ count_below test from + zero = omega arith in ap (count_below test) same ∙ plus
count_all test from (suc n) all =
    let next : from + suc n ≡ suc (from + n) = omega arith in
    let rest : count_below test (from + n) ≡ count_below test from + n = count_all test from n (λ i low high. all i low (omega arith)) in
    let more : count_below test from + n + 1 ≡ count_below test from + suc n = omega arith in
    ap (count_below test) next ∙ ap (λ (b : Bool). count_below test (from + n) + (if b then 1 else 0)) (all (from + n) (omega arith) (omega arith)) ∙ ap (λ (m : ℕ). m + 1) rest ∙ more

count_none_to : (test : ℕ → Bool) (from to : ℕ) → from ≤ to → ((i : ℕ) → from ≤ i → i < to → test i ≡ false) → count_below test to ≡ count_below test from
count_none_to test from to order none = let at : from + (to - from) ≡ to = omega arith in sym (ap (count_below test) at) ∙ count_none test from (to - from) (λ i low high. none i low (omega arith))

count_at_most : (test : ℕ → Bool) (n : ℕ) → count_below test n ≤ n
count_at_most test zero = omega arith
count_at_most test (suc n) = let rest : count_below test n ≤ n = count_at_most test n in one_more (test n) (count_below test n) n rest
  where
    one_more : (b : Bool) (m n : ℕ) → m ≤ n → m + (if b then 1 else 0) ≤ suc n
    one_more true m n h = omega arith
    one_more false m n h = omega arith

count_agrees : (test other : ℕ → Bool) (n : ℕ) → ((i : ℕ) → i < n → test i ≡ other i) → count_below test n ≡ count_below other n
count_agrees test other zero same = refl
count_agrees test other (suc n) same =
    ap (λ (b : Bool). count_below test n + (if b then 1 else 0)) (same n (omega arith)) ∙ ap (λ (m : ℕ). m + (if other n then 1 else 0)) (count_agrees test other n (λ i h. same i (omega arith)))

-- the blocks of the first k runs, which end by `end`
pub record IsCountedTo (runs : List Run) (k count : ℕ) : Type 0 where
  pub end : ℕ
  pub counted : count ≡ count_below (covers runs) end
  pub before : (j : ℕ) (d : Run) → j < k → j < length runs → (get_or runs j d).start + (get_or runs j d).len ≤ end
  pub after : (d : Run) → k < length runs → end ≤ (get_or runs k d).start
  pub last : (end ≡ 0) ⊎ ((k - 1 < length runs) × (0 < k) × ((d : Run) → end ≡ (get_or runs (k - 1) d).start + (get_or runs (k - 1) d).len))

-- no run has a block between the first k and the next
gap_free : (runs : List Run) (k count to : ℕ) (known : IsCountedTo runs k count) → ((j : ℕ) (d : Run) → k ≤ j → j < length runs → to ≤ (get_or runs j d).start) → (i : ℕ) → known.end ≤ i → i < to → covers runs i ≡ false
gap_free runs k count to known later i low high = false_from_ne_true _ (λ is.
    let found = holder runs i is in
    let e : Run = record { start = 0; len = 0 } in
    let j : ℕ = found.at in
    let here : j < length runs = found.held.in_bounds in
    let begins : (get_or runs j e).start ≤ i = (found.held.between e).low in
    let ends : i < (get_or runs j e).start + (get_or runs j e).len = (found.held.between e).high in
    elim (cases_lt j k) [
      | inl earlier ↦ let past : (get_or runs j e).start + (get_or runs j e).len ≤ known.end = known.before j e earlier here in absurd (omega arith)
      | inr after ↦ let past : to ≤ (get_or runs j e).start = later j e after here in absurd (omega arith)
    ])

pub counted_more : (runs : List Run) (k count count' : ℕ) (e : Run) → AreApart runs → k < length runs → IsCountedTo runs k count → count' ≡ count + (get_or runs k e).len → IsCountedTo runs (k + 1) count'
counted_more runs k count count' e apart here known more =
    let start : ℕ = (get_or runs k e).start in
    let len : ℕ = (get_or runs k e).len in
    let gap : known.end ≤ start = known.after e here in
    let to_start : count_below (covers runs) start ≡ count_below (covers runs) known.end =
    count_none_to (covers runs) known.end start gap (gap_free runs k count start known (λ j d after within. same_start d j after within)) in
    let to_end : count_below (covers runs) (start + len) ≡ count_below (covers runs) start + len = count_all (covers runs) start len (λ i low high. covered runs i k e here low high) in
    let was : count ≡ count_below (covers runs) known.end = known.counted in
    record {
      end = start + len;
      counted = omega arith;
      before = λ j d below within. elim (cases_lt j k) [
        | inl earlier ↦ let past : (get_or runs j d).start + (get_or runs j d).len ≤ known.end = known.before j d earlier within in omega arith
        | inr last ↦
            let at : j ≡ k = omega arith in
            let is : get_or runs j d ≡ get_or runs k e = ap (λ (m : ℕ). get_or runs m d) at ∙ get_or_default runs k d e here in
            omega (arith, ap (λ (r : Run). r.start) is, ap (λ (r : Run). r.len) is)
      ];
      after = λ d within.
          let apart_next : (get_or runs k d).start + (get_or runs k d).len < (get_or runs (k + 1) d).start = apart k (k + 1) d (omega arith) within in
          let is : get_or runs k d ≡ get_or runs k e = get_or_default runs k d e here in
          omega (arith, ap (λ (r : Run). r.start) is, ap (λ (r : Run). r.len) is);
      last = inr (
        omega arith,
        omega arith,
        λ d.
            let at : (k + 1) - 1 ≡ k = omega arith in
            let is : get_or runs ((k + 1) - 1) d ≡ get_or runs k e = ap (λ (m : ℕ). get_or runs m d) at ∙ get_or_default runs k d e here in
            omega (arith, ap (λ (r : Run). r.start) is, ap (λ (r : Run). r.len) is),
      );
    }
  where
    same_start : (d : Run) (j : ℕ) → k ≤ j → j < length runs → (get_or runs k e).start ≤ (get_or runs j d).start
    same_start d j after within =
        let is : get_or runs k d ≡ get_or runs k e = get_or_default runs k d e here in
        let rise : (get_or runs k d).start ≤ (get_or runs j d).start = starts_rise runs apart k j d after within in
        omega (arith, ap (λ (r : Run). r.start) is)

-- the count is no more than where the runs end
pub count_fits : (runs : List Run) (k count : ℕ) (e : Run) → k < length runs → IsCountedTo runs k count → count ≤ (get_or runs k e).start
count_fits runs k count e here known =
    let was : count ≡ count_below (covers runs) known.end = known.counted in
    let most : count_below (covers runs) known.end ≤ known.end = count_at_most (covers runs) known.end in
    let gap : known.end ≤ (get_or runs k e).start = known.after e here in
    omega arith

-- where the others start at the limit or past it
pub counted_below : (runs : List Run) (k count limit : ℕ) → IsCountedTo runs k count → ((j : ℕ) (d : Run) → k ≤ j → j < length runs → limit ≤ (get_or runs j d).start) → ((j : ℕ) (d : Run) → j < k → j < length runs → (get_or runs j d).start < limit) → covers runs limit ≡ false → count ≡ count_below (covers runs) limit
counted_below runs k count limit known later earlier edge =
    let within : known.end ≤ limit = elim known.last [
      | inl none ↦ omega arith
      | inr last ↦
          let e : Run = record { start = 0; len = 0 } in
          let here : k - 1 < length runs = last.0 in
          let some : 0 < k = last.1 in
          let ends : known.end ≡ (get_or runs (k - 1) e).start + (get_or runs (k - 1) e).len = last.2 e in
          let low : (get_or runs (k - 1) e).start < limit = earlier (k - 1) e (omega arith) here in
          elim (cases_lt limit known.end) [
            | inl past ↦ absurd (both_ways _ edge (covered runs limit (k - 1) e here (omega arith) (omega arith)))
            | inr fits ↦ fits
          ]
    ] in
    known.counted ∙ sym (count_none_to (covers runs) known.end limit within (gap_free runs k count limit known later))

-- the free blocks of a map are those of the runs below its limit
pub count_limited : (view : FreeMapView) (runs : List Run) → IsMapOf view runs → count_below (covers runs) (limit_of view) ≡ free_blocks view
count_limited view runs is =
    let order : limit_of view ≤ 4096 * view.units = open_most view.units view.bar in
    count_agrees (covers runs) (free_at view) (limit_of view) (λ i h. sym (free_by_runs view runs is i ∙ and_true (covers runs i) (ltb i (limit_of view)) (lt-ltb i (limit_of view) h)))
    ∙ sym (count_none_to (free_at view) (limit_of view) (4096 * view.units) order (λ i low high. free_by_runs view runs is i ∙ and_right _ _ (le-ltb i (limit_of view) low)))
  where
    open_most : (units : ℕ) (bar : Option ℕ) → 4096 * open_units units bar ≤ 4096 * units
    open_most units None = omega arith
    open_most units (Some bar) = omega arith

    and_true : (a b : Bool) → b ≡ true → a && b ≡ a
    and_true true b is' = is'
    and_true false b is' = refl
