-- Lists of runs in the order of their starts.
use Rattle.std.proofs.Common.{◌≡◌, ℕ, zero, suc, ◌+◌, ◌-◌, ◌*◌, ◌<◌, ◌≤◌, true, false, ltb, ◌||◌, List, ◌∷◌, length, get_or, inl, inr, sym, ◌∙◌, ap, ap₂, subst, arith}
use Rattle.std.proofs.lemmas.Bool.{cases_Bool, le-ltb, cases_lt, cases_order, both_ways, and_parts, and_from, leb-true, ltb-true, le-leb, lt-ltb, false_from_ne_true}
use Rattle.std.proofs.lemmas.List.{get_or_default}
use Rattle.std.proofs.lemmas.List.Edits.{length-insert, length-remove, get_or-insert_below, get_or-insert_at, get_or-insert_above, get_or-remove_below, get_or-remove_above}
use Rattle.std.proofs.lemmas.List.Folds.{Any-from_list_any, list_any_at}
use Rattle.std.proofs.lemmas.List.Elements.{All-cons}
use Rattle.std.proofs.lemmas.List.Sorted.{All-permutation, IsPermutation-insert, IsNonDecreasingBy-insert, list_any-IsPermutation}
use Rattle.std.specs.List.{insert, remove, Contains}
use Rattle.std.specs.List.Sorted.{IsNonDecreasingBy, IsPermutation}
use Rattle.vx_alloc.specs.declared.run_index.Run.{Run}
use Rattle.vx_alloc.specs.RunIndexes.{is_within, in_run, covers, rank, AreApart, IsInside, AreInside, IsClear, IsPlace, IsEndPlace, AreLow}

pub within_from : (start n i : ℕ) → start ≤ i → i < start + n → is_within start n i ≡ true
within_from start n i low high = and_from _ _ (le-leb start i low) (lt-ltb i (start + n) high)

pub record IsBetween (start n i : ℕ) : Type 0 where
  pub low : start ≤ i
  pub high : i < start + n

pub within_parts : (start n i : ℕ) → is_within start n i ≡ true → IsBetween start n i
within_parts start n i is =
    let parts = and_parts _ _ is in
    record { low = leb-true start i parts.0; high = ltb-true i (start + n) parts.1 }

pub outside : (start n i : ℕ) → (start ≤ i → start + n ≤ i) → is_within start n i ≡ false
outside start n i out = false_from_ne_true _ (λ is. let parts = within_parts start n i is in let past : start + n ≤ i = out parts.low in let high : i < start + n = parts.high in absurd (omega arith))

-- the run that has a block
pub record IsHeldBy (runs : List Run) (i : ℕ) (k : ℕ) : Type 0 where
  pub in_bounds : k < length runs
  pub between : (d : Run) → IsBetween (get_or runs k d).start (get_or runs k d).len i

pub record Holder (runs : List Run) (i : ℕ) : Type 0 where
  pub at : ℕ
  pub held : IsHeldBy runs i at

pub holder : (runs : List Run) (i : ℕ) → covers runs i ≡ true → Holder runs i
holder runs i is =
    let any = Any-from_list_any (in_run i) runs is in
    record { at = any.0; held = record { in_bounds = any.2; between = λ d. subst (λ (r : Run). IsBetween r.start r.len i) (sym (get_or_default runs any.0 d any.1 any.2 ∙ any.3)) (within_parts _ _ i any.4) } }

pub covered : (runs : List Run) (i k : ℕ) (d : Run) → k < length runs → (get_or runs k d).start ≤ i → i < (get_or runs k d).start + (get_or runs k d).len → covers runs i ≡ true
covered runs i k d inside low high = list_any_at (in_run i) runs k d inside (within_from _ _ i low high)

-- ---- a further run

pub clear_before : (room : ℕ) (runs : List Run) (run : Run) (k : ℕ) (d : Run) → AreInside room runs → IsClear run runs → k < length runs → (get_or runs k d).start < run.start → (get_or runs k d).start + (get_or runs k d).len < run.start
clear_before room runs run k d inside clear here low = elim (cases_lt ((get_or runs k d).start + (get_or runs k d).len) run.start) [
  | inl apart ↦ apart
  | inr meets ↦
      let some : 0 < (get_or runs k d).len = (inside k d here).some in
      absurd (both_ways _ (clear (run.start - 1) (omega arith) (omega arith)) (covered runs (run.start - 1) k d here (omega arith) (omega arith)))
]

pub clear_after : (room : ℕ) (runs : List Run) (run : Run) (k : ℕ) (d : Run) → AreInside room runs → IsClear run runs → k < length runs → run.start ≤ (get_or runs k d).start → run.start + run.len < (get_or runs k d).start
clear_after room runs run k d inside clear here high = elim (cases_lt (run.start + run.len) (get_or runs k d).start) [
  | inl apart ↦ apart
  | inr meets ↦
      let some : 0 < (get_or runs k d).len = (inside k d here).some in
      absurd (both_ways _ (clear (get_or runs k d).start (omega arith) (omega arith)) (covered runs (get_or runs k d).start k d here (omega arith) (omega arith)))
]

abbrev IsBefore : Run → Run → Type 0
IsBefore e f = e.start + e.len < f.start

pub insert_apart : (room : ℕ) (runs : List Run) (run : Run) (p : ℕ) → AreApart runs → AreInside room runs → IsClear run runs → IsPlace runs run.start p → AreApart (insert runs p run)
insert_apart room runs run p apart inside clear place j k d before within =
    let bound : p ≤ length runs = place.bound in
    let longer : length (insert runs p run) ≡ length runs + 1 = length-insert runs p run bound in
    let new : List Run = insert runs p run in
    elim (cases_order k p) [
      | inl same ↦
          subst (λ (n : ℕ). IsBefore (get_or new j d) (get_or new n d)) (sym same)
          (rw (get_or-insert_at runs p run d bound, get_or-insert_below runs p run d j (omega arith) bound)
          (clear_before room runs run j d inside clear (omega arith) (place.before j d (omega arith))))
      | inr apart_places ↦ elim apart_places [
        | inl below ↦ rw (get_or-insert_below runs p run d j (omega arith) bound, get_or-insert_below runs p run d k below bound) (apart j k d before (omega arith))
        | inr above ↦
            let k_is : (k - 1) + 1 ≡ k = omega arith in
            let kth : get_or new k d ≡ get_or runs (k - 1) d = sym (ap (λ (n : ℕ). get_or new n d) k_is) ∙ get_or-insert_above runs p run d (k - 1) (omega arith) bound in
            rw kth (elim (cases_order j p) [
              | inl same ↦
                  subst (λ (n : ℕ). IsBefore (get_or new n d) (get_or runs (k - 1) d)) (sym same)
                  (rw (get_or-insert_at runs p run d bound) (clear_after room runs run (k - 1) d inside clear (omega arith) (place.after (k - 1) d (omega arith) (omega arith))))
              | inr others ↦ elim others [
                | inl low ↦ rw (get_or-insert_below runs p run d j low bound) (apart j (k - 1) d (omega arith) (omega arith))
                | inr high ↦
                    let j_is : (j - 1) + 1 ≡ j = omega arith in
                    let jth : get_or new j d ≡ get_or runs (j - 1) d = sym (ap (λ (n : ℕ). get_or new n d) j_is) ∙ get_or-insert_above runs p run d (j - 1) (omega arith) bound in
                    rw jth (apart (j - 1) (k - 1) d (omega arith) (omega arith))
              ]
            ])
      ]
    ]

-- ---- one run less

-- an order of the elements by their places stays one where an element is taken out
keeps_order : (R : Run → Run → Type 0) (runs : List Run) (i : ℕ) → i < length runs → ((j k : ℕ) (d : Run) → j < k → k < length runs → R (get_or runs j d) (get_or runs k d)) → (j k : ℕ) (d : Run) → j < k → k < length (remove runs i) → R (get_or (remove runs i) j d) (get_or (remove runs i) k d)
keeps_order R runs i here order j k d before within =
    let shorter : length (remove runs i) + 1 ≡ length runs = length-remove runs i here in
    elim (cases_lt k i) [
      | inl below ↦ rw (get_or-remove_below runs i d j (omega arith) here, get_or-remove_below runs i d k below here) (order j k d before (omega arith))
      | inr above ↦ rw (get_or-remove_above runs i d k above here) (elim (cases_lt j i) [
        | inl low ↦ rw (get_or-remove_below runs i d j low here) (order j (k + 1) d (omega arith) (omega arith))
        | inr high ↦ rw (get_or-remove_above runs i d j high here) (order (j + 1) (k + 1) d (omega arith) (omega arith))
      ])
    ]

pub remove_apart : (runs : List Run) (i : ℕ) → i < length runs → AreApart runs → AreApart (remove runs i)
remove_apart runs i here apart = keeps_order IsBefore runs i here apart

pub remove_ranked : (runs : List Run) (i : ℕ) → i < length runs → IsNonDecreasingBy rank runs → IsNonDecreasingBy rank (remove runs i)
remove_ranked runs i here ranked j k d order within = elim (cases_lt j k) [
  | inl before ↦ keeps_order (λ e f. rank e ≤ rank f) runs i here (λ a b e less in_list. ranked a b e (omega arith) in_list) j k d before within
  | inr same ↦ let is : j ≡ k = omega arith in subst (λ (n : ℕ). rank (get_or (remove runs i) j d) ≤ rank (get_or (remove runs i) n d)) is (omega arith)
]

-- ---- how many there can be

start_low : (room : ℕ) (runs : List Run) → AreApart runs → AreInside room runs → (k : ℕ) (d : Run) → k < length runs → 2 * k ≤ (get_or runs k d).start
start_low room runs apart inside zero d here = omega arith
start_low room runs apart inside (suc k) d here =
    let earlier : 2 * k ≤ (get_or runs k d).start = start_low room runs apart inside k d (omega arith) in
    let gap : (get_or runs k d).start + (get_or runs k d).len < (get_or runs (suc k) d).start = apart k (suc k) d (omega arith) here in
    let some : 0 < (get_or runs k d).len = (inside k d (omega arith)).some in
    omega arith

pub few : (room : ℕ) (runs : List Run) (d : Run) → AreApart runs → AreInside room runs → 2 * length runs ≤ room + 1
few room runs d apart inside = elim (cases_lt 0 (length runs)) [
  | inr none ↦ omega arith
  | inl some ↦
      let here : length runs - 1 < length runs = omega arith in
      let low : 2 * (length runs - 1) ≤ (get_or runs (length runs - 1) d).start = start_low room runs apart inside (length runs - 1) d here in
      let last = inside (length runs - 1) d here in
      let more : 0 < (get_or runs (length runs - 1) d).len = last.some in
      let ends : (get_or runs (length runs - 1) d).start + (get_or runs (length runs - 1) d).len ≤ room = last.end in
      omega arith
]

-- ---- the run that has a block

-- the last run that starts at or before a block is the one that has it, if one has
pub holder_place : (runs : List Run) (i p : ℕ) (d : Run) → AreApart runs → IsEndPlace runs i p → covers runs i ≡ true → (0 < p) × IsBetween (get_or runs (p - 1) d).start (get_or runs (p - 1) d).len i
holder_place runs i p d apart place is =
    let bound : p ≤ length runs = place.bound in
    let found = holder runs i is in
    let here : found.at < length runs = found.held.in_bounds in
    let low : (get_or runs found.at d).start ≤ i = (found.held.between d).low in
    let high : i < (get_or runs found.at d).start + (get_or runs found.at d).len = (found.held.between d).high in
    elim (cases_lt found.at p) [
      | inr above ↦ let past : i < (get_or runs found.at d).start = place.after found.at d above here in absurd (omega arith)
      | inl below ↦ elim (cases_lt found.at (p - 1)) [
        | inl early ↦
            let gap : (get_or runs found.at d).start + (get_or runs found.at d).len < (get_or runs (p - 1) d).start = apart found.at (p - 1) d early (omega arith) in
            let starts : (get_or runs (p - 1) d).start ≤ i = place.before (p - 1) d (omega arith) in
            absurd (omega arith)
        | inr last ↦
            let same : found.at ≡ p - 1 = omega arith in
            (omega arith, subst (λ (n : ℕ). IsBetween (get_or runs n d).start (get_or runs n d).len i) same (found.held.between d))
      ]
    ]

pub starts_rise : (runs : List Run) → AreApart runs → IsNonDecreasingBy (λ (run : Run). run.start) runs
starts_rise runs apart j k d order within = elim (cases_lt j k) [
  | inl before ↦ let gap : (get_or runs j d).start + (get_or runs j d).len < (get_or runs k d).start = apart j k d before within in omega arith
  | inr same ↦ let is : j ≡ k = omega arith in subst (λ (n : ℕ). (get_or runs j d).start ≤ (get_or runs n d).start) is (omega arith)
]

-- room for one more
pub room_left : (runs : List Run) (run : Run) (p room : ℕ) → AreApart runs → AreInside (2 * room) runs → 0 < run.len → run.start + run.len ≤ 2 * room → IsClear run runs → IsPlace runs run.start p → length runs < room
room_left runs run p room apart inside some end clear place =
    let longer : length (insert runs p run) ≡ length runs + 1 = length-insert runs p run place.bound in
    let all : AreInside (2 * room) (insert runs p run) = All-permutation (IsInside (2 * room)) _ _ (IsPermutation-insert runs p run) (All-cons (IsInside (2 * room)) run runs (record { some = some; end = end }) inside) in
    let most : 2 * length (insert runs p run) ≤ 2 * room + 1 = few (2 * room) (insert runs p run) run (insert_apart (2 * room) runs run p apart inside clear place) all in
    omega arith

-- the rank determines the run
same_rank : (e f : Run) → e.start < 4294967296 → f.start < 4294967296 → rank e ≡ rank f → e ≡ f
same_rank e f low_e low_f same =
    let lengths : e.len ≡ f.len = omega arith in
    let starts : e.start ≡ f.start = omega arith in
    ap₂ (λ (s n : ℕ). record { start = s; len = n }) starts lengths

-- a run stands where its rank begins
pub ranked_at : (runs : List Run) (run : Run) (p : ℕ) → IsNonDecreasingBy rank runs → AreLow runs → Contains runs run → ((k : ℕ) (d : Run) → k < p → rank (get_or runs k d) < rank run) → ((k : ℕ) (d : Run) → p ≤ k → k < length runs → rank run ≤ rank (get_or runs k d))
    → (p < length runs) × (run ≡ get_or runs p run)
ranked_at runs run p ranked low has before after = elim (cases_lt has.0 p) [
  | inl early ↦
      let less : rank (get_or runs has.0 run) < rank run = before has.0 run early in
      let same : rank (get_or runs has.0 run) ≡ rank run = ap rank has.2 in
      absurd (omega arith)
  | inr late ↦
      let here : p < length runs = let within : has.0 < length runs = has.1 in omega arith in
      let up : rank run ≤ rank (get_or runs p run) = after p run (omega arith) here in
      let down : rank (get_or runs p run) ≤ rank (get_or runs has.0 run) = ranked p has.0 run late has.1 in
      let same : rank (get_or runs has.0 run) ≡ rank run = ap rank has.2 in
      (here, sym (same_rank (get_or runs p run) run (low p run here) (subst (λ (r : Run). r.start < 4294967296) has.2 (low has.0 run has.1)) (omega arith)))
]

-- a run put in where the ranks of others, read as a slice, begin to be as high
pub insert_ranked : (runs slice : List Run) (run : Run) (p of : ℕ) → slice ≡ runs → of ≡ rank run → IsNonDecreasingBy rank runs → p ≤ length slice → ((k : ℕ) (d : Run) → k < p → rank (get_or slice k d) < of) → ((k : ℕ) (d : Run) → p ≤ k → k < length slice → of ≤ rank (get_or slice k d))
    → IsNonDecreasingBy rank (insert runs p run)
insert_ranked runs slice run p of same is ranked bound before after =
    let lengths : length slice ≡ length runs = ap length same in
    IsNonDecreasingBy-insert rank runs p run ranked (omega arith)
    (λ k d low. let less : rank (get_or slice k d) < of = before k d low in omega (arith, ap (λ (rs : List Run). rank (get_or rs k d)) same))
    (λ k d from within. let more : of ≤ rank (get_or slice k d) = after k d from (omega arith) in omega (arith, ap (λ (rs : List Run). rank (get_or rs k d)) same))

-- the same for the place of a run that is there
pub ranked_in_slice : (runs slice : List Run) (run : Run) (p of : ℕ) → slice ≡ runs → of ≡ rank run → IsNonDecreasingBy rank runs → AreLow runs → Contains runs run → ((k : ℕ) (d : Run) → k < p → rank (get_or slice k d) < of) → ((k : ℕ) (d : Run) → p ≤ k → k < length slice → of ≤ rank (get_or slice k d))
    → (p < length runs) × (run ≡ get_or runs p run)
ranked_in_slice runs slice run p of same is ranked low has before after =
    let lengths : length slice ≡ length runs = ap length same in
    ranked_at runs run p ranked low has
    (λ k d below. let less : rank (get_or slice k d) < of = before k d below in omega (arith, ap (λ (rs : List Run). rank (get_or rs k d)) same))
    (λ k d from within. let more : of ≤ rank (get_or slice k d) = after k d from (omega arith) in omega (arith, ap (λ (rs : List Run). rank (get_or rs k d)) same))

-- ---- what is left without a run

-- neither the blocks of a run nor those beside it are in the others
pub rest_clear : (runs : List Run) (at : ℕ) (run : Run) → AreApart runs → at < length runs → run ≡ get_or runs at run → IsClear run (remove runs at)
rest_clear runs at run apart here is i low high = false_from_ne_true _ (λ yes.
    let rest : List Run = remove runs at in
    let shorter : length rest + 1 ≡ length runs = length-remove runs at here in
    let found = holder rest i yes in
    let within : found.at < length rest = found.held.in_bounds in
    let begins : (get_or rest found.at run).start ≤ i = (found.held.between run).low in
    let ends : i < (get_or rest found.at run).start + (get_or rest found.at run).len = (found.held.between run).high in
    let start_is : run.start ≡ (get_or runs at run).start = ap (λ (r : Run). r.start) is in
    let len_is : run.len ≡ (get_or runs at run).len = ap (λ (r : Run). r.len) is in
    elim (cases_lt found.at at) [
      | inl below ↦
          let same : get_or rest found.at run ≡ get_or runs found.at run = get_or-remove_below runs at run found.at below here in
          let gap : (get_or runs found.at run).start + (get_or runs found.at run).len < (get_or runs at run).start = apart found.at at run below here in
          absurd (omega (arith, ap (λ (r : Run). r.start) same, ap (λ (r : Run). r.len) same))
      | inr above ↦
          let same : get_or rest found.at run ≡ get_or runs (found.at + 1) run = get_or-remove_above runs at run found.at above here in
          let gap : (get_or runs at run).start + (get_or runs at run).len < (get_or runs (found.at + 1) run).start = apart at (found.at + 1) run (omega arith) (omega arith) in
          absurd (omega (arith, ap (λ (r : Run). r.start) same, ap (λ (r : Run). r.len) same))
    ])

-- what the others and the run have is what all had
pub rest_covers : (runs rest : List Run) (run : Run) → IsPermutation runs (run ∷ rest) → (i : ℕ) → covers runs i ≡ in_run i run || covers rest i
rest_covers runs rest run moved i = list_any-IsPermutation (in_run i) runs (run ∷ rest) moved

pub more_covers : (runs all : List Run) (run : Run) → IsPermutation (run ∷ runs) all → (i : ℕ) → covers all i ≡ in_run i run || covers runs i
more_covers runs all run moved i = sym (list_any-IsPermutation (in_run i) (run ∷ runs) all moved)

-- ---- whether a block is in one of the runs, by the last run that starts at or before it

pub none_starts : (runs : List Run) (i p : ℕ) → AreApart runs → IsEndPlace runs i p → p ≡ 0 → covers runs i ≡ false
none_starts runs i p apart place none = false_from_ne_true _ (λ is. let at = holder_place runs i p (record { start = 0; len = 0 }) apart place is in absurd (omega (arith, at.0)))

pub covered_by_last : (runs : List Run) (i p : ℕ) (d : Run) → AreApart runs → IsEndPlace runs i p → 0 < p → ltb (i - (get_or runs (p - 1) d).start) (get_or runs (p - 1) d).len ≡ covers runs i
covered_by_last runs i p d apart place some =
    let bound : p ≤ length runs = place.bound in
    let begins : (get_or runs (p - 1) d).start ≤ i = place.before (p - 1) d (omega arith) in
    elim (cases_Bool (covers runs i)) [
      | inl is ↦
          let at = holder_place runs i p d apart place is in
          let high : i < (get_or runs (p - 1) d).start + (get_or runs (p - 1) d).len = at.1.high in
          lt-ltb _ _ (omega arith) ∙ sym is
      | inr not_is ↦
          elim (cases_lt (i - (get_or runs (p - 1) d).start) (get_or runs (p - 1) d).len) [
            | inl within ↦ absurd (both_ways _ not_is (covered runs i (p - 1) d (omega arith) begins (omega arith)))
            | inr past ↦ le-ltb _ _ past ∙ sym not_is
          ]
    ]
