-- Where blocks fit into runs, and which run is the longest.
use Rattle.std.proofs.Common.{◌≡◌, ◌≢◌, ℕ, ◌+◌, ◌-◌, ◌%◌, ◌<◌, ◌≤◌, true, false, eqb, ltb, ◌&&◌, List, length, get_or, take, inl, inr, sym, ◌∙◌, ap, subst, arith}
use Rattle.std.proofs.lemmas.Bool.{cases_lt, cases_order, both_ways, and_parts, and_from, eqb-true, eq-eqb, ne_eqb, cond-false, lt-ltb, ltb-true}
use Rattle.std.proofs.lemmas.List.{get_or_default, get_or-take, length-take-le}
use Rattle.std.proofs.lemmas.List.Elements.{Contains-get_or}
use Rattle.std.specs.List.Sorted.{IsNonDecreasingBy}
use Rattle.vx_alloc.specs.declared.run_index.Run.{Run}
use Rattle.vx_alloc.specs.FreeMaps.{is_multiple}
use Rattle.vx_alloc.specs.RunIndexes.{covers, rank, AreApart, IsPlace, AreSame, IsInUnit, IsAligned, IsLowestIn, HasNoneIn, IsFirstFit, IsLongestRun, HasNoneBelow, IsLastBelow}
use Rattle.vx_alloc.proofs.RunLists.{holder, covered}
use Rattle.vx_alloc.proofs.SameRuns.{same_has, back_has}
use Rattle.vx_alloc.proofs.Joins.{same_tests}

-- ---- in one run

multiple_from : (m align : ℕ) → align ≢ 0 → m % align ≡ 0 → is_multiple m align ≡ true
multiple_from m align some rest = cond-false (eqb align 0) (eqb m 0) (eqb (m % align) 0) (ne_eqb align 0 some) ∙ eq-eqb (m % align) 0 rest

multiple_rest : (m align : ℕ) → align ≢ 0 → is_multiple m align ≡ true → m % align ≡ 0
multiple_rest m align some is = eqb-true (m % align) 0 (sym (cond-false (eqb align 0) (eqb m 0) (eqb (m % align) 0) (ne_eqb align 0 some)) ∙ is)

-- the place of a block of a run in its unit
place_on : (run : Run) (d : ℕ) → IsInUnit run → d < run.len → (run.start + d) % 4096 ≡ (run.start % 4096) + d
place_on run d unit within = let end : (run.start % 4096) + run.len ≤ 4096 = unit.end in omega arith

-- what is aligned in the run stands no earlier than after the skip
not_skipped : (run : Run) (align skip c : ℕ) → IsInUnit run → align ≢ 0 → ((d : ℕ) → d < skip → ((run.start % 4096) + d) % align ≢ 0) → run.start ≤ c → c < run.start + run.len → IsAligned align c → run.start + skip ≤ c
not_skipped run align skip c unit some next low high aligned = elim (cases_lt (c - run.start) skip) [
  | inl early ↦
      let same : run.start + (c - run.start) ≡ c = omega arith in
      let place : c % 4096 ≡ (run.start % 4096) + (c - run.start) = sym (ap (λ (n : ℕ). n % 4096) same) ∙ place_on run (c - run.start) unit (omega arith) in
      absurd (next (c - run.start) early (sym (ap (λ (n : ℕ). n % align) place) ∙ multiple_rest (c % 4096) align some aligned))
  | inr late ↦ omega arith
]

pub fit_found : (run : Run) (n align skip : ℕ) → IsInUnit run → align ≢ 0 → 0 < n → ((run.start % 4096) + skip) % align ≡ 0 → ((d : ℕ) → d < skip → ((run.start % 4096) + d) % align ≢ 0) → skip < run.len → n ≤ run.len - skip → IsLowestIn run n align (run.start + skip)
fit_found run n align skip unit some blocks multiple next within fits = record {
  low = omega arith;
  end = omega arith;
  aligned = multiple_from ((run.start + skip) % 4096) align some (ap (λ (m : ℕ). m % align) (place_on run skip unit within) ∙ multiple);
  lowest = λ c low below aligned. let late : run.start + skip ≤ c = not_skipped run align skip c unit some next low (omega arith) aligned in absurd (omega arith);
}

pub fit_none : (run : Run) (n align skip : ℕ) → IsInUnit run → align ≢ 0 → 0 < n → ((d : ℕ) → d < skip → ((run.start % 4096) + d) % align ≢ 0) → (skip < run.len → n ≤ run.len - skip → ⊥) → HasNoneIn run n align
fit_none run n align skip unit some blocks next short c low end aligned =
    let late : run.start + skip ≤ c = not_skipped run align skip c unit some next low (omega arith) aligned in
    short (omega arith) (omega arith)

-- ---- in the runs

-- no run before a place has room
abbrev pub NoneFitBefore : List Run → ℕ → ℕ → ℕ → ℕ → Type 0
NoneFitBefore runs limit n align i = (k : ℕ) (d : Run) → k < i → (get_or runs k d).start < limit → HasNoneIn (get_or runs k d) n align

pub none_fit_more : (runs : List Run) (limit n align i : ℕ) (e : Run) → i < length runs → NoneFitBefore runs limit n align i → ((get_or runs i e).start < limit → HasNoneIn (get_or runs i e) n align) → NoneFitBefore runs limit n align (i + 1)
none_fit_more runs limit n align i e within before here k d below = elim (cases_lt k i) [
  | inl earlier ↦ before k d earlier
  | inr last ↦
      let at : i ≡ k = omega arith in
      let same : get_or runs i e ≡ get_or runs k d = ap (λ (m : ℕ). get_or runs m e) at ∙ get_or_default runs k e d (omega arith) in
      subst (λ (r : Run). r.start < limit → HasNoneIn r n align) same here
]

pub first_found : (runs : List Run) (limit n align i start : ℕ) (e : Run) → AreApart runs → 0 < n → i < length runs → NoneFitBefore runs limit n align i → (get_or runs i e).start < limit → IsLowestIn (get_or runs i e) n align start → IsFirstFit runs limit n align start
first_found runs limit n align i start e apart some within before below found = record {
  fit = record { run = get_or runs i e; has = Contains-get_or runs i e within; low = found.low; end = found.end; below = below };
  aligned = found.aligned;
  lowest = λ b lower aligned fit.
      let k : ℕ = fit.has.0 in
      let in_list : k < length runs = fit.has.1 in
      let is : get_or runs k fit.run ≡ fit.run = fit.has.2 in
      let start_is : (get_or runs k fit.run).start ≡ fit.run.start = ap (λ (r : Run). r.start) is in
      let low : fit.run.start ≤ b = fit.low in
      elim (cases_order k i) [
        | inl same ↦
            let here : get_or runs i e ≡ fit.run = ap (λ (m : ℕ). get_or runs m e) (sym same) ∙ get_or_default runs k e fit.run in_list ∙ is in
            let here_start : (get_or runs i e).start ≡ fit.run.start = ap (λ (r : Run). r.start) here in
            found.lowest b (omega arith) lower aligned
        | inr others ↦ elim others [
          | inl earlier ↦ subst (λ (r : Run). r.start < limit → HasNoneIn r n align) is (before k fit.run earlier) fit.below b fit.low fit.end aligned
          | inr later ↦
              let gap : (get_or runs i fit.run).start + (get_or runs i fit.run).len < (get_or runs k fit.run).start = apart i k fit.run later in_list in
              let same : get_or runs i e ≡ get_or runs i fit.run = get_or_default runs i e fit.run within in
              let end : start + n ≤ (get_or runs i e).start + (get_or runs i e).len = found.end in
              absurd (omega (arith, ap (λ (r : Run). r.start) same, ap (λ (r : Run). r.len) same))
        ]
      ];
}

-- ---- the longest

pub longest_from_last : (runs others : List Run) (limit : ℕ) (run : Run) → AreSame runs others → IsNonDecreasingBy rank others → IsLastBelow others limit run → IsLongestRun runs limit run
longest_from_last runs others limit run same ranked last = record {
  has = back_has runs others run same (last.at, last.bound, sym last.is);
  below = last.below;
  most = λ k d here low.
      let x : Run = get_or runs k d in
      let has = same_has runs others x same (Contains-get_or runs k d here) in
      elim (cases_lt last.at has.0) [
        | inl past ↦
            let high : limit ≤ (get_or others has.0 x).start = last.later has.0 x past has.1 in
            let is : (get_or others has.0 x).start ≡ x.start = ap (λ (r : Run). r.start) has.2 in
            absurd (omega arith)
        | inr upto ↦
            let below : rank (get_or others has.0 x) ≤ rank (get_or others last.at x) = ranked has.0 last.at x upto last.bound in
            let is : rank (get_or others has.0 x) ≡ rank x = ap rank has.2 in
            let top : rank (get_or others last.at x) ≡ rank run = ap rank (get_or_default others last.at x run last.bound ∙ sym last.is) in
            omega arith
      ];
}

pub none_below_from : (runs others : List Run) (limit : ℕ) → AreSame runs others → HasNoneBelow others limit → HasNoneBelow runs limit
none_below_from runs others limit same none k d here =
    let x : Run = get_or runs k d in
    let has = same_has runs others x same (Contains-get_or runs k d here) in
    let high : limit ≤ (get_or others has.0 x).start = none has.0 x has.1 in
    let is : (get_or others has.0 x).start ≡ x.start = ap (λ (r : Run). r.start) has.2 in
    omega arith

-- ---- the first runs alone

pub kept_covers : (runs : List Run) (keep end : ℕ) → IsPlace runs end keep → covers runs end ≡ false → (i : ℕ) → covers (take keep runs) i ≡ ltb i end && covers runs i
kept_covers runs keep end place edge i =
    let bound : keep ≤ length runs = place.bound in
    let shorter : length (take keep runs) ≡ keep = length-take-le keep runs bound in
    let e : Run = record { start = 0; len = 0 } in
    same_tests _ _
    (λ is.
    let found = holder (take keep runs) i is in
    let k : ℕ = found.at in
    let here : k < length (take keep runs) = found.held.in_bounds in
    let same : get_or (take keep runs) k e ≡ get_or runs k e = get_or-take keep runs k e (omega arith) in
    let low : (get_or (take keep runs) k e).start ≤ i = (found.held.between e).low in
    let high : i < (get_or (take keep runs) k e).start + (get_or (take keep runs) k e).len = (found.held.between e).high in
    let starts : (get_or (take keep runs) k e).start ≡ (get_or runs k e).start = ap (λ (r : Run). r.start) same in
    let lengths : (get_or (take keep runs) k e).len ≡ (get_or runs k e).len = ap (λ (r : Run). r.len) same in
    let before : (get_or runs k e).start < end = place.before k e (omega arith) in
    elim (cases_lt i end) [
      | inl below ↦ and_from _ _ (lt-ltb i end below) (covered runs i k e (omega arith) (omega arith) (omega arith))
      | inr past ↦ absurd (both_ways _ edge (covered runs end k e (omega arith) (omega arith) (omega arith)))
    ])
    (λ is.
    let parts = and_parts _ _ is in
    let below : i < end = ltb-true i end parts.0 in
    let found = holder runs i parts.1 in
    let k : ℕ = found.at in
    let low : (get_or runs k e).start ≤ i = (found.held.between e).low in
    let high : i < (get_or runs k e).start + (get_or runs k e).len = (found.held.between e).high in
    let in_list : k < length runs = found.held.in_bounds in
    elim (cases_lt k keep) [
      | inl kept ↦
          let same : get_or (take keep runs) k e ≡ get_or runs k e = get_or-take keep runs k e kept in
          let starts : (get_or (take keep runs) k e).start ≡ (get_or runs k e).start = ap (λ (r : Run). r.start) same in
          let lengths : (get_or (take keep runs) k e).len ≡ (get_or runs k e).len = ap (λ (r : Run). r.len) same in
          covered (take keep runs) i k e (omega arith) (omega arith) (omega arith)
      | inr dropped ↦ let after : end ≤ (get_or runs k e).start = place.after k e dropped in_list in absurd (omega arith)
    ])
