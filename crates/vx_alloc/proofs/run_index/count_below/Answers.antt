use Rattle.std.proofs.Common.{◌≡◌, ◌+◌, ◌*◌, ◌<◌, ◌≤◌, ℕ, List, length, get_or, inl, inr, ap, ◌∙◌, refl, arith}
use Rattle.std.proofs.lemmas.Bool.{cases_lt}
use Rattle.std.proofs.lemmas.List.{get_or_default}
use Rattle.vx_alloc.specs.declared.run_index.Run.{Run}
use Rattle.vx_alloc.specs.RunIndexes.{AreApart}
use Rattle.vx_alloc.proofs.Counts.{counted_more, count_fits, counted_below}
use Rattle.vx_alloc.proofs.RunLists.{starts_rise}
use Rattle.vx_alloc.proofs.run_index.count_below.Goals as goal

-- from the run at k on all start at the limit or past it
past_limit : (runs : List Run) (k limit : ℕ) (e : Run) → AreApart runs → limit ≤ (get_or runs k e).start → (j : ℕ) (d : Run) → k ≤ j → j < length runs → limit ≤ (get_or runs j d).start
past_limit runs k limit e apart high j d after within =
    let rise : (get_or runs k d).start ≤ (get_or runs j d).start = starts_rise runs apart k j d after within in
    let is : get_or runs k d ≡ get_or runs k e = get_or_default runs k d e (omega arith) in
    omega (arith, ap (λ (r : Run). r.start) is)

pub returns-then-run-limit : goal.returns-then-run-limit
returns-then-run-limit c =
    counted_below c.args.runs.now c.loop-k.k c.loop-k.count c.args.limit c.loop-k.invariant.counted (past_limit c.args.runs.now c.loop-k.k c.args.limit (record { start = 0; len = 0 }) c.requires.apart c.if-run-limit.true) c.loop-k.invariant.earlier c.requires.edge

pub overflow_add-count : goal.overflow_add-count
overflow_add-count c =
    let runs = c.args.runs.now in
    let e : Run = record { start = 0; len = 0 } in
    let here : c.loop-k.k < length runs = omega arith in
    let most : c.loop-k.count ≤ (get_or runs c.loop-k.k e).start = count_fits runs c.loop-k.k c.loop-k.count e here c.loop-k.invariant.counted in
    let inside = c.requires.inside c.loop-k.k e here in
    let end : (get_or runs c.loop-k.k e).start + (get_or runs c.loop-k.k e).len ≤ 4096 * 64 = inside.end in
    omega arith

pub loop-k-preserved : goal.loop-k-preserved
loop-k-preserved c =
    let runs = c.args.runs.now in
    let e : Run = record { start = 0; len = 0 } in
    let here : c.loop-k.k < length runs = omega arith in
    record {
      counted = counted_more runs c.loop-k.k c.loop-k.count _ e c.requires.apart here c.loop-k.invariant.counted refl;
      earlier = λ j d below within. elim (cases_lt j c.loop-k.k) [
        | inl before ↦ c.loop-k.invariant.earlier j d before within
        | inr last ↦
            let at : j ≡ c.loop-k.k = omega arith in
            let is : get_or runs j d ≡ get_or runs c.loop-k.k e = ap (λ (m : ℕ). get_or runs m d) at ∙ get_or_default runs c.loop-k.k d e here in
            omega (arith, ap (λ (r : Run). r.start) is, c.if-run-limit.false)
      ];
    }

pub returns : goal.returns
returns c = counted_below c.args.runs.now c.loop-k.k c.loop-k.count c.args.limit c.loop-k.invariant.counted (λ j d after within. absurd (omega arith)) c.loop-k.invariant.earlier c.requires.edge
