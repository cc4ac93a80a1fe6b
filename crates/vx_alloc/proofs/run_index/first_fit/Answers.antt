use Rattle.std.proofs.Common.{arith}
use Rattle.vx_alloc.proofs.Fits.{none_fit_more, first_found}
use Rattle.vx_alloc.proofs.run_index.first_fit.Goals.{then-run-limit+in-None, else-run-limit}
use Rattle.vx_alloc.proofs.run_index.first_fit.Goals as goal

pub returns-in-Some-clause-found : goal.returns-in-Some-clause-found
returns-in-Some-clause-found c = first_found c.args.runs.now c.args.limit c.args.n c.args.align c.loop-k.k c.in-Some.start _ c.requires.apart c.requires.some (omega arith) c.loop-k.invariant c.if-run-limit.true c.in-Some.ensures.found

pub loop-k-preserved : goal.loop-k-preserved
loop-k-preserved c =
    none_fit_more c.args.runs.now c.args.limit c.args.n c.args.align c.loop-k.k (record { start = 0; len = 0 }) (omega arith) c.loop-k.invariant
    (λ below. elim c.if-run-limit.branch [
      | then-run-limit+in-None w ↦ w.in-None.ensures.none
      | else-run-limit w ↦ absurd (omega (arith, below, w.if-run-limit.false))
    ])
