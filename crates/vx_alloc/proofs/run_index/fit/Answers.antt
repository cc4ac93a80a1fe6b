use Rattle.std.proofs.Common.{arith}
use Rattle.vx_alloc.proofs.Fits.{fit_found, fit_none}
use Rattle.vx_alloc.proofs.run_index.fit.Goals.{else-skip-run-via-then-skip-run+else-n-run, else-skip-run-via-else-skip-run}
use Rattle.vx_alloc.proofs.run_index.fit.Goals as goal

pub returns-then-n-run-clause-found : goal.returns-then-n-run-clause-found
returns-then-n-run-clause-found c = fit_found c.args.run.now c.args.n c.args.align c.skip-skip.result c.requires.unit c.if-align-eq0.false c.requires.some c.skip-skip.ensures.multiple c.skip-skip.ensures.next c.if-skip-run.true c.if-n-run.true

pub returns-else-skip-run-clause-none : goal.returns-else-skip-run-clause-none
returns-else-skip-run-clause-none c =
    fit_none c.args.run.now c.args.n c.args.align c.skip-skip.result c.requires.unit c.if-align-eq0.false c.requires.some c.skip-skip.ensures.next
    (λ within fits. elim c.else-skip-run.branch [
      | else-skip-run-via-then-skip-run+else-n-run w ↦ absurd (omega arith)
      | else-skip-run-via-else-skip-run w ↦ absurd (omega arith)
    ])
