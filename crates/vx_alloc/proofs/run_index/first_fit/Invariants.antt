use Rattle.vx_alloc.proofs.Fits.{NoneFitBefore}
use Rattle.vx_alloc.proofs.run_index.first_fit.Given as goal

abbrev pub invariant-loop-k : goal.invariant-loop-k
invariant-loop-k l = NoneFitBefore l.runs l.limit l.n l.align l.k
