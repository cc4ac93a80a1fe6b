use Rattle.vx_check.proofs.Counting.{IsBumped}
use Rattle.vx_check.proofs.counts.bump.Given as goal

abbrev pub invariant-loop-n : goal.invariant-loop-n
invariant-loop-n l = IsBumped l.fn.counts.items l.counts.items l.targets l.n-index
