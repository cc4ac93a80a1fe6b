use Rattle.vx_check.specs.Reaching.{Marks}
use Rattle.vx_check.proofs.reaching.mark_all.Given as goal

abbrev pub invariant-loop-n : goal.invariant-loop-n
invariant-loop-n l = Marks l.fn.marks.items l.fn.found.items l.targets l.n-index l.marks.items l.found.items
