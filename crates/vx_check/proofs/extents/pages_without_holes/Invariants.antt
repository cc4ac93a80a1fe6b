use Rattle.vx_check.proofs.Ordering.{IsSolid}
use Rattle.vx_check.proofs.extents.pages_without_holes.Given as goal

abbrev pub invariant-loop-e : goal.invariant-loop-e
invariant-loop-e l = IsSolid l.extents l.e-index l.at
