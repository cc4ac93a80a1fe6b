use Rattle.std.proofs.Common.{◌≤◌}
use Rattle.vx_check.proofs.Ordering.{IsOrdered}
use Rattle.vx_check.proofs.extents.are_in_order.Given as goal

abbrev pub invariant-loop-t : goal.invariant-loop-t
invariant-loop-t l = record { some : 1 ≤ l.t; ordered : IsOrdered l.extents l.t }
