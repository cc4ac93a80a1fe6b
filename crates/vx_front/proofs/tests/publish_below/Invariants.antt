use Rattle.std.proofs.Common.{◌≡◌}
use Rattle.vx_front.proofs.tests.publish_below.Given as goal

abbrev pub invariant-loop-front : goal.invariant-loop-front
invariant-loop-front l = l.kernel.table ≡ l.fronts
