use Rattle.std.proofs.Common.{◌≡◌}
use Rattle.vx_front.proofs.tests.read_often.Given as goal

abbrev pub invariant-loop : goal.invariant-loop
invariant-loop l = l.caller.table ≡ l.fronts
