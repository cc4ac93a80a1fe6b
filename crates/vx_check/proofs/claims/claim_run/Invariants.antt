use Rattle.std.proofs.Common.{◌+◌, ◌<◌, ◌≤◌, length}
use Rattle.vx_check.specs.Parts.{HasRoom}
use Rattle.vx_check.proofs.Claiming.{IsClaimed}
use Rattle.vx_check.proofs.claims.claim_run.Given as goal

abbrev pub invariant-loop-i : goal.invariant-loop-i
invariant-loop-i l = record {
  room : HasRoom l.volume l.marks;
  within : 0 < l.i → l.start + l.i ≤ length l.marks;
  claimed : IsClaimed l.volume l.fn.marks l.marks l.start l.i;
}
