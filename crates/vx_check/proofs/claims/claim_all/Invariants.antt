use Rattle.vx_check.specs.Parts.{HasRoom}
use Rattle.vx_check.proofs.Claiming.{AreClaimed}
use Rattle.vx_check.proofs.claims.claim_all.Given as goal

abbrev pub invariant-loop-extent : goal.invariant-loop-extent
invariant-loop-extent l = record {
  room : HasRoom l.volume l.marks;
  claimed : AreClaimed l.volume l.fn.marks l.marks l.extents l.extent-index;
}
