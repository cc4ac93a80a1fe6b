use Rattle.std.proofs.Common.{◌∙◌, arith}
use Rattle.vx_dev.proofs.Picks.{latest_barrier, latest_none, latest_put, next_op, within_at}
use Rattle.vx_dev.proofs.pick.replay.Goals as goal
use Rattle.vx_dev.proofs.pick.replay.Goals.{in-Put, in-Barrier}

pub loop-op-init : goal.loop-op-init
loop-op-init c = latest_none _

pub set-requires : goal.set-requires
set-requires c = omega (arith, within_at _ _ _ _ _ _ c.requires c.loop-op-test.true c.in-Put.is, c.loop-op.invariant.same_length)

pub loop-op-preserved : goal.loop-op-preserved
loop-op-preserved c = elim c.match-op.branch [
  | in-Put w ↦ latest_put _ _ _ _ _ w.in-Put.s w.in-Put.bytes (within_at _ _ _ _ _ _ c.requires c.loop-op-test.true w.in-Put.is) (w.image-is ∙ w.set.ensures) (next_op _ _ _ _ c.loop-op-test.true w.in-Put.is) c.loop-op.invariant
  | in-Barrier w ↦ latest_barrier _ _ _ _ _ w.image-is (next_op _ _ _ _ c.loop-op-test.true w.in-Barrier.is) c.loop-op.invariant
]
