use Rattle.std.proofs.Common.{arith}
use Rattle.std.proofs.lemmas.List.{length-take-le}
use Rattle.vx_dev.proofs.Picks.{next_op, split_barrier, split_none, split_put}
use Rattle.vx_dev.proofs.pick.settled_len.Goals as goal
use Rattle.vx_dev.proofs.pick.settled_len.Goals.{in-Put, in-Barrier}

pub loop-i-init : goal.loop-i-init
loop-i-init c = split_none

pub loop-i-preserved : goal.loop-i-preserved
loop-i-preserved c = elim c.match-op.branch [
  | in-Put w ↦ rw (w.settled-is, next_op _ _ _ _ c.loop-i-test.true w.in-Put.is) (split_put _ _ _ _ c.loop-i.invariant)
  | in-Barrier w ↦ rw (w.settled-is, next_op _ _ _ _ c.loop-i-test.true w.in-Barrier.is) (split_barrier _ _ (omega (arith, length-take-le c.loop-i.i c.args.ops.now c.loop-i.auto.i-end)))
]
