use Rattle.std.proofs.Common.{◌∙◌, arith}
use Rattle.vx_dev.proofs.Picks.{next_op, picked_barrier, picked_kept, picked_none, picked_put, within_at}
use Rattle.vx_dev.proofs.pick.replay_to.Goals as goal
use Rattle.vx_dev.proofs.pick.replay_to.Goals.{in-Put+then-numbers-at-gt0, in-Put+else-numbers-at-gt0, in-Barrier}

pub loop-op-init : goal.loop-op-init
loop-op-init c = picked_none _ _

pub offset_bounds-numbers-at : goal.offset_bounds-numbers-at
offset_bounds-numbers-at c = omega (arith, within_at _ _ _ _ _ _ c.requires.within c.loop-op-test.true c.in-Put.is, c.requires.length)

pub bounds-numbers-at : goal.bounds-numbers-at
bounds-numbers-at c = omega (arith, within_at _ _ _ _ _ _ c.requires.within c.loop-op-test.true c.in-Put.is, c.requires.length)

pub loop-op-preserved : goal.loop-op-preserved
loop-op-preserved c = elim c.match-op.branch [
  | in-Put+then-numbers-at-gt0 w ↦ picked_put _ _ _ _ c.loop-op.numbers _ _ _ w.in-Put.s w.in-Put.bytes (within_at _ _ _ _ _ _ c.requires.within c.loop-op-test.true w.in-Put.is) (omega (arith, c.requires.length)) w.if-numbers-at-gt0.true (w.image-is ∙ w.set.ensures) w.numbers-is (next_op _ _ _ _ c.loop-op-test.true w.in-Put.is) c.loop-op.invariant
  | in-Put+else-numbers-at-gt0 w ↦ picked_kept _ _ _ _ c.loop-op.numbers _ _ _ w.in-Put.s w.in-Put.bytes w.if-numbers-at-gt0.false w.image-is w.numbers-is (next_op _ _ _ _ c.loop-op-test.true w.in-Put.is) c.loop-op.invariant
  | in-Barrier w ↦ picked_barrier _ _ _ _ _ _ _ _ w.image-is w.numbers-is (next_op _ _ _ _ c.loop-op-test.true w.in-Barrier.is) c.loop-op.invariant
]
