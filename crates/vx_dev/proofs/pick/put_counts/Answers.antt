use Rattle.std.proofs.Common.{◌<◌, ap, arith, length, take}
use Rattle.std.proofs.lemmas.List.{length-take-le}
use Rattle.std.proofs.lemmas.Grind.{get_or_default_zero}
use Rattle.vx_dev.proofs.Picks.{counts_barrier, counts_none, counts_put, length-put_values, next_op, within_at}
use Rattle.vx_dev.proofs.pick.put_counts.Goals as goal
use Rattle.vx_dev.proofs.pick.put_counts.Goals.{in-Put, in-Barrier}

pub loop-op-init : goal.loop-op-init
loop-op-init c = counts_none _ _ (c.in_ok-counts.ensures.items_if_clones_equal (λ y is. is))

pub index_mut-requires : goal.index_mut-requires
index_mut-requires c = omega (arith, within_at _ _ _ _ _ _ c.requires c.loop-op-test.true c.in-Put.is, c.loop-op.invariant.same_length)

pub overflow_add-index_mut : goal.overflow_add-index_mut
overflow_add-index_mut c =
    let ops = take c.loop-op.op-index c.args.ops.now in
    let in_it : c.in-Put.s < length c.loop-op.counts.items = omega (arith, within_at _ _ _ _ _ _ c.requires c.loop-op-test.true c.in-Put.is, c.loop-op.invariant.same_length) in
    omega (arith, c.index_mut.ensures.value, get_or_default_zero c.loop-op.counts.items c.in-Put.s c.index_mut.result.now in_it, c.loop-op.invariant.count c.in-Put.s, length-put_values c.in-Put.s ops, length-take-le c.loop-op.op-index c.args.ops.now c.loop-op.auto.op-index-end)

pub loop-op-preserved : goal.loop-op-preserved
loop-op-preserved c = elim c.match-op.branch [
  | in-Put w ↦ counts_put _ c.loop-op.counts.items _ _ _ w.in-Put.s w.index_mut.result.now w.in-Put.field-1 (within_at _ _ _ _ _ _ c.requires c.loop-op-test.true w.in-Put.is) w.index_mut.ensures.value (ap (λ v. v.items) w.counts-is)
      (next_op _ _ _ _ c.loop-op-test.true w.in-Put.is) c.loop-op.invariant
  | in-Barrier w ↦ counts_barrier _ _ _ _ _ (ap (λ v. v.items) w.counts-is) (next_op _ _ _ _ c.loop-op-test.true w.in-Barrier.is) c.loop-op.invariant
]
