use Rattle.std.proofs.Common.{arith}
use Rattle.std.specs.Vec.{vec_capacity}
use Rattle.vx_alloc.proofs.SameRuns.{reserved_index}
use Rattle.vx_alloc.proofs.run_index.RunIndex.reserve.Goals as goal

pub invariant_of-self-in_err-reserve-2 : goal.invariant_of-self-in_err-reserve-2
invariant_of-self-in_err-reserve-2 c =
    let fields = c.self.inside in
    reserved_index fields.room fields.room fields.by_start.items fields.by_length.items _ _ (vec_capacity fields.by_start) (vec_capacity fields.by_length) _ _ c.self.invariant c.reserve.ensures.items c.reserve-2.ensures.items (omega arith) c.self.invariant.most (omega (arith, c.reserve.ensures.capacity)) (omega (arith, c.reserve-2.ensures.capacity))

pub invariant_of-self-2 : goal.invariant_of-self-2
invariant_of-self-2 c =
    let fields = c.self.inside in
    reserved_index fields.room c.args.blocks fields.by_start.items fields.by_length.items _ _ (vec_capacity fields.by_start) (vec_capacity fields.by_length) _ _ c.self.invariant c.reserve.ensures.items c.reserve-2.ensures.items (omega arith) c.requires (omega (arith, c.in_ok-reserve.ensures.ok)) (omega (arith, c.in_ok-reserve-2.ensures.ok))
