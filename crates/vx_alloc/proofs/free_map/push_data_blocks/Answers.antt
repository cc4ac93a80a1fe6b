use Rattle.std.proofs.Common.{◌<◌, vec_len, arith}
use Rattle.std.specs.Vec.{vec_capacity}
use Rattle.std.proofs.lemmas.Grind.{common_steps}
use Rattle.vx_alloc.proofs.Bits.{pushed}
use Rattle.vx_alloc.proofs.free_map.push_data_blocks.Goals as goal

pub loop-i-preserved : goal.loop-i-preserved
loop-i-preserved c =
    let fits : vec_len c.loop-i.bits < vec_capacity c.loop-i.bits = omega arith in
    record {
      items = pushed c.args.per_unit c.loop-i.i c.args.bits.now.items c.loop-i.bits.items c.push.new.self.items _ _ c.loop-i.invariant.items (c.push.ensures.succeeds fits) c.is_data_place.ensures c.push.ensures.items;
      len = grind (arith, common_steps, c.push.ensures.succeeds fits);
      capacity = grind (arith, common_steps);
    }
