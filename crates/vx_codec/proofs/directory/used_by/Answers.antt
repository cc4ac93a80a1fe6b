use Rattle.std.proofs.Common.{◌≡◌, length, arith, add-one, ap}
use Rattle.vx_codec.proofs.Entries.{used_next, used_within}
use Rattle.vx_codec.proofs.directory.used_by.Goals as goal

pub overflow_add-used-in-loop-entry : goal.overflow_add-used-in-loop-entry
overflow_add-used-in-loop-entry c =
    let name : length c.as_slice.result.now ≡ length c.entry-item.result.name = ap length c.as_slice.ensures in
    omega (arith, used_within c.args.entries.now c.loop-entry.entry-index c.entry-item.result c.loop-entry-test.true c.entry-item.is, c.requires, c.loop-entry.invariant, name)

pub loop-entry-preserved : goal.loop-entry-preserved
loop-entry-preserved c =
    let name : length c.as_slice.result.now ≡ length c.entry-item.result.name = ap length c.as_slice.ensures in
    rw add-one (omega (arith, used_next c.args.entries.now c.loop-entry.entry-index c.entry-item.result c.loop-entry-test.true c.entry-item.is, c.loop-entry.invariant, name))
