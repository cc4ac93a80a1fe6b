use Rattle.vx_dir.proofs.Gaining.{lost_more}
use Rattle.vx_dir.proofs.name_index.remove_each.Goals as goal

pub loop-entry-preserved : goal.loop-entry-preserved
loop-entry-preserved c =
    lost_more c.args.entries.now c.loop-entry.entry-index c.entry-item.result c.loop-entry-test.true c.entry-item.is c.args.index.now c.loop-entry.index c.remove.new.self c.loop-entry.invariant
    c.remove.ensures.removed
