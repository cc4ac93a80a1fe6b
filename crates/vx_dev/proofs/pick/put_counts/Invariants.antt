use Rattle.std.proofs.Common.{take}
use Rattle.vx_dev.proofs.Picks.{AreCounts}
use Rattle.vx_dev.proofs.pick.put_counts.Given as goal

abbrev pub invariant-loop-op : goal.invariant-loop-op
invariant-loop-op l = AreCounts l.sectors (take l.op-index l.ops) l.counts.items
