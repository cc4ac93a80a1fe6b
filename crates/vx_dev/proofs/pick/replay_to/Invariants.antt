use Rattle.std.proofs.Common.{take}
use Rattle.vx_dev.proofs.Picks.{ArePicked}
use Rattle.vx_dev.proofs.pick.replay_to.Given as goal

abbrev pub invariant-loop-op : goal.invariant-loop-op
invariant-loop-op l = ArePicked l.initial.image l.initial.numbers (take l.op-index l.ops) l.image l.numbers
