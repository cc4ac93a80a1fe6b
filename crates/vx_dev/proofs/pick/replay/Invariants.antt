use Rattle.std.proofs.Common.{take}
use Rattle.vx_dev.proofs.Picks.{IsLatest}
use Rattle.vx_dev.proofs.pick.replay.Given as goal

abbrev pub invariant-loop-op : goal.invariant-loop-op
invariant-loop-op l = IsLatest l.initial.image (take l.op-index l.ops) l.image
