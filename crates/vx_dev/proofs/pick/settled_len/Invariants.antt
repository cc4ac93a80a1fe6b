use Rattle.std.proofs.Common.{take}
use Rattle.vx_dev.proofs.Picks.{IsSplit}
use Rattle.vx_dev.proofs.pick.settled_len.Given as goal

abbrev pub invariant-loop-i : goal.invariant-loop-i
invariant-loop-i l = IsSplit l.settled (take l.i l.ops)
