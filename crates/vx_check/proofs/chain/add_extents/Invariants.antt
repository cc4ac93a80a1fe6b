use Rattle.std.proofs.Common.{◌≡◌, ◌++◌, take}
use Rattle.vx_check.proofs.chain.add_extents.Given as goal

abbrev pub invariant-loop-extent : goal.invariant-loop-extent
invariant-loop-extent l = l.extents.items ≡ l.fn.extents.items ++ take l.extent-index l.more
