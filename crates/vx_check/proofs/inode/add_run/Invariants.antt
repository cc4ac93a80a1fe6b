use Rattle.std.proofs.Common.{◌≡◌, ◌++◌}
use Rattle.vx_sound.specs.FirstFault.{numbers}
use Rattle.vx_check.proofs.inode.add_run.Given as goal

abbrev pub invariant-loop-i : goal.invariant-loop-i
invariant-loop-i l = l.blocks.items ≡ l.fn.blocks.items ++ numbers l.extent.start l.i
