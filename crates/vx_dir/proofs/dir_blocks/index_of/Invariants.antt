use Rattle.std.proofs.Common.{take}
use Rattle.vx_dir.specs.Index.{Indexes}
use Rattle.vx_dir.proofs.dir_blocks.index_of.Given as goal

-- the names of the blocks so far are in the index
abbrev pub invariant-loop-i : goal.invariant-loop-i
invariant-loop-i l = Indexes (take l.i l.blocks) l.index
