use Rattle.std.proofs.Common.{◌≡◌, take}
use Rattle.vx_dir.proofs.dir_blocks.copy_of.Given as goal

-- the entries so far are copied
abbrev pub invariant-loop-entry : goal.invariant-loop-entry
invariant-loop-entry l = l.block ≡ take l.entry-index l.entries
