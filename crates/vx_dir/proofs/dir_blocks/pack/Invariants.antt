use Rattle.std.proofs.Common.{◌≡◌, take}
use Rattle.vx_dir.specs.Directories.{packed}
use Rattle.vx_dir.proofs.Packing.{Fits}
use Rattle.vx_dir.proofs.dir_blocks.pack.Given as goal

-- the entries so far are packed
abbrev pub invariant-loop-entry : goal.invariant-loop-entry
invariant-loop-entry l = record { packed_so_far : l.blocks.items ≡ packed l.room (take l.entry-index l.entries); fits : Fits l.room l.blocks.items }
