use Rattle.std.proofs.Common.{take}
use Rattle.vx_dir.specs.Index.{HasGained}
use Rattle.vx_dir.proofs.name_index.insert_each.Given as goal

-- the entries so far have their spots
abbrev pub invariant-loop-entry : goal.invariant-loop-entry
invariant-loop-entry l = HasGained l.block (take l.entry-index l.entries) l.fn.index l.index
