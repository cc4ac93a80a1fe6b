use Rattle.std.proofs.Common.{take}
use Rattle.vx_dir.specs.Index.{HasLost}
use Rattle.vx_dir.proofs.name_index.remove_each.Given as goal

-- the entries so far have no spots
abbrev pub invariant-loop-entry : goal.invariant-loop-entry
invariant-loop-entry l = HasLost (take l.entry-index l.entries) l.fn.index l.index
