use Rattle.std.proofs.Common.{take}
use Rattle.std.specs.List.{AllByRecursion}
use Rattle.vx_check.specs.Directories.{IsMarked}
use Rattle.vx_check.proofs.directory.are_used.Given as goal

abbrev pub invariant-loop-entry : goal.invariant-loop-entry
invariant-loop-entry l = AllByRecursion (IsMarked l.used) (take l.entry-index l.entries)
