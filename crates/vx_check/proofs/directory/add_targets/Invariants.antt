use Rattle.std.proofs.Common.{◌≡◌, ◌++◌, take}
use Rattle.vx_check.specs.Directories.{targets_of}
use Rattle.vx_check.proofs.directory.add_targets.Given as goal

abbrev pub invariant-loop-entry : goal.invariant-loop-entry
invariant-loop-entry l = l.targets.items ≡ l.fn.targets.items ++ targets_of (take l.entry-index l.entries)
