use Rattle.std.proofs.Common.{◌≡◌, length, take}
use Rattle.vx_layout.specs.Dirs.{entries_bytes}
use Rattle.vx_codec.proofs.directory.used_by.Given as goal

abbrev pub invariant-loop-entry : goal.invariant-loop-entry
invariant-loop-entry l = l.used ≡ length (entries_bytes (take l.entry-index l.entries))
