use Rattle.std.proofs.Common.{◌≡◌, ◌++◌, length, take}
use Rattle.std.specs.Int.{w16, to_le_bytes}
use Rattle.vx_layout.specs.Dirs.{entries_bytes}
use Rattle.vx_codec.proofs.directory.write_dir.Given as goal

abbrev pub invariant-loop-entry : goal.invariant-loop-entry
invariant-loop-entry g l = l.sheet ≡ to_le_bytes w16 (length l.entries) ++ to_le_bytes w16 (length (entries_bytes l.entries)) ++ entries_bytes (take l.entry-index l.entries)
