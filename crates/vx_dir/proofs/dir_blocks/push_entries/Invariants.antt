use Rattle.std.proofs.Common.{◌≡◌, ◌++◌, take}
use Rattle.vx_dir.proofs.dir_blocks.push_entries.Given as goal

-- the entries so far are copied
abbrev pub invariant-loop-entry : goal.invariant-loop-entry
invariant-loop-entry l = l.entries.items ≡ l.fn.entries.items ++ take l.entry-index l.more
