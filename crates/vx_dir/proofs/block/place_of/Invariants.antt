use Rattle.std.proofs.Common.{◌≡◌, ℕ, ◌<◌, false, get_or}
use Rattle.vx_base.specs.declared.inode.DirEntry.{DirEntry}
use Rattle.vx_dir.specs.Directories.{is_named}
use Rattle.vx_dir.proofs.block.place_of.Given as goal

-- no entry so far has the name
abbrev pub invariant-loop-i : goal.invariant-loop-i
invariant-loop-i l = (d : DirEntry) (k : ℕ) → k < l.i → is_named l.name (get_or l.entries k d) ≡ false
