use Rattle.std.proofs.Common.{◌≡◌, ℕ, ◌<◌, false, get_or, []}
use Rattle.vx_dir.specs.Directories.{has_room}
use Rattle.vx_dir.proofs.dir_blocks.place_for.Given as goal

-- no block so far has room
abbrev pub invariant-loop-i : goal.invariant-loop-i
invariant-loop-i l = (k : ℕ) → k < l.i → has_room l.room l.size (get_or l.blocks k []) ≡ false
