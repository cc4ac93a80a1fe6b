use Rattle.std.proofs.Common.{◌≡◌, take}
use Rattle.vx_dir.proofs.dir_blocks.list_of.Given as goal

-- the names so far
abbrev pub invariant-loop-name : goal.invariant-loop-name
invariant-loop-name l = l.list ≡ take l.name-index l.names
