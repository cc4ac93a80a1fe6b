use Rattle.std.proofs.Common.{◌≡◌, take}
use Rattle.std.specs.List.{flat_map}
use Rattle.vx_sound.specs.Said.{extent_blocks}
use Rattle.vx_check.proofs.inode.blocks_of.Given as goal

abbrev pub invariant-loop-extent : goal.invariant-loop-extent
invariant-loop-extent l = l.blocks.items ≡ flat_map extent_blocks (take l.extent-index l.extents)
