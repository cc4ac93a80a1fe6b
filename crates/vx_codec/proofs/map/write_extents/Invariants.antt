use Rattle.std.proofs.Common.{◌≡◌, ◌+◌, ◌*◌, ◌++◌, take, length}
use Rattle.std.specs.List.{flat_map}
use Rattle.vx_layout.specs.Inodes.{extent_bytes}
use Rattle.vx_layout.specs.Maps.{map_head}
use Rattle.vx_codec.proofs.map.write_extents.Given as goal

abbrev pub invariant-loop-extent : goal.invariant-loop-extent
invariant-loop-extent g l = record {
  len : length l.sheet ≡ 16 + 16 * l.extent-index;
  text : l.sheet ≡ map_head (record { next = l.fn.next; ino = l.fn.ino; extents = l.extents }) ++ flat_map extent_bytes (take l.extent-index l.extents);
}
