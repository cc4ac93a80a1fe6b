use Rattle.std.proofs.Common.{◌≡◌, ◌*◌, take, length}
use Rattle.std.specs.List.{flat_map}
use Rattle.vx_layout.specs.Inodes.{place_bytes}
use Rattle.vx_codec.proofs.inode.extents_text.Given as goal

abbrev pub invariant-loop-place : goal.invariant-loop-place
invariant-loop-place l = record { len : length l.sheet ≡ 16 * l.place-index; text : l.sheet ≡ flat_map place_bytes (take l.place-index l.first) }
