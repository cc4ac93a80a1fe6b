use Rattle.std.proofs.Common.{◌≡◌, ◌++◌, take}
use Rattle.std.specs.List.{flat_map}
use Rattle.vx_sound.specs.Said.{in_place}
use Rattle.vx_check.proofs.inode.add_first.Given as goal

abbrev pub invariant-loop-place : goal.invariant-loop-place
invariant-loop-place l = l.extents.items ≡ l.fn.extents.items ++ flat_map in_place (take l.place-index l.places)
