use Rattle.std.proofs.Common.{◌≡◌, take}
use Rattle.std.specs.List.{AllByRecursion}
use Rattle.vx_layout.specs.Places.{Volume}
use Rattle.vx_sound.specs.Facts.{IsExtentRight}
use Rattle.vx_check.proofs.extents.are_right.Given as goal

abbrev pub invariant-loop-extent : goal.invariant-loop-extent
invariant-loop-extent l = (v : Volume) → v.block ≡ 1024 → AllByRecursion (IsExtentRight v l.value) (take l.extent-index l.extents)
