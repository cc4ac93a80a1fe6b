use Rattle.std.proofs.Common.{◌≡◌, drop}
use Rattle.vx_space.specs.Space.{page_blocks}
use Rattle.vx_txn.specs.Loads.{CanTake, without_blocks}
use Rattle.vx_txn.proofs.load.take_pages.Given as goal

-- the blocks so far are taken, and the others are left
abbrev pub invariant-loop-i : goal.invariant-loop-i
invariant-loop-i l = record {
  left : without_blocks (page_blocks l.directory.maps.space.present) l.initial.free ≡ without_blocks (drop l.i (page_blocks l.directory.maps.space.present)) l.free;
  free : CanTake (drop l.i (page_blocks l.directory.maps.space.present)) l.free;
}
