use Rattle.std.proofs.Common.{◌≡◌, drop}
use Rattle.vx_filemaps.specs.Settles.{pended, CanWait}
use Rattle.vx_space.specs.Space.{page_blocks}
use Rattle.vx_txn.proofs.edits.pend_pages.Given as goal

-- the blocks so far wait, and the others are left
abbrev pub invariant-loop-i : goal.invariant-loop-i
invariant-loop-i l = record {
  left : pended l.place (page_blocks l.directory.maps.space.present) l.initial.free ≡ pended l.place (drop l.i (page_blocks l.directory.maps.space.present)) l.free;
  used : CanWait l.place (drop l.i (page_blocks l.directory.maps.space.present)) l.free;
}
