use Rattle.vx_space.specs.Space.{page_blocks}
use Rattle.vx_txn.proofs.Paged.{AreTouched}
use Rattle.vx_txn.proofs.edits.touch_pages.Given as goal

abbrev pub invariant-loop-i : goal.invariant-loop-i
invariant-loop-i l = AreTouched l.fn.first l.fn.from l.i (page_blocks l.directory.maps.space.present) l.initial.touched l.touched
