use Rattle.vx_txn.proofs.Paged.{AreTouched}
use Rattle.vx_txn.proofs.edits.touch_blocks.Given as goal

abbrev pub invariant-loop-i : goal.invariant-loop-i
invariant-loop-i l = AreTouched l.fn.first l.fn.from l.i l.blocks l.initial.touched l.touched
