use Rattle.vx_script.proofs.Pieces.{puts_write}
use Rattle.vx_script.proofs.text_buffer.write_all.Goals as goal

pub loop-rest-preserved : goal.loop-rest-preserved
loop-rest-preserved g c = puts_write _ _ c.in_ok-count.count c.loop-rest.invariant c.in_ok-count.ensures.bytes c.in_ok-count.ensures.cause.fine
