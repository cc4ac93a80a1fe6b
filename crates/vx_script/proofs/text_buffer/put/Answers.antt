use Rattle.std.proofs.Common.{[]}
use Rattle.vx_script.proofs.Pieces.{puts_then, puts_part, puts_at_err}
use Rattle.vx_script.proofs.text_buffer.put.Goals as goal

pub returns-in_err-flush : goal.returns-in_err-flush
returns-in_err-flush g c = puts_at_err _ _ _ c.from_residual.ensures.1 (puts_part _ c.in_err-flush.ensures.puts)

pub returns-else-piece-room-2 : goal.returns-else-piece-room-2
returns-else-piece-room-2 g c =
    rw c.in_ok-flush.ensures.empty (puts_then _ _ [] _ _ (rw c.in_ok-flush.ensures.empty at c.in_ok-flush.ensures.puts) c.write_all.ensures)
