use Rattle.vx_script.proofs.Pieces.{puts_then, puts_part, puts_all_part, puts_at_err}
use Rattle.vx_script.proofs.output.put_line.Goals as goal

pub returns-in_err-put_number : goal.returns-in_err-put_number
returns-in_err-put_number g c = puts_at_err _ _ _ c.from_residual.ensures.1 (puts_part _ c.in_err-put_number.ensures)

pub returns-in_err-put_spaced : goal.returns-in_err-put_spaced
returns-in_err-put_spaced g c = puts_at_err _ _ _ c.from_residual-in_err-put_spaced.ensures.1 (puts_all_part c.in_ok-put_number.ensures (puts_part _ c.in_err-put_spaced.ensures))

pub returns-in_err-put_reply : goal.returns-in_err-put_reply
returns-in_err-put_reply g c = puts_at_err _ _ _ c.from_residual-in_err-put_reply.ensures.1 (puts_all_part c.in_ok-put_number.ensures (puts_all_part c.in_ok-put_spaced.ensures (puts_part _ c.in_err-put_reply.ensures)))

pub returns : goal.returns
returns g c = puts_then _ _ _ _ _ c.in_ok-put_number.ensures (puts_then _ _ _ _ _ c.in_ok-put_spaced.ensures (puts_then _ _ _ _ _ c.in_ok-put_reply.ensures c.put.ensures))
