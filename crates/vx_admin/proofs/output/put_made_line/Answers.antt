use Rattle.vx_script.proofs.Pieces.{puts_then, puts_part, puts_all_part, puts_at_err}
use Rattle.vx_admin.proofs.output.put_made_line.Goals as goal

pub returns-in_err-put : goal.returns-in_err-put
returns-in_err-put g c = puts_at_err _ _ _ c.from_residual.ensures.1 (puts_part _ c.in_err-put.ensures)

pub returns-in_err-put_words : goal.returns-in_err-put_words
returns-in_err-put_words g c = puts_at_err _ _ _ c.from_residual-in_err-put_words.ensures.1 (puts_all_part c.in_ok-put.ensures (puts_part _ c.in_err-put_words.ensures))

pub returns : goal.returns
returns g c = puts_then _ _ _ _ _ c.in_ok-put.ensures (puts_then _ _ _ _ _ c.in_ok-put_words.ensures c.put-2.ensures)
