use Rattle.vx_script.proofs.Pieces.{puts_then, puts_part, puts_all_part, puts_at_err}
use Rattle.vx_admin.proofs.output.put_refused_line.Goals as goal

pub returns-in_err-put : goal.returns-in_err-put
returns-in_err-put g c = puts_at_err _ _ _ c.from_residual.ensures.1 (puts_part _ c.in_err-put.ensures)

pub returns-in_err-put_spaced : goal.returns-in_err-put_spaced
returns-in_err-put_spaced g c = puts_at_err _ _ _ c.from_residual-in_err-put_spaced.ensures.1 (puts_all_part c.in_ok-put.ensures (puts_part _ (rw c.status.ensures at c.in_err-put_spaced.ensures)))

pub returns-in_err-put_spaced-2 : goal.returns-in_err-put_spaced-2
returns-in_err-put_spaced-2 g c = puts_at_err _ _ _ c.from_residual-in_err-put_spaced-2.ensures.1 (puts_all_part c.in_ok-put.ensures (puts_all_part (rw c.status.ensures at c.in_ok-put_spaced.ensures) (puts_part _ (rw c.name.ensures at c.in_err-put_spaced-2.ensures))))

pub returns-in_err-put_fields : goal.returns-in_err-put_fields
returns-in_err-put_fields g c = puts_at_err _ _ _ c.from_residual-in_err-put_fields.ensures.1 (puts_all_part c.in_ok-put.ensures (puts_all_part (rw c.status.ensures at c.in_ok-put_spaced.ensures) (puts_all_part (rw c.name.ensures at c.in_ok-put_spaced-2.ensures) (puts_part _ c.in_err-put_fields.ensures))))

pub returns : goal.returns
returns g c = puts_then _ _ _ _ _ c.in_ok-put.ensures (puts_then _ _ _ _ _ (rw c.status.ensures at c.in_ok-put_spaced.ensures) (puts_then _ _ _ _ _ (rw c.name.ensures at c.in_ok-put_spaced-2.ensures) (puts_then _ _ _ _ _ c.in_ok-put_fields.ensures c.put-2.ensures)))
