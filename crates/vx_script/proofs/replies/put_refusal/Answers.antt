use Rattle.vx_script.proofs.Pieces.{puts_then, puts_part, puts_all_part, puts_at_err}
use Rattle.vx_script.proofs.replies.put_refusal.Goals as goal

pub returns-in_err-put_spaced : goal.returns-in_err-put_spaced
returns-in_err-put_spaced g c = puts_at_err _ _ _ c.from_residual.ensures.1 (puts_part _ c.in_err-put_spaced.ensures)

pub returns-in_err-put_spaced-2 : goal.returns-in_err-put_spaced-2
returns-in_err-put_spaced-2 g c = puts_at_err _ _ _ c.from_residual-in_err-put_spaced-2.ensures.1 (puts_all_part c.in_ok-put_spaced.ensures (puts_part _ (rw c.number_of_refusal.ensures at c.in_err-put_spaced-2.ensures)))

pub returns-in_err-put_spaced-3 : goal.returns-in_err-put_spaced-3
returns-in_err-put_spaced-3 g c = puts_at_err _ _ _ c.from_residual-in_err-put_spaced-3.ensures.1 (puts_all_part c.in_ok-put_spaced.ensures (puts_all_part (rw c.number_of_refusal.ensures at c.in_ok-put_spaced-2.ensures) (puts_part _ (rw c.name_of_refusal.ensures at c.in_err-put_spaced-3.ensures))))

pub returns : goal.returns
returns g c = puts_then _ _ _ _ _ c.in_ok-put_spaced.ensures (puts_then _ _ _ _ _ (rw c.number_of_refusal.ensures at c.in_ok-put_spaced-2.ensures) (puts_then _ _ _ _ _ (rw c.name_of_refusal.ensures at c.in_ok-put_spaced-3.ensures) c.put_fields.ensures))
