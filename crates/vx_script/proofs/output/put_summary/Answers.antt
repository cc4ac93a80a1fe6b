use Rattle.vx_script.proofs.Pieces.{puts_then, puts_part, puts_all_part, puts_at_err}
use Rattle.vx_script.proofs.output.put_summary.Goals as goal

pub returns-in_err-put : goal.returns-in_err-put
returns-in_err-put g c = puts_at_err _ _ _ c.from_residual.ensures.1 (puts_part _ (rw c.ending.ensures at c.in_err-put.ensures))

pub returns-in_err-put_count : goal.returns-in_err-put_count
returns-in_err-put_count g c = puts_at_err _ _ _ c.from_residual-in_err-put_count.ensures.1 (puts_all_part (rw c.ending.ensures at c.in_ok-put.ensures) (puts_part _ (rw c.return_count.ensures at c.in_err-put_count.ensures)))

pub returns-in_err-put_count-2 : goal.returns-in_err-put_count-2
returns-in_err-put_count-2 g c = puts_at_err _ _ _ c.from_residual-in_err-put_count-2.ensures.1 (puts_all_part (rw c.ending.ensures at c.in_ok-put.ensures) (puts_all_part (rw c.return_count.ensures at c.in_ok-put_count.ensures) (puts_part _ (rw c.switch_count.ensures at c.in_err-put_count-2.ensures))))

pub returns-in_err-put_count-3 : goal.returns-in_err-put_count-3
returns-in_err-put_count-3 g c = puts_at_err _ _ _ c.from_residual-in_err-put_count-3.ensures.1 (puts_all_part (rw c.ending.ensures at c.in_ok-put.ensures) (puts_all_part (rw c.return_count.ensures at c.in_ok-put_count.ensures) (puts_all_part (rw c.switch_count.ensures at c.in_ok-put_count-2.ensures) (puts_part _ (rw c.from_sum.ensures at c.in_err-put_count-3.ensures)))))

pub returns-in_err-put_count-4 : goal.returns-in_err-put_count-4
returns-in_err-put_count-4 g c = puts_at_err _ _ _ c.from_residual-in_err-put_count-4.ensures.1 (puts_all_part (rw c.ending.ensures at c.in_ok-put.ensures) (puts_all_part (rw c.return_count.ensures at c.in_ok-put_count.ensures) (puts_all_part (rw c.switch_count.ensures at c.in_ok-put_count-2.ensures) (puts_all_part (rw c.from_sum.ensures at c.in_ok-put_count-3.ensures) (puts_part _ (rw c.to_sum.ensures at c.in_err-put_count-4.ensures))))))

pub returns : goal.returns
returns g c = puts_then _ _ _ _ _ (rw c.ending.ensures at c.in_ok-put.ensures) (puts_then _ _ _ _ _ (rw c.return_count.ensures at c.in_ok-put_count.ensures) (puts_then _ _ _ _ _ (rw c.switch_count.ensures at c.in_ok-put_count-2.ensures) (puts_then _ _ _ _ _ (rw c.from_sum.ensures at c.in_ok-put_count-3.ensures) (puts_then _ _ _ _ _ (rw c.to_sum.ensures at c.in_ok-put_count-4.ensures) c.put-2.ensures))))
