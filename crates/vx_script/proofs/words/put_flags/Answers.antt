use Rattle.vx_script.proofs.Pieces.{puts_then, puts_part, puts_all_part, puts_at_err}
use Rattle.vx_script.proofs.words.put_flags.Goals as goal

pub returns-in_err-put_flag : goal.returns-in_err-put_flag
returns-in_err-put_flag g c = puts_at_err _ _ _ c.from_residual.ensures.1 (puts_part _ c.in_err-put_flag.ensures)

pub returns-in_err-put_flag-2 : goal.returns-in_err-put_flag-2
returns-in_err-put_flag-2 g c = puts_at_err _ _ _ c.from_residual-in_err-put_flag-2.ensures.1 (puts_all_part c.in_ok-put_flag.ensures (puts_part _ c.in_err-put_flag-2.ensures))

pub returns-in_err-put_flag-3 : goal.returns-in_err-put_flag-3
returns-in_err-put_flag-3 g c = puts_at_err _ _ _ c.from_residual-in_err-put_flag-3.ensures.1 (puts_all_part c.in_ok-put_flag.ensures (puts_all_part c.in_ok-put_flag-2.ensures (puts_part _ c.in_err-put_flag-3.ensures)))

pub returns-in_err-put_flag-4 : goal.returns-in_err-put_flag-4
returns-in_err-put_flag-4 g c = puts_at_err _ _ _ c.from_residual-in_err-put_flag-4.ensures.1 (puts_all_part c.in_ok-put_flag.ensures (puts_all_part c.in_ok-put_flag-2.ensures (puts_all_part c.in_ok-put_flag-3.ensures (puts_part _ c.in_err-put_flag-4.ensures))))

pub returns-in_err-put_flag-5 : goal.returns-in_err-put_flag-5
returns-in_err-put_flag-5 g c = puts_at_err _ _ _ c.from_residual-in_err-put_flag-5.ensures.1 (puts_all_part c.in_ok-put_flag.ensures (puts_all_part c.in_ok-put_flag-2.ensures (puts_all_part c.in_ok-put_flag-3.ensures (puts_all_part c.in_ok-put_flag-4.ensures (puts_part _ c.in_err-put_flag-5.ensures)))))

pub returns : goal.returns
returns g c = puts_then _ _ _ _ _ c.in_ok-put_flag.ensures (puts_then _ _ _ _ _ c.in_ok-put_flag-2.ensures (puts_then _ _ _ _ _ c.in_ok-put_flag-3.ensures (puts_then _ _ _ _ _ c.in_ok-put_flag-4.ensures (puts_then _ _ _ _ _ c.in_ok-put_flag-5.ensures c.put_dash.ensures))))
