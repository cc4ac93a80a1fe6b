use Rattle.vx_script.specs.Output.{output_of}
use Rattle.vx_script.proofs.Pieces.{puts_then, puts_part, puts_at_err}
use Rattle.vx_script.proofs.output.put_lines.Goals as goal

pub returns-in_err-put_sessions : goal.returns-in_err-put_sessions
unfolding output_of
returns-in_err-put_sessions g c = puts_at_err _ _ _ c.from_residual.ensures.1 (puts_part _ c.in_err-put_sessions.ensures)

pub returns : goal.returns
unfolding output_of
returns g c = puts_then _ _ _ _ _ c.in_ok-put_sessions.ensures c.put_summary.ensures
