use Rattle.vx_script.specs.Output.{sessions_text}
use Rattle.vx_script.proofs.Pieces.{puts_none, puts_all, puts_all_part, puts_at_err}
use Rattle.vx_script.proofs.OutputLaws.{sessions_text-more, sessions_broken}
use Rattle.vx_script.proofs.output.put_sessions.Goals as goal

pub loop-session-init : goal.loop-session-init
unfolding sessions_text
loop-session-init g c = puts_none _ _ _

pub returns-in_err-put_session : goal.returns-in_err-put_session
returns-in_err-put_session g c =
    puts_at_err _ _ _ c.from_residual.ensures.1 (sessions_broken c.args.history.now c.loop-session.session 16 c.loop-session-test.true (puts_all_part c.loop-session.invariant c.in_err-put_session.ensures))

pub loop-session-preserved : goal.loop-session-preserved
loop-session-preserved g c = rw sessions_text-more (puts_all c.loop-session.invariant c.in_ok-put_session.ensures)
