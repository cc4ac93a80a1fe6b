use Rattle.vx_script.specs.Output.{event_text}
use Rattle.vx_script.proofs.Pieces.{puts_more, puts_broken, puts_at_err}
use Rattle.vx_script.proofs.output.put_session.Goals as goal

pub returns-in_err-put_event : goal.returns-in_err-put_event
returns-in_err-put_event g c =
    puts_at_err _ _ _ c.from_residual.ensures.1 (puts_broken (event_text c.args.history.now c.args.session) _ _ _ c.loop-event-test.true c.loop-event.invariant (rw c.event-item.is at c.in_err-put_event.ensures))

pub loop-event-preserved : goal.loop-event-preserved
loop-event-preserved g c = puts_more (event_text c.args.history.now c.args.session) _ _ _ c.loop-event-test.true c.loop-event.invariant (rw c.event-item.is at c.in_ok-put_event.ensures)
