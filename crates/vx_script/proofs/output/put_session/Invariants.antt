use Rattle.std.proofs.Common.{take}
use Rattle.std.specs.Prelude.{flat_map}
use Rattle.vx_script.specs.Puts.{PutsAll}
use Rattle.vx_script.specs.Output.{event_text}
use Rattle.vx_script.proofs.output.put_session.Given as goal

-- what was put so far
abbrev pub invariant-loop-event : goal.invariant-loop-event
invariant-loop-event g l =
    PutsAll (g.K.Sink.taken l.fn.out) (g.K.Sink.taken l.out) (g.K.Sink.fault_count l.fn.out) (g.K.Sink.fault_count l.out) l.fn.buffer l.buffer (flat_map (event_text l.history l.session) (take l.event-index l.history))
