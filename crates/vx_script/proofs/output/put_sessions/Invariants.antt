use Rattle.vx_script.specs.Puts.{PutsAll}
use Rattle.vx_script.specs.Output.{sessions_text}
use Rattle.vx_script.proofs.output.put_sessions.Given as goal

-- what was put so far
abbrev pub invariant-loop-session : goal.invariant-loop-session
invariant-loop-session g l =
    PutsAll (g.K.Sink.taken l.fn.out) (g.K.Sink.taken l.out) (g.K.Sink.fault_count l.fn.out) (g.K.Sink.fault_count l.out) l.fn.buffer l.buffer (sessions_text l.history l.session)
