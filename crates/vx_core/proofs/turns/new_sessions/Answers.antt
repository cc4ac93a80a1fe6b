use Rattle.vx_core.proofs.Founding.{fresh_session}
use Rattle.vx_core.proofs.turns.new_sessions.Goals as goal

pub returns-clause-each : goal.returns-clause-each
returns-clause-each c = λ s. fresh_session c.loop.sessions.items c.loop.invariant.each s
