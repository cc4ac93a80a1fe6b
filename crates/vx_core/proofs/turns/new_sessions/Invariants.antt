use Rattle.std.proofs.Common.{◌≡◌, length}
use Rattle.std.specs.Prelude.{All}
use Rattle.vx_core.specs.Tracks.{no_session}
use Rattle.vx_core.proofs.turns.new_sessions.Given as goal

-- the sessions so far
abbrev pub invariant-loop : goal.invariant-loop
invariant-loop l = record {
  count : length l.sessions.items ≡ l.counter;
  each : All (λ z. z ≡ no_session) l.sessions.items;
}
