-- The memory that a run takes before its first write.
use Rattle.std.specs.Prelude.{◌≡◌, ◌≤◌, ℕ, [], length, vec_capacity}
use Rattle.vx_core.specs.Tracks.{no_session, session_at}
use Rattle.vx_log.specs.Logs.{LogView}
use Rattle.vx_model.specs.Touching.{untouched}
use Rattle.vx_run.specs.Ends.{free_locks}
use Rattle.vx_run.specs.declared.memory.Memory.{Memory}
use Rattle.vx_run.specs.declared.memory.TurnMemory.{TurnMemory}

-- empty, for so many units and so many sessions
pub record IsTurnMemory (units sessions : ℕ) (m : TurnMemory) : Type 0 where
  pub touched : m.touched ≡ untouched
  pub transaction : m.transaction ≡ []
  pub locks : m.locks ≡ free_locks units
  pub count : length m.sessions.items ≡ sessions
  pub each : (s : ℕ) → session_at m.sessions.items s ≡ no_session

-- all of it empty but the log, and with room for so many events
pub record IsMemory (log : LogView) (units sessions events : ℕ) (m : Memory) : Type 0 where
  pub log_is : m.kernel.log ≡ log
  pub homes : m.kernel.homes ≡ []
  pub gathered : m.kernel.gathered ≡ []
  pub ready : m.kernel.ready ≡ []
  pub history : m.kernel.history.items ≡ []
  pub capacity : events ≤ vec_capacity m.kernel.history
  pub turns : IsTurnMemory units sessions m.turns
