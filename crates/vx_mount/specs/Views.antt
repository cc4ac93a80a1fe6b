-- What contracts see of a core.
use Rattle.std.specs.Prelude.{◌≡◌, ℕ, ◌<◌, List, length, Option}
use Rattle.vx_base.specs.declared.call.Call.{Call}
use Rattle.vx_base.specs.declared.event.Event.{Event}
use Rattle.vx_base.specs.declared.mode.Logging.{Logging}
use Rattle.vx_mount.specs.Sessions.{Standing, finished, standing}

pub record CoreView : Type 0 where
  -- the lines of each session
  pub lines : List (List Call)
  pub history : List Event
  pub logging : Logging
  -- the operations of the device
  pub count : ℕ
  -- its failed writes
  pub write_faults : ℕ
  -- the device's failed writes at the first one in this mount
  pub disabled : Option ℕ
  -- the session that holds the lock of each inode
  pub locks : List (Option ℕ)

abbrev pub standing_in : CoreView → ℕ → Standing
standing_in v session = standing v.lines v.history session

abbrev pub AllFinished : CoreView → Type 0
AllFinished v = (session : ℕ) → session < length v.lines → standing_in v session ≡ finished
