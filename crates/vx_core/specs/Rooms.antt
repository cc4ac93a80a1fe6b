-- For how many events the history has room.
use Rattle.std.specs.Prelude.{ℕ, ◌≤◌, List, if◌then◌else◌}
use Rattle.vx_base.specs.declared.call.Call.{Call}
use Rattle.vx_base.specs.declared.event.Event.{Event}
use Rattle.vx_mount.specs.Cores.{is_end}
use Rattle.vx_core.specs.declared.session.Session.{Session}
use Rattle.vx_core.specs.Lines.{script_lines}
use Rattle.vx_core.specs.Mounts.{MountView}
use Rattle.vx_core.specs.Tracks.{last_event}
use Rattle.vx_core.specs.Works.{work_of}

-- Stopped or Unmounted, once
abbrev pub last_to_come : List Event → ℕ
last_to_come history = if is_end (last_event history) then 0 else 1

-- four events for each line that has not begun, with the releases that it may lead to, one for each call under way, and the last one
abbrev pub HasRoom : MountView → List (List Call) → List Session → Type 0
HasRoom v lists sessions = work_of 2 (last_to_come v.history) (script_lines lists v.history) sessions ≤ v.spare
