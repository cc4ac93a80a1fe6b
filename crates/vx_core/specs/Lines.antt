-- The lines of a script, some of which have moved into the history.
use Rattle.std.specs.Prelude.{ℕ, List, ◌++◌, map, drop, length}
use Rattle.std.specs.List.{range_with_len}
use Rattle.vx_base.specs.declared.call.Call.{Call}
use Rattle.vx_base.specs.declared.event.Event.{Event}
use Rattle.vx_base.specs.Lines.{lines_of}
use Rattle.vx_mount.specs.Sessions.{begun}
use Rattle.vx_mount.specs.Runs.{calls_begun}

-- a session's lines: those that it has begun stand in the history, and the others in the lists
abbrev pub lines_of_session : (lists : List (List Call)) → List Event → ℕ → List Call
lines_of_session lists history session = calls_begun session history ++ drop (begun session history) (lines_of lists session)

-- the lines of all sessions
unfoldable pub script_lines : (lists : List (List Call)) → List Event → List (List Call)
script_lines lists history = map (lines_of_session lists history) (range_with_len 0 (length lists))
