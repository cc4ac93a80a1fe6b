-- How much a core has still to do: a bound on the turns that are to come.
use Rattle.std.specs.Prelude.{ℕ, zero, suc, ◌+◌, ◌-◌, ◌*◌, List, length}
use Rattle.vx_base.specs.declared.call.Call.{Call}
use Rattle.vx_base.specs.Lines.{lines_of}
use Rattle.vx_core.specs.declared.session.Session.{Session}
use Rattle.vx_core.specs.Tracks.{session_at, under_way_at, calls_under_way}

abbrev pub sum_below : (ℕ → ℕ) → ℕ → ℕ
sum_below f zero = 0
sum_below f (suc n) = sum_below f n + f n

-- what a session has still to do, where a call may leave its mount so much to do: its lines that have not begun, and its call under way
abbrev pub left_of : (per_call : ℕ) → List (List Call) → List Session → ℕ → ℕ
left_of per_call lines sessions s = (length (lines_of lines s) - ((session_at sessions s).answered + calls_under_way (under_way_at sessions s))) * (per_call + 2) + calls_under_way (under_way_at sessions s)

-- of all sessions, with what the mount has still to do
unfoldable pub work_of : (per_call owed : ℕ) → List (List Call) → List Session → ℕ
work_of per_call owed lines sessions = sum_below (left_of per_call lines sessions) (length lines) + owed

-- how many lines there are
unfoldable pub line_count : List (List Call) → ℕ
line_count lines = sum_below (λ s. length (lines_of lines s)) (length lines)
