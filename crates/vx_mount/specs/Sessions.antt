-- How far each session of a script has come.
use Rattle.std.specs.Prelude.{◌≡◌, ℕ, ◌==◌, ◌&&◌, Bool, true, false, nat_lt, List, count_by, slice_get, Option, Some, None, if◌then◌else◌}
use Rattle.std.specs.List.{list_any}
use Rattle.vx_base.specs.declared.call.Call.{Call}
use Rattle.vx_base.specs.declared.call.Call.TheVariants as call
use Rattle.vx_base.specs.declared.event.Event.{Event}
use Rattle.vx_base.specs.declared.event.Event.TheVariants as event
use Rattle.vx_base.specs.Lines.{line_after}

-- ---- what stands in the history

-- the event begins a line of this session; a Do of the unmount has line 0
abbrev pub is_line : ℕ → Event → Bool
is_line session (event.Do at s line c reply) = s == session && nat_lt 0 line
is_line session _ = false

abbrev pub is_line_there : ℕ → Option Event → Bool
is_line_there session None = false
is_line_there session (Some e) = is_line session e

-- the call at this place is a line of this session
abbrev pub is_call_of : ℕ → List Event → ℕ → Bool
is_call_of session history place = is_line_there session (slice_get history place)

-- the event is the Do of this line of this session
abbrev pub IsDoOf : (session line : ℕ) → Option Event → Type 0
IsDoOf session line (Some (event.Do at s l c reply)) = (s ≡ session) × (l ≡ line)
IsDoOf session line _ = ⊥

-- the event answers a line of this session
abbrev pub is_answer : ℕ → List Event → Event → Bool
is_answer session history (event.Ret at place reply) = is_call_of session history place
is_answer session history _ = false

-- how many lines a session has begun
unfoldable pub begun : ℕ → List Event → ℕ
begun session history = count_by (is_line session) history

-- how many lines a session has answered
unfoldable pub answered : ℕ → List Event → ℕ
answered session history = count_by (is_answer session history) history

abbrev pub is_stop : Event → Bool
is_stop (event.Stopped at) = true
is_stop _ = false

unfoldable pub is_stopped : List Event → Bool
is_stopped history = list_any is_stop history

-- ---- where a session stands

pub data Standing : Type 0 where
  finished : Standing
  waiting : (session lines : ℕ) → Standing
  ready : Standing

-- a wait is over once the session has answered so many lines
abbrev pub standing_at : List Event → Option Call → Standing
standing_at history None = finished
standing_at history (Some (call.After session lines)) = if nat_lt (answered session history) lines then waiting session lines else ready
standing_at history (Some _) = ready

-- A session is finished where it has no line left or the run was stopped; it waits where its line is a wait that is not over; else
-- its line can be begun or gone on with, and only a lock may still keep it back. Its line is the first that it has not answered.
unfoldable pub standing : List (List Call) → List Event → ℕ → Standing
standing lines history session = if is_stopped history then finished else standing_at history (line_after lines session (answered session history))
