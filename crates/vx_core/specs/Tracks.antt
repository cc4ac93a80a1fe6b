-- What a core knows of its sessions.
use Rattle.std.specs.Prelude.{◌≡◌, ◌⊎◌, ℕ, ◌+◌, ◌-◌, ◌<◌, Bool, true, false, List, All, length, slice_get, slice_index_or, Option, Some, None}
use Rattle.std.specs.FinMap as map
use Rattle.vx_base.specs.declared.call.Call.{Call}
use Rattle.vx_base.specs.declared.event.Event.{Event}
use Rattle.vx_base.specs.declared.event.Event.TheVariants as event
use Rattle.vx_base.specs.declared.mode.Logging.{Logging}
use Rattle.vx_base.specs.declared.reply.Reply.{Reply}
use Rattle.vx_base.specs.Lines.{line_after}
use Rattle.vx_model.specs.Allowed.{has_front, is_refusal}
use Rattle.vx_model.specs.Legal.{World, Waiting, in_use, stopped, unmounted}
use Rattle.vx_mount.specs.Sessions.{begun, answered, is_stopped}
use Rattle.vx_mount.specs.Pieces.{is_stopping}
use Rattle.vx_mount.specs.Cores.{is_end}
use Rattle.vx_mount.specs.Runs.{IsPlacedBelow}
use Rattle.vx_core.specs.declared.session.Session.{Session}
use Rattle.vx_core.specs.declared.session.UnderWay.{UnderWay}

-- ---- sessions

-- a session without lines
abbrev pub no_session : Session
no_session = record { answered = 0; under_way = None }

-- a session, and beyond the last one a session without lines
abbrev pub session_at : List Session → ℕ → Session
session_at sessions s = slice_index_or sessions s no_session

abbrev pub under_way_at : List Session → ℕ → Option UnderWay
under_way_at sessions s = (session_at sessions s).under_way

abbrev pub calls_under_way : Option UnderWay → ℕ
calls_under_way None = 0
calls_under_way (Some u) = 1

-- the call is its session's line after so many, and it stands in the history without a Ret
pub record IsUnderWay (lines : List (List Call)) (w : World) (history : List Event) (session so_many : ℕ) (u : UnderWay) : Type 0 where
  pub call : Call
  pub at : ℕ
  pub line : line_after lines session so_many ≡ Some call
  pub stands : slice_get history u.place ≡ Some (event.Do at session (so_many + 1) call u.answer)
  pub waits : map.get w.waiting u.place ≡ Some (record { session = session; line = so_many + 1; call = call; reply = u.answer })

abbrev pub IsAnyUnderWay : (lines : List (List Call)) → World → List Event → (session so_many : ℕ) → Option UnderWay → Type 0
IsAnyUnderWay lines w history session so_many None = Unit {0}
IsAnyUnderWay lines w history session so_many (Some u) = IsUnderWay lines w history session so_many u

-- a call that waits is the one that its session has under way
pub record IsAwaited (sessions : List Session) (place : ℕ) (v : Waiting) : Type 0 where
  pub numbered : 0 < v.line
  pub answer : Reply
  pub is : under_way_at sessions v.session ≡ Some (record { place = place; answer = answer })

-- the sessions are as far as the history says
pub record Tracks (lines : List (List Call)) (w : World) (history : List Event) (sessions : List Session) : Type 0 where
  pub next : w.next ≡ length history
  pub placed : All (IsPlacedBelow (length history)) history
  pub answered_is : (s : ℕ) → answered s history ≡ (session_at sessions s).answered
  pub begun_is : (s : ℕ) → begun s history ≡ (session_at sessions s).answered + calls_under_way (under_way_at sessions s)
  pub under_way : (s : ℕ) → IsAnyUnderWay lines w history s (session_at sessions s).answered (under_way_at sessions s)
  pub awaited : (place : ℕ) (v : Waiting) → map.get w.waiting place ≡ Some v → IsAwaited sessions place v

-- ---- between two turns

-- the event is a call that must be committed before it is answered
abbrev pub NeedsFront : Logging → Option Event → Type 0
NeedsFront mode (Some (event.Do at session line c reply)) = has_front mode c ≡ true
NeedsFront mode _ = ⊥

-- such a call, and no refusal
abbrev pub WaitsForFront : Logging → List Event → Option UnderWay → Type 0
WaitsForFront mode history None = Unit {0}
WaitsForFront mode history (Some u) = NeedsFront mode (slice_get history u.place) × (is_refusal u.answer ≡ false)

-- a call is under way from one turn to the next only where it waits to be committed
abbrev pub WaitForFronts : Logging → List Event → List Session → Type 0
WaitForFronts mode history sessions = (s : ℕ) → WaitsForFront mode history (under_way_at sessions s)

-- ---- how far the run is

abbrev pub last_event : List Event → Option Event
last_event history = slice_get history (length history - 1)

pub record IsRunning (w : World) (history : List Event) : Type 0 where
  pub phase : w.phase ≡ in_use
  pub runs : is_stopped history ≡ false
  pub settled : is_stopping history ≡ false
  pub open_end : is_end (last_event history) ≡ false

pub record IsStopped (w : World) (history : List Event) : Type 0 where
  pub phase : w.phase ≡ stopped
  pub stops : is_stopped history ≡ true
  pub end : is_end (last_event history) ≡ true

-- and no session has a line left
pub record IsUnmounted (lines : List (List Call)) (w : World) (history : List Event) : Type 0 where
  pub phase : w.phase ≡ unmounted
  pub runs : is_stopped history ≡ false
  pub end : is_end (last_event history) ≡ true
  pub over : (s : ℕ) → line_after lines s (answered s history) ≡ None

-- the run was stopped, or it was not
abbrev pub IsOnCourse : Bool → (lines : List (List Call)) → World → List Event → Type 0
IsOnCourse true lines w history = IsStopped w history
IsOnCourse false lines w history = IsRunning w history ⊎ IsUnmounted lines w history
