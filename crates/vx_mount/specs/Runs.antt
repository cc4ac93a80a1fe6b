-- What the history of a run has of its script.
use Rattle.std.specs.Prelude.{◌≡◌, ℕ, ◌+◌, ◌≤◌, ◌<◌, false, ◌==◌, ◌&&◌, nat_lt, List, [], ◌∷◌, ◌++◌, All, length, slice_get, Option, Some, None, if◌then◌else◌}
use Rattle.std.specs.List.{filter_map}
use Rattle.vx_base.specs.declared.call.Call.{Call}
use Rattle.vx_base.specs.declared.event.Event.{Event}
use Rattle.vx_base.specs.declared.event.Event.TheVariants as event
use Rattle.vx_base.specs.declared.reply.Reply.{Reply}
use Rattle.vx_base.specs.Lines.{lines_of}
use Rattle.vx_mount.specs.Sessions.{IsDoOf, begun, answered, is_stopped}

-- the call of a line of this session
abbrev pub line_call : ℕ → Event → Option Call
line_call session (event.Do at s line c reply) = if s == session && nat_lt 0 line then Some c else None
line_call session _ = None

-- the calls that a session has begun, in order
unfoldable pub calls_begun : ℕ → List Event → List Call
calls_begun session history = filter_map (line_call session) history

-- each session has begun its lines from the first, in order
pub record BeginsLines (lines : List (List Call)) (history : List Event) : Type 0 where
  pub left : ℕ → List Call
  pub in_order : (session : ℕ) → lines_of lines session ≡ calls_begun session history ++ left session
  pub counted : (session : ℕ) → length (calls_begun session history) ≡ begun session history

-- a line's Do has the number of its session's next line
abbrev pub HasNextNumber : List Event → Event → Type 0
HasNextNumber before (event.Do at session line c reply) = 0 < line → line ≡ begun session before + 1
HasNextNumber before _ = Unit {0}

-- the lines that these events begin have the numbers 1, 2, .. of their session
abbrev pub AreNumbered : (before events : List Event) → Type 0
AreNumbered before [] = Unit {0}
AreNumbered before (e ∷ events) = HasNextNumber before e × AreNumbered (before ++ e ∷ []) events

-- this line of this session has a Do, and a Ret that names its place
pub record HasAnswer (session line : ℕ) (history : List Event) : Type 0 where
  pub place : ℕ
  pub begins : IsDoOf session line (slice_get history place)
  pub later_place : ℕ
  pub at : ℕ
  pub answer : Reply
  pub answers : slice_get history later_place ≡ Some (event.Ret at place answer)

-- a Ret names a place below this one
abbrev pub IsPlacedBelow : ℕ → Event → Type 0
IsPlacedBelow n (event.Ret at place answer) = place < n
IsPlacedBelow n _ = Unit {0}

-- What the history of a run has of its script at any moment: each session's lines from the first, in order and with their numbers,
-- of which all but at most the last are answered.
pub record TakesLines (lines : List (List Call)) (history : List Event) : Type 0 where
  pub begins : BeginsLines lines history
  pub numbered : AreNumbered [] history
  pub placed : All (IsPlacedBelow (length history)) history
  pub at_most_last : (session : ℕ) → (answered session history ≤ begun session history) × (begun session history ≤ answered session history + 1)
  pub answers : (session line : ℕ) → 0 < line → line ≤ answered session history → HasAnswer session line history

-- what it has at the end: without a stop all lines are begun and answered
pub record AnswersLines (lines : List (List Call)) (history : List Event) : Type 0 where
  pub takes : TakesLines lines history
  pub all : is_stopped history ≡ false → (session : ℕ) → answered session history ≡ length (lines_of lines session)
