-- In which orders the lines of a script can be answered.
use Rattle.std.specs.Prelude.{◌≡◌, ℕ, zero, suc, ◌+◌, ◌-◌, ◌==◌, ◌<◌, ◌≤◌, Bool, true, false, nat_le, slice_index, List, [], ◌∷◌, ◌++◌, length, count_by, Option, Some, None}
use Rattle.vx_base.specs.declared.call.Call.{Call}
use Rattle.vx_base.specs.declared.call.Call.TheVariants as call
use Rattle.vx_base.specs.Lines.{lines_of, line_after}

-- An order is a list of sessions: each entry stands for the session's next line.

-- how many lines of a session stand in an order
unfoldable pub lines_in : ℕ → List ℕ → ℕ
lines_in session order = count_by (λ s. s == session) order

-- the line is there, and all that it waits for stands in the order
abbrev pub IsMet : List ℕ → Option Call → Type 0
IsMet order None = ⊥
IsMet order (Some (call.After session lines)) = lines ≤ lines_in session order
IsMet order (Some _) = Unit {0}

-- the session's next line can follow this order
abbrev pub CanFollow : List (List Call) → List ℕ → ℕ → Type 0
CanFollow lines order session = IsMet order (line_after lines session (lines_in session order))

-- each entry can follow those before it
abbrev pub IsOrder : List (List Call) → List ℕ → Type 0
IsOrder lines order = (front rest : List ℕ) (session : ℕ) → order ≡ front ++ session ∷ rest → CanFollow lines front session

-- an order of all lines
pub record HasOrder (lines : List (List Call)) : Type 0 where
  pub order : List ℕ
  pub each : IsOrder lines order
  pub all : (session : ℕ) → lines_in session order ≡ length (lines_of lines session)

-- some order leads to this line of a session, which comes after so many of its lines, and the line can follow
pub record CanBegin (lines : List (List Call)) (session before : ℕ) : Type 0 where
  pub order : List ℕ
  pub each : IsOrder lines order
  pub here : lines_in session order ≡ before
  pub next : CanFollow lines order session

-- the lowest line, by its number in the script, that no order leads to; each session's lines have their numbers
pub record IsLowestStuck (lines : List (List Call)) (number_of : (session before : ℕ) → Option ℕ) (number : ℕ) : Type 0 where
  pub session : ℕ
  pub before : ℕ
  pub numbered : number_of session before ≡ Some number
  pub stuck : CanBegin lines session before → ⊥
  pub lowest : (s k n : ℕ) → number_of s k ≡ Some n → n < number → CanBegin lines s k

-- ---- how far every session can come

abbrev pub most_sessions : ℕ
most_sessions = 16

-- the line is there, and it waits for no more lines than these
abbrev pub is_met_by : (ℕ → ℕ) → Option Call → Bool
is_met_by so_far None = false
is_met_by so_far (Some (call.After session lines)) = nat_le lines (so_far session)
is_met_by so_far (Some _) = true

-- how many lines a session has answered, of which so many are left
unfoldable pub so_far : List (List Call) → (left : List ℕ) → ℕ → ℕ
so_far lines left session = length (lines_of lines session) - slice_index left session

-- an order that leaves each session so many lines, none of which can follow
pub record IsFurthest (lines : List (List Call)) (left : List ℕ) : Type 0 where
  pub order : List ℕ
  pub each : IsOrder lines order
  pub counts : (session : ℕ) → lines_in session order + slice_index left session ≡ length (lines_of lines session)
  pub stuck : (session : ℕ) → is_met_by (so_far lines left) (line_after lines session (so_far lines left session)) ≡ false

-- where no line is left there is an order of all lines; else exactly those before the first one left can begin
pub record SaysWhatBegins (lines : List (List Call)) (left : List ℕ) : Type 0 where
  pub few : (session : ℕ) → slice_index left session ≤ length (lines_of lines session)
  pub ordered : ((session : ℕ) → slice_index left session ≡ 0) → HasOrder lines
  pub can : (session before : ℕ) → before < so_far lines left session → CanBegin lines session before
  pub cannot : (session before : ℕ) → so_far lines left session ≤ before → CanBegin lines session before → ⊥

-- ---- all sessions

-- the sessions below a number, in order
abbrev pub below : ℕ → List ℕ
below zero = []
below (suc n) = below n ++ n ∷ []
