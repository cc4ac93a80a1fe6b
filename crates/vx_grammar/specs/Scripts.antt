-- What a script is, and why it is refused.
use Rattle.std.specs.Prelude.{◌≡◌, ℕ, ◌+◌, All, ◌==◌, ◌<◌, ◌≤◌, nat_lt, if◌then◌else◌, Bool, List, [], length, map, filter, sum_by, slice_get, unwrap_or, Option, Some, None, Ok, Err}
use Rattle.vx_base.specs.declared.call.Call.{Call}
use Rattle.vx_grammar.specs.Orders.{most_sessions, below, HasOrder, IsLowestStuck}
use Rattle.vx_grammar.specs.declared.why.ScriptRefusal.{ScriptRefusal}
use Rattle.vx_grammar.specs.declared.why.ScriptRefusal.TheVariants.{TooLong, BadLine, BadOrder, NoMemory}
use Rattle.vx_grammar.specs.declared.reader.Command.{Command}
use Rattle.vx_grammar.specs.declared.script.Script.{Script}
use Rattle.vx_grammar.specs.Forms.{IsScriptCall}
use Rattle.vx_grammar.specs.Readings.{Reading, reading_of, AreBelow, RisesTo, most_lines, most_calls, most_read, most_written, most_lists, read_bytes, written_bytes, list_count}

-- ---- by sessions

abbrev pub is_of : ℕ → Command → Bool
is_of session c = c.session == session

-- the calls and the lines of one session, in order
unfoldable pub calls_of : List Command → ℕ → List Call
calls_of commands session = map (λ c. c.call) (filter (is_of session) commands)

unfoldable pub numbers_of : List Command → ℕ → List ℕ
numbers_of commands session = map (λ c. c.number) (filter (is_of session) commands)

-- each session's calls, and their numbers in the script
unfoldable pub lines_read : Reading → List (List Call)
lines_read r = map (calls_of r.commands) (below r.sessions)

unfoldable pub numbers_read : Reading → List (List ℕ)
numbers_read r = map (numbers_of r.commands) (below r.sessions)

-- the number of a session's line after so many, if it has so many
unfoldable pub number_at : List (List ℕ) → (session before : ℕ) → Option ℕ
number_at numbers session before = slice_get (unwrap_or (slice_get numbers session) []) before

-- ---- scripts

-- a sum over the calls of all sessions
abbrev pub sum_over : (Call → ℕ) → List (List Call) → ℕ
sum_over term lines = sum_by (λ calls. sum_by term calls) lines

-- what every script has: sessions, 16 at most, which alone its schedule names; calls that a line can ask for, and no more of them than the limits allow; and an order of all lines
pub record IsScript (script : Script) : Type 0 where
  pub some : 1 ≤ script.sessions
  pub few_sessions : script.sessions ≤ most_sessions
  pub actors : AreBelow script.sessions script.schedule
  pub count : length script.lines ≡ script.sessions
  pub each : All (λ calls. All (IsScriptCall script.sessions) calls) script.lines
  pub few_calls : sum_by (λ calls. length calls) script.lines ≤ most_calls
  pub read_few : sum_over read_bytes script.lines ≤ most_read
  pub wrote_few : sum_over written_bytes script.lines ≤ most_written
  pub few_lists : sum_over list_count script.lines ≤ most_lists
  pub ordered : HasOrder script.lines

-- the script says what was read
pub record IsScriptOf (r : Reading) (script : Script) : Type 0 where
  pub sessions : script.sessions ≡ r.sessions
  pub schedule : script.schedule ≡ r.schedule
  pub lines : script.lines ≡ lines_read r
  pub form : IsScript script

-- the lines that were read have no order, and this is the lowest that can never begin
abbrev pub IsOrderRefusal : Reading → ScriptRefusal → Type 0
IsOrderRefusal r (BadOrder line) = IsLowestStuck (lines_read r) (number_at (numbers_read r)) line
IsOrderRefusal r NoMemory = Unit {0}
IsOrderRefusal r _ = ⊥

-- what the bytes of a script say
pub record IsScriptIn (bytes : List ℕ) (script : Script) : Type 0 where
  pub reading : Reading
  pub read : reading_of bytes ≡ Ok reading
  pub says : IsScriptOf reading script

pub record IsBadOrder (bytes : List ℕ) (line : ℕ) : Type 0 where
  pub reading : Reading
  pub read : reading_of bytes ≡ Ok reading
  pub lowest : IsLowestStuck (lines_read reading) (number_at (numbers_read reading)) line

-- want of memory can come at any time
abbrev pub IsRefusedFor : List ℕ → ScriptRefusal → Type 0
IsRefusedFor bytes TooLong = reading_of bytes ≡ Err TooLong
IsRefusedFor bytes (BadLine line w) = reading_of bytes ≡ Err (BadLine line w)
IsRefusedFor bytes (BadOrder line) = IsBadOrder bytes line
IsRefusedFor bytes NoMemory = Unit {0}

-- ---- the lowest of some numbers

abbrev pub lower_of : Option ℕ → Option ℕ → Option ℕ
lower_of None other = other
lower_of (Some n) None = Some n
lower_of (Some n) (Some m) = if nat_lt m n then Some m else Some n

-- the least of the values below a bound, or none
abbrev pub IsLeastOf : (ℕ → Option ℕ) → (bound : ℕ) → Option ℕ → Type 0
IsLeastOf value bound None = (s : ℕ) → s < bound → value s ≡ None
IsLeastOf value bound (Some n) = ((s : ℕ) × (value s ≡ Some n)) × ((s m : ℕ) → s < bound → value s ≡ Some m → n ≤ m)

-- ---- numbered lines

-- each line has its number, and those of a session rise
pub record AreLinesNumbered (lines : List (List Call)) (numbers : List (List ℕ)) : Type 0 where
  pub same : (session : ℕ) → length (unwrap_or (slice_get numbers session) []) ≡ length (unwrap_or (slice_get lines session) [])
  pub rising : (session : ℕ) → RisesTo 0 (most_lines + 1) (unwrap_or (slice_get numbers session) [])
