-- What a script asks for, read line by line.
use Rattle.std.specs.Prelude.{◌≡◌, ℕ, zero, suc, ◌+◌, ◌-◌, ◌<◌, ◌≤◌, All, Bool, ◌&&◌, ◌==◌, nat_lt, List, [], ◌∷◌, ◌++◌, length, unwrap_or, map, sum_by, codes, Option, Some, None, Result, Ok, Err, if◌then◌else◌}
use Rattle.vx_base.specs.declared.call.Call.{Call}
use Rattle.vx_base.specs.declared.call.Call.TheVariants as call
use Rattle.vx_base.specs.Fits.{payload_len}
use Rattle.vx_grammar.specs.declared.why.Why.{Why}
use Rattle.vx_grammar.specs.declared.why.Why.TheVariants as why
use Rattle.vx_grammar.specs.declared.why.ScriptRefusal.{ScriptRefusal}
use Rattle.vx_grammar.specs.declared.why.ScriptRefusal.TheVariants.{TooLong, BadLine, BadOrder, NoMemory}
use Rattle.vx_grammar.specs.declared.why.LineFault.{LineFault}
use Rattle.vx_grammar.specs.declared.why.LineFault.TheVariants.{Bad, OutOfMemory}
use Rattle.vx_grammar.specs.Lines.{lines_of}
use Rattle.vx_grammar.specs.Words.{Word, is_word, is_skipped, words_of, number_of}
use Rattle.vx_grammar.specs.Commands.{need, command_call}
use Rattle.vx_grammar.specs.Orders.{most_sessions}
use Rattle.vx_grammar.specs.Forms.{IsScriptCall}
use Rattle.vx_grammar.specs.declared.reader.Command.{Command}

-- what the lines so far say; no sessions are 0 of them
pub record Reading : Type 0 where
  pub sessions : ℕ
  pub schedule : Option (List ℕ)
  pub commands : List Command
  -- the bytes of all reads, those of all writes, and the number of lists
  pub read_sum : ℕ
  pub write_sum : ℕ
  pub lists : ℕ

abbrev pub nothing_read : Reading
nothing_read = record { sessions = 0; schedule = None; commands = []; read_sum = 0; write_sum = 0; lists = 0 }

abbrev pub Read : Type 0
Read = Result Reading Why

-- what follows, unless the line is bad
abbrev pub unless_bad : {X Y : Type 0} → Result X Why → (X → Result Y Why) → Result Y Why
unless_bad (Err w) later = Err w
unless_bad (Ok x) later = later x

-- ---- the line of sessions

abbrev pub sessions_of : List Word → Option ℕ
sessions_of (name ∷ number ∷ []) = if is_word name (codes "sessions") then number_of 1 most_sessions number else None
sessions_of _ = None

abbrev pub with_sessions : Reading → List Word → Read
with_sessions r words = need why.Sessions (sessions_of words) (λ n. Ok (record r { sessions = n }))

-- ---- the lines of the schedule

abbrev pub with_actor : Option ℕ → Option (List ℕ) → Option (List ℕ)
with_actor (Some actor) (Some actors) = Some (actor ∷ actors)
with_actor _ _ = None

-- actors, each below the number of sessions
abbrev pub actors_of : (sessions : ℕ) → List Word → Option (List ℕ)
actors_of sessions [] = Some []
actors_of sessions (word ∷ words) = with_actor (number_of 0 (sessions - 1) word) (actors_of sessions words)

-- the actors of earlier lines, and these
abbrev pub joined : List ℕ → Option (List ℕ) → Option (List ℕ)
joined earlier None = None
joined earlier (Some actors) = Some (earlier ++ actors)

-- the lines of a schedule are joined
abbrev pub with_schedule : Reading → List Word → Read
with_schedule r words =
    if length words == 0 then Err why.Words
    else need why.Number (joined (unwrap_or r.schedule []) (actors_of r.sessions words)) (λ actors. Ok (record r { schedule = Some actors }))

-- ---- the lines with calls

abbrev pub read_bytes : Call → ℕ
read_bytes (call.Read handle offset len) = len
read_bytes _ = 0

abbrev pub written_bytes : Call → ℕ
written_bytes (call.Write handle offset written) = payload_len written
written_bytes _ = 0

abbrev pub list_count : Call → ℕ
list_count (call.List path) = 1
list_count _ = 0

abbrev pub most_lines : ℕ
most_lines = 65536

-- one line is that of the sessions
abbrev pub most_calls : ℕ
most_calls = 65535

abbrev pub most_read : ℕ
most_read = 4194304

abbrev pub most_written : ℕ
most_written = 67108864

abbrev pub most_lists : ℕ
most_lists = 1024

-- the limits, in the order of their whys
abbrev pub with_command : Reading → Command → Read
with_command r c =
    if nat_lt most_lines c.number then Err why.TooManyLines
    else if nat_lt most_read (r.read_sum + read_bytes c.call) then Err why.ReadSum
    else if nat_lt most_written (r.write_sum + written_bytes c.call) then Err why.WriteSum
    else if nat_lt most_lists (r.lists + list_count c.call) then Err why.Lists
    else Ok (record r {
      commands = r.commands ++ c ∷ [];
      read_sum = r.read_sum + read_bytes c.call;
      write_sum = r.write_sum + written_bytes c.call;
      lists = r.lists + list_count c.call;
    })

-- the command, and the words after it
abbrev pub command_words : List Word → Option (Word × List Word)
command_words [] = None
command_words (command ∷ words) = Some (command, words)

abbrev pub with_call : Reading → (number : ℕ) → (first : Word) → List Word → Read
with_call r number first words =
    need why.Sessions (number_of 0 (r.sessions - 1) first) (λ session. need why.Unknown (command_words words) (λ w. unless_bad (command_call r.sessions w.0 w.1) (λ c.
    with_command r (record { session = session; number = number; call = c }))))

-- ---- any line

abbrev pub no_commands : Reading → Bool
no_commands r = length r.commands == 0

-- after the line of sessions: schedule lines stand before all calls
abbrev pub with_line : Reading → (number : ℕ) → List Word → Read
with_line r number [] = Ok r
with_line r number (first ∷ words) = if is_word first (codes "schedule") && no_commands r then with_schedule r words else with_call r number first words

abbrev pub with_words : Reading → (number : ℕ) → List Word → Read
with_words r number words = if r.sessions == 0 then with_sessions r words else with_line r number words

abbrev pub with_any : Reading → (number : ℕ) → List ℕ → Read
with_any r number line = if is_skipped line then Ok r else with_words r number (words_of line)

-- line 65,537 is bad, whatever it says, but for an earlier why
abbrev pub few_lines : (number : ℕ) → Reading → Read
few_lines number r = if nat_lt most_lines number then Err why.TooManyLines else Ok r

-- a line more
unfoldable pub after_line : Reading → (number : ℕ) → List ℕ → Read
after_line r number line = unless_bad (with_any r number line) (few_lines number)

-- ---- the script

-- without a line of sessions the line after the last is bad
abbrev pub at_end : Reading → (number : ℕ) → Result Reading ScriptRefusal
at_end r number = if r.sessions == 0 then Err (BadLine number why.Sessions) else Ok r

abbrev pub go_on : Read → (number : ℕ) → (Reading → Result Reading ScriptRefusal) → Result Reading ScriptRefusal
go_on (Err w) number later = Err (BadLine number w)
go_on (Ok r) number later = later r

-- lines are counted from this one; the first bad one counts
abbrev pub after_lines : Reading → (number : ℕ) → List (List ℕ) → Result Reading ScriptRefusal
after_lines r number [] = at_end r number
after_lines r number (line ∷ lines) = go_on (after_line r number line) number (λ next. after_lines next (number + 1) lines)

abbrev pub most_bytes : ℕ
most_bytes = 4194304

unfoldable pub reading_of : List ℕ → Result Reading ScriptRefusal
reading_of bytes = if nat_lt most_bytes (length bytes) then Err TooLong else after_lines nothing_read 1 (lines_of bytes)

-- ---- what holds of every reading

-- a list of numbers that rise, or stay, from a least to a greatest one
abbrev pub RisesTo : (least greatest : ℕ) → List ℕ → Type 0
RisesTo least greatest [] = least ≤ greatest
RisesTo least greatest (n ∷ ns) = (least ≤ n) × RisesTo n greatest ns

abbrev pub AreBelow : ℕ → Option (List ℕ) → Type 0
AreBelow bound None = Unit {0}
AreBelow bound (Some actors) = All (λ actor. actor < bound) actors

pub record IsWithin (r : Reading) : Type 0 where
  pub few_sessions : r.sessions ≤ most_sessions
  pub read_few : r.read_sum ≤ most_read
  pub wrote_few : r.write_sum ≤ most_written
  pub few_lists : r.lists ≤ most_lists
  pub actors : AreBelow r.sessions r.schedule

-- each call is of a session and has the form of its command, and the sums are those of all calls
pub record IsCounted (r : Reading) : Type 0 where
  pub owned : All (λ c. c.session < r.sessions) r.commands
  pub each : All (λ c. IsScriptCall r.sessions c.call) r.commands
  pub read : r.read_sum ≡ sum_by (λ c. read_bytes c.call) r.commands
  pub written : r.write_sum ≡ sum_by (λ c. written_bytes c.call) r.commands
  pub lists : r.lists ≡ sum_by (λ c. list_count c.call) r.commands

-- the lowest number that a line with a call can have
abbrev pub first_call_line : (sessions : ℕ) → ℕ
first_call_line zero = 1
first_call_line (suc n) = 2

-- before the line with this number
pub record IsSound (r : Reading) (number : ℕ) : Type 0 where
  pub within : IsWithin r
  pub counted : IsCounted r
  pub few : length r.commands + first_call_line r.sessions ≤ number
  pub rising : RisesTo 0 number (map (λ c. c.number) r.commands)

-- what is read of a whole script
pub record IsWhole (r : Reading) : Type 0 where
  pub within : IsWithin r
  pub counted : IsCounted r
  pub few_calls : length r.commands ≤ most_calls
  pub some : 1 ≤ r.sessions
  pub rising : RisesTo 0 (most_lines + 1) (map (λ c. c.number) r.commands)

-- the refusal of a line
abbrev pub refusal_of : (number : ℕ) → LineFault → ScriptRefusal
refusal_of number (Bad w) = BadLine number w
refusal_of number OutOfMemory = NoMemory

-- want of memory can come at any time
abbrev pub IsNotRead : Result Reading ScriptRefusal → ScriptRefusal → Type 0
IsNotRead read TooLong = read ≡ Err TooLong
IsNotRead read (BadLine line w) = read ≡ Err (BadLine line w)
IsNotRead read (BadOrder line) = ⊥
IsNotRead read NoMemory = Unit {0}
