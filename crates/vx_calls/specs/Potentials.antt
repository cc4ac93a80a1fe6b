-- What a mount still does by itself: how many stages, and how many releases.
use Rattle.std.specs.Prelude.{◌≡◌, ◌⊎◌, ◌&&◌, ◌==◌, ◌+◌, ◌-◌, ◌^◌, ◌<◌, ◌≤◌, ℕ, Bool, true, false, List, [], ◌∷◌, length, Option, None, Some, Result, Ok, Err, is_some, nat_lt, if◌then◌else◌}
use Rattle.vx_dev.specs.Tape as dev
use Rattle.vx_layout.specs.LogForms.{log_length}
use Rattle.vx_log.specs.Logs.{LogView}
use Rattle.vx_log.specs.declared.log.Closing.{Closing}
use Rattle.vx_stage.specs.Staged.{closing_batch}
use Rattle.vx_stage.specs.declared.kernel.Job.{Job}
use Rattle.vx_stage.specs.declared.kernel.Job.TheVariants.{Idle, Body, BodyOut, Head, HeadOut, Homes, HomesOut, Tail, TailOut, Leave, LeaveOut, Left, Broken}
use Rattle.vx_stage.specs.declared.kernel.Kernel.{Kernel}
use Rattle.vx_txn.specs.declared.meta.Meta.{Meta}
use Rattle.vx_calls.specs.declared.asked.Asked.{Asked}
use Rattle.vx_calls.specs.declared.asked.Asked.TheVariants as asked
use Rattle.vx_calls.specs.declared.mount.Mount.{Mount}
use Rattle.vx_calls.specs.declared.mount.Performed.{Performed}
use Rattle.vx_calls.specs.declared.mount.Performed.TheVariants.{Again, Done}

abbrev pub flag : Bool → ℕ
flag b = if b then 1 else 0

-- a block of the list waits
unfoldable pub is_waiting : List (Option ℕ) → Bool
is_waiting [] = false
is_waiting (None ∷ places) = is_waiting places
is_waiting (Some place ∷ places) = true

-- 1 where a block waits to be free
abbrev pub waits : Meta → ℕ
waits m = flag (is_waiting m.free.pending)

-- ---- stages

-- the log sectors of the closing batch that are not written
abbrev pub unwritten : Option Closing → ℕ
unwritten None = 0
unwritten (Some c) = log_length (length c.batch) - c.written

-- what the open batch adds: it is closed, written to the log and written home
unfoldable pub batch_owed : ℕ → ℕ
batch_owed n = if n == 0 then 0 else log_length n + n + 10

-- a log that is empty, and need not restart
abbrev pub is_level : LogView → Bool
is_level log = (log.tail == log.head) && nat_lt log.head (2 ^ 61)

-- what a log adds that is not being emptied: the noted sectors are written home
unfoldable pub log_owed : LogView → ℕ → ℕ
log_owed log homes = if is_level log then 0 else homes + 6

-- So many stages at most are to come, with so many noted sectors, so many of the open batch, and this of the blocks that wait.
unfoldable pub owed_by : LogView → (homes gathered : ℕ) → Job → (waiting : ℕ) → ℕ
owed_by log homes gathered Idle waiting = 3 + batch_owed gathered + log_owed log homes + waiting
owed_by log homes gathered Body waiting = 13 + unwritten log.closing + length (closing_batch log.closing) + batch_owed gathered + log_owed log homes + waiting
owed_by log homes gathered BodyOut waiting = 12 + length (closing_batch log.closing) + batch_owed gathered + log_owed log homes + waiting
owed_by log homes gathered Head waiting = 11 + length (closing_batch log.closing) + batch_owed gathered + log_owed log homes + waiting
owed_by log homes gathered HeadOut waiting = 4 + batch_owed gathered + log_owed log homes + waiting
owed_by log homes gathered (Homes put) waiting = 7 + (homes - put) + batch_owed gathered + waiting
owed_by log homes gathered HomesOut waiting = 6 + batch_owed gathered + waiting
owed_by log homes gathered Tail waiting = 5 + batch_owed gathered + waiting
owed_by log homes gathered TailOut waiting = 4 + batch_owed gathered + log_owed log homes + waiting
owed_by log homes gathered Leave waiting = 2
owed_by log homes gathered LeaveOut waiting = 1
owed_by log homes gathered Left waiting = 0
owed_by log homes gathered Broken waiting = 0

abbrev pub kernel_owed : Kernel → ℕ → ℕ
kernel_owed k waiting = owed_by k.log (length k.homes) (length k.gathered) k.job waiting

-- a bound on the stages and releases that the mount still does where no call comes
abbrev pub owed : Mount → ℕ
owed m = kernel_owed m.kernel (waits m.meta)

-- by so much the transaction of a call raises it at most
abbrev pub per_transaction : ℕ
per_transaction = 814

-- ... and by so much a call, whose blocks may wait
abbrev pub per_call : ℕ
per_call = 815

-- ---- releases

-- One for each of these: an open batch, a batch that is being written, noted sectors, sectors that were written home, and blocks that
-- wait. None is noted once a write has failed, or the file system is left.
unfoldable pub debt_by : Job → (gathered : ℕ) → Option Closing → (homes : ℕ) → (due : Bool) → (waiting : ℕ) → ℕ
debt_by Broken gathered closing homes due waiting = 0
debt_by Left gathered closing homes due waiting = 0
debt_by _ gathered closing homes due waiting = flag (nat_lt 0 gathered) + flag (is_some closing) + flag (nat_lt 0 homes) + flag due + waiting

abbrev pub kernel_debt : Kernel → Bool → ℕ → ℕ
kernel_debt k due waiting = debt_by k.job (length k.gathered) k.log.closing (length k.homes) due waiting

-- so many releases may still come of what has come
abbrev pub debt : Mount → ℕ
debt m = kernel_debt m.kernel m.due (waits m.meta)

-- the length of the history with them
abbrev pub promised : Mount → ℕ
promised m = length m.kernel.history.items + debt m

-- ---- what a turn comes to

-- the Unmounted with which the file system is left
abbrev pub last_events : {E : Type 0} → Result Bool E → ℕ
last_events (Ok left) = flag left
last_events (Err e) = 0

-- a stage came first, or blocks were released
pub record HasWorked (d e : dev.State) (old new : Mount) : Type 0 where
  pub less : owed new < owed old
  pub promised : promised new ≤ promised old
  pub works : (d.count < e.count) ⊎ (length new.kernel.history.items ≡ length old.kernel.history.items + 1)

-- A call was done in memory, which raises both by so much at most. Where no write has failed meanwhile, the device is as it was.
pub record HasRaised (stages releases : ℕ) (d e : dev.State) (old new : Mount) : Type 0 where
  pub owed : owed new ≤ owed old + stages
  pub promised : promised new ≤ promised old + releases
  pub quiet : new.disabled ≡ old.disabled → e ≡ d

abbrev pub AsksOf : (d e : dev.State) (old new : Mount) → Asked → Type 0
AsksOf d e old new asked.Again = HasWorked d e old new
AsksOf d e old new (asked.Replied reply copy) = HasRaised 1 1 d e old new

abbrev pub TurnsBy : (d e : dev.State) (old new : Mount) → Performed → Type 0
TurnsBy d e old new Again = HasWorked d e old new
TurnsBy d e old new (Done place answer commits) = HasRaised per_call 3 d e old new
