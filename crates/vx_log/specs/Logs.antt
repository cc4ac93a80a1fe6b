-- The intent log as its callers see it.
use Rattle.std.specs.Prelude.{◌≡◌, ◌⊎◌, ◌==◌, ◌&&◌, ◌≤◌, ◌+◌, ◌%◌, ◌^◌, min, ℕ, zero, suc, Bool, true, false, List, [], ◌∷◌, ◌++◌, length, filter, nat_le, Option, Some, None, IfSome, is_none, All, Contains, slice_range}
use Rattle.vx_layout.specs.LogForms.{AfterImage, IsHomeSector, log_length, body_of}
use Rattle.vx_log.specs.Batches.{IsBatch}
use Rattle.vx_log.specs.Writes.{log_writes}
use Rattle.vx_log.specs.declared.log.Closing.{Closing}

-- What a log is: the number of its sectors, what its head sector says, the positions at which the batches between tail and head
-- begin, the batch that is being written with how many of its log sectors are, and whether the room of the last batch is still here.
pub record LogView : Type 0 where
  pub sectors : ℕ
  pub serial : ℕ
  pub tail : ℕ
  pub head : ℕ
  pub starts : List ℕ
  pub closing : Option Closing
  pub spare : Bool

-- the serial of the next head sector: it counts modulo 2 ^ 64
abbrev pub next_serial : ℕ → ℕ
next_serial serial = (serial + 1) % 2 ^ 64

-- batches begin at start and at each of these positions, and take two log sectors at least
abbrev pub AreAfter : ℕ → List ℕ → ℕ → Type 0
AreAfter start [] head = start + 2 ≤ head
AreAfter start (next ∷ starts) head = (start + 2 ≤ next) × AreAfter next starts head

-- batches that begin at these positions fill the log from tail to head
abbrev pub AreStarts : ℕ → List ℕ → ℕ → Type 0
AreStarts tail [] head = tail ≡ head
AreStarts tail (start ∷ starts) head = (tail ≡ start) × AreAfter start starts head

-- what each batch is that is being written into a log of n sectors
pub record IsClosing (n tail head : ℕ) (closing : Closing) : Type 0 where
  pub batch : IsBatch closing.batch
  pub homes : All (λ e. IsHomeSector n e.0) closing.batch
  pub room : head + log_length (length closing.batch) ≤ tail + n
  pub limit : head + log_length (length closing.batch) ≤ 2 ^ 62
  pub written : closing.written ≤ log_length (length closing.batch)

-- what each log is
pub record IsLog (log : LogView) : Type 0 where
  pub small : 512 ≤ log.sectors
  pub large : log.sectors ≤ 4096
  pub starts : AreStarts log.tail log.starts log.head
  pub fits : log.head ≤ log.tail + log.sectors
  pub limit : log.head ≤ 2 ^ 62
  pub closing : IfSome log.closing (IsClosing log.sectors log.tail log.head)

-- a log on a new image
abbrev pub fresh_log : ℕ → LogView
fresh_log n = record { sectors = n; serial = 1; tail = 0; head = 0; starts = []; closing = None; spare = false }

-- the log with this batch to be written
abbrev pub closed : LogView → List AfterImage → LogView
closed log batch = record log { closing = Some (record { batch = batch; written = 0 }) }

-- the number of log sectors of the batch that is being written
abbrev pub closing_length : Option Closing → ℕ
closing_length None = 0
closing_length (Some c) = log_length (length c.batch)

-- up to which of those the next stage writes
abbrev pub stage_end : Closing → ℕ
stage_end c = min (c.written + 8) (log_length (length c.batch))

-- the writes of the next stage
abbrev pub stage_writes : ℕ → ℕ → Option Closing → List (ℕ × List ℕ)
stage_writes n head None = []
stage_writes n head (Some c) = log_writes n (head + c.written) (slice_range (body_of head c.batch) c.written (stage_end c))

-- the batch after that stage
abbrev pub after_stage : Option Closing → Option Closing
after_stage None = None
after_stage (Some c) = Some (record { batch = c.batch; written = stage_end c })

-- a batch is being written, and all of its log sectors are
abbrev pub is_body_out : Option Closing → Bool
is_body_out None = false
is_body_out (Some c) = c.written == log_length (length c.batch)

-- the positions at which batches begin, with that of one more of so many log sectors; a batch without any begins nowhere
abbrev pub with_start : List ℕ → ℕ → ℕ → List ℕ
with_start starts at zero = starts
with_start starts at (suc k) = starts ++ at ∷ []

-- the log after the head sector with the new batch is written
abbrev pub opened : LogView → LogView
opened log = record {
  sectors = log.sectors;
  serial = next_serial log.serial;
  tail = log.tail;
  head = log.head + closing_length log.closing;
  starts = with_start log.starts log.head (closing_length log.closing);
  closing = None;
  spare = true;
}

-- batches end at this position, or begin there
abbrev pub IsBoundary : LogView → ℕ → Type 0
IsBoundary log to = (to ≡ log.head) ⊎ Contains log.starts to

-- the log after the head sector with this tail is written
abbrev pub advanced : LogView → ℕ → LogView
advanced log to = record log { serial = next_serial log.serial; tail = to; starts = filter (λ start. nat_le to start) log.starts }

-- the log after the head sector with both positions at 0 is written
abbrev pub restarted : LogView → LogView
restarted log = record log { serial = next_serial log.serial; tail = 0; head = 0; starts = [] }

-- there is an empty batch to be handed back
abbrev pub has_spare : LogView → Bool
has_spare log = is_none log.closing && log.spare
