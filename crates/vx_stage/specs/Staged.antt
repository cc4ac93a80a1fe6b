-- What each stage does to the kernel in memory, where the device takes it.
use Rattle.std.specs.Prelude.{◌≡◌, ◌≢◌, ◌⊎◌, Bool, true, false, ◌==◌, ◌+◌, ◌^◌, ◌<◌, ℕ, [], length, min, nat_lt, Option, Some, None, if◌then◌else◌, List}
use Rattle.vx_layout.specs.LogForms.{AfterImage}
use Rattle.vx_log.specs.Batches.{with_notes}
use Rattle.vx_log.specs.Logs.{after_stage, is_body_out, closed, opened, advanced, restarted}
use Rattle.vx_log.specs.declared.log.Closing.{Closing}
use Rattle.vx_stage.specs.declared.kernel.Job.{Job}
use Rattle.vx_stage.specs.declared.kernel.Job.TheVariants.{Idle, Body, BodyOut, Head, HeadOut, Homes, HomesOut, Tail, TailOut, Leave, LeaveOut, Left, Broken}
use Rattle.vx_stage.specs.declared.kernel.Kernel.{Kernel}

abbrev pub closing_batch : Option Closing → List AfterImage
closing_batch None = []
closing_batch (Some c) = c.batch

-- so many of the noted sectors are written home
abbrev pub homes_to : ℕ → ℕ → Job
homes_to put count = if put == count then HomesOut else Homes put

-- what comes first where the log is emptied: the tail can move at once where nothing is noted
abbrev pub homes_from : List AfterImage → Job
homes_from homes = if 0 == length homes then Tail else Homes 0

-- a stage of this job does an operation on the device
abbrev pub has_stage : Job → Bool
has_stage Idle = false
has_stage LeaveOut = false
has_stage Left = false
has_stage Broken = false
has_stage _ = true

-- the kernel once the next stage of this job is done
abbrev pub staged : Kernel → Job → Kernel
staged k Body = record k { log = record k.log { closing = after_stage k.log.closing }; job = if is_body_out (after_stage k.log.closing) then BodyOut else Body }
staged k BodyOut = record k { job = Head }
staged k Head = record k { log = record (opened k.log) { spare = false }; homes = with_notes k.homes (closing_batch k.log.closing); ready = Some []; job = HeadOut }
staged k HeadOut = record k { job = Idle; committed = k.closing }
staged k (Homes put) = record k { job = homes_to (min (put + 8) (length k.homes)) (length k.homes) }
staged k HomesOut = record k { job = Tail }
staged k Tail = record k { log = if nat_lt k.log.head (2 ^ 61) then advanced k.log k.log.head else restarted k.log; homes = []; job = TailOut }
staged k TailOut = record k { job = Idle }
staged k Leave = record k { job = LeaveOut }
staged k _ = k

-- ---- what a wish begins

-- all that has come is committed
abbrev pub raised : Kernel → Kernel
raised k = record k { committed = length k.history.items; closing = length k.history.items }

-- the log is to be emptied
abbrev pub emptying : Kernel → Kernel
emptying k = record k { job = homes_from k.homes }

-- the open batch is to be written, and calls join an empty one
abbrev pub batched : Kernel → Kernel
batched k = record k { log = closed k.log k.gathered; gathered = []; job = Body; closing = length k.history.items }

-- a commit begins with the open batch, which is not empty, or with the emptying of the log
pub record BeginsCommit (old new : Kernel) : Type 0 where
  pub some : 0 < length old.gathered
  pub is : (new ≡ record (batched old) { ready = new.ready }) ⊎ (new ≡ emptying old)

-- ... and what else comes before blocks are released: the emptying of the log
pub record BeginsEmptying (old new : Kernel) : Type 0 where
  pub none : old.gathered ≡ []
  pub is : new ≡ emptying (raised old)

abbrev pub BeginsRelease : (old new : Kernel) → Type 0
BeginsRelease old new = BeginsCommit old new ⊎ (BeginsEmptying old new × (0 < length old.homes))

pub record BeginsLeaving (old new : Kernel) : Type 0 where
  pub none : old.gathered ≡ []
  pub is : new ≡ record (raised old) { job = Leave }

abbrev pub BeginsClean : (old new : Kernel) → Type 0
BeginsClean old new = BeginsCommit old new ⊎ ((BeginsEmptying old new × (old.log.tail ≢ old.log.head)) ⊎ BeginsLeaving old new)
