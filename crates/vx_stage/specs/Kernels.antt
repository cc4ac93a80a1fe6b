-- What a staged kernel knows of its device.
use Rattle.std.specs.FinMap as map
use Rattle.std.specs.List.{AllByRecursion}
use Rattle.std.specs.Prelude.{◌^◌, ◌*◌, ◌≡◌, ◌⊎◌, ◌+◌, ◌<◌, ◌≤◌, ℕ, true, false, IsTrue, IsSome, IsNone, List, [], length, take, All, Option, Some, None, IfSome}
use Rattle.vx_dev.specs.Tape as dev
use Rattle.vx_dev.specs.Tape.{Tape, IsImage, IsInStep, MayHold, Settles}
use Rattle.vx_layout.specs.LogForms.{IsRecord, LogState, overlay_all, body_of, head_sector}
use Rattle.vx_layout.specs.Places.{block_sector, sectors_of}
use Rattle.vx_layout.specs.Supers.{IsSuper, super_bytes, volume_of}
use Rattle.vx_layout.specs.declared.superblock.Super.{Super}
use Rattle.vx_log.specs.Crashes.{Stands, Turns, IsDecided, IsCertainBody, IsHome}
use Rattle.vx_log.specs.Logs.{is_body_out}
use Rattle.vx_dev.specs.Moments.{Past}
use Rattle.vx_log.specs.Stages.{IsBodyPut, AreWritten}
use Rattle.vx_log.specs.declared.log.Closing.{Closing}
use Rattle.vx_log.specs.Batches.{noted_at}
use Rattle.vx_model.specs.AllowedLaws.{IsPlaced}
use Rattle.vx_model.specs.Contents.{parsed_of}
use Rattle.vx_model.specs.Images as images
use Rattle.vx_model.specs.Images.{Says, is_metadata, contents}
use Rattle.vx_wellformed.specs.WellFormed.{IsConsistent}
use Rattle.vx_model.specs.Legal.{World, Waiting, Legal, at_of, after_all}
use Rattle.vx_model.specs.Settled.{IsLeftSettled}
use Rattle.vx_model.specs.State.{State}
use Rattle.vx_model.specs.LaidOut.{HoldsData}
use Rattle.vx_model.specs.Waiting.{IsNamed}
use Rattle.vx_model.specs.Allowed.{HoldsFront, IsAllowed}
use Rattle.vx_stage.specs.Leads.{state_at}
use Rattle.vx_stage.specs.Leads.{Leads, IsYoung, AreYoung}
use Rattle.vx_stage.specs.declared.kernel.Job.{Job}
use Rattle.vx_stage.specs.declared.kernel.Job.TheVariants.{Idle, Body, BodyOut, Head, HeadOut, Homes, HomesOut, Tail, TailOut, Leave, LeaveOut, Left, Broken}
use Rattle.vx_stage.specs.declared.kernel.Kernel.{Kernel}

-- ---- sizes

-- the superblock while it is mounted
abbrev pub mounted_super : Super → Super
mounted_super v = record { log_blocks = v.log_blocks; units = v.units; clean = false }

-- the superblock once the file system is left
abbrev pub clean_super : Super → Super
clean_super v = record { log_blocks = v.log_blocks; units = v.units; clean = true }

abbrev pub log_size : Super → ℕ
log_size v = 2 * v.log_blocks

abbrev pub device_size : Super → ℕ
device_size v = sectors_of (volume_of v)

-- a sector of the units
abbrev pub IsInside : Super → ℕ × List ℕ → Type 0
IsInside v e = (4 + log_size v ≤ e.0) × (e.0 < device_size v)

pub record IsMounted (v : Super) (s : State) : Type 0 where
  pub consistent : IsConsistent s
  pub log_blocks : s.layout.log_blocks ≡ v.log_blocks
  pub units : s.layout.units ≡ v.units

-- ---- what the log stands for

-- the log's records stand for this state, and leave the superblock of a mounted file system as it is
pub record IsReadingOf (v : Super) (s : State) (r : LogState) : Type 0 where
  pub says : Says (volume_of v) (parsed_of s) r
  pub superblock : IsTrue (r.is_metadata 0)
  pub superblock_is : r.contents 0 ≡ super_bytes (mounted_super v)
  pub serial : r.serial < 2 ^ 64
  pub limit : r.head ≤ 2 ^ 62
  pub form : AllByRecursion (IsRecord (log_size v) (device_size v)) r.records
  pub unnamed : (x : List ℕ) → overlay_all r.records 0 x ≡ x

-- what is noted of a sector that the records name is what it is to hold; where nothing is noted, no record names it
abbrev pub IsNoted : LogState → ℕ → Option (List ℕ) → Type 0
IsNoted r s (Some image) = IsTrue (r.is_metadata s) × IsDecided r.records s × (image ≡ r.contents s)
IsNoted r s None = (x : List ℕ) → overlay_all r.records s x ≡ x

-- ---- an empty log

-- Whatever a crash leaves, the log is empty, the metadata is what the state says, and the superblock is that of a mounted file
-- system or of a clean one.
pub record IsLevel (v : Super) (s : State) (serial position : ℕ) (t : Tape) : Type 0 where
  pub metadata : (q : ℕ) (x : List ℕ) → IsTrue (is_metadata (volume_of v) (parsed_of s) q) → MayHold t q x → x ≡ contents (volume_of v) (parsed_of s) q
  pub head : (x : List ℕ) → MayHold t 2 x → x ≡ head_sector serial position position
  pub superblock : (x : List ℕ) → MayHold t 0 x → (x ≡ super_bytes (mounted_super v)) ⊎ (x ≡ super_bytes (clean_super v))
  pub serial_limit : serial < 2 ^ 64
  pub limit : position ≤ 2 ^ 62

-- ... of a mounted one, in every image
pub record IsBegun (v : Super) (s : State) (serial position : ℕ) (t : Tape) : Type 0 where
  pub level : IsLevel v s serial position t
  pub mounted : (x : List ℕ) → MayHold t 0 x → x ≡ super_bytes (mounted_super v)

-- What an image holds that was left clean: an empty log whose head sector says this serial and position, the metadata that the state
-- says, and the superblock of a clean file system.
pub record IsLeftAs (v : Super) (s : State) (serial position : ℕ) (image : ℕ → List ℕ) : Type 0 where
  pub metadata : images.Stands (volume_of v) (parsed_of s) image
  pub head : image 2 ≡ head_sector serial position position
  pub superblock : image 0 ≡ super_bytes (clean_super v)
  pub serial_limit : serial < 2 ^ 64
  pub limit : position ≤ 2 ^ 62

-- ---- the kernel in memory

-- the log has more sectors than are noted
abbrev pub IsFew : Kernel → Type 0
IsFew k = k.log.tail + length k.homes ≤ k.log.head

-- what is to be in memory for each job
abbrev pub JobFits : Job → Kernel → Type 0
JobFits Idle k = IsNone k.log.closing × (k.closing ≡ k.committed) × (k.ready ≡ Some []) × IsFew k
JobFits Body k = IsSome k.log.closing × IsFew k × (is_body_out k.log.closing ≡ false)
JobFits BodyOut k = IsTrue (is_body_out k.log.closing) × IsFew k
JobFits Head k = IsTrue (is_body_out k.log.closing) × IsFew k
JobFits HeadOut k = IsNone k.log.closing × (k.ready ≡ Some []) × IsFew k
JobFits (Homes put) k = IsNone k.log.closing × (k.closing ≡ k.committed) × (k.ready ≡ Some []) × (put < length k.homes) × IsFew k
JobFits HomesOut k = IsNone k.log.closing × (k.closing ≡ k.committed) × (k.ready ≡ Some []) × IsFew k
JobFits Tail k = IsNone k.log.closing × (k.closing ≡ k.committed) × (k.ready ≡ Some []) × IsFew k
JobFits TailOut k = IsNone k.log.closing × (k.closing ≡ k.committed) × (k.ready ≡ Some []) × (k.homes ≡ []) × IsFew k
JobFits Leave k = IsNone k.log.closing × (k.closing ≡ k.committed) × (k.committed ≡ length k.history.items) × (k.homes ≡ []) × (k.gathered ≡ [])
JobFits LeaveOut k = IsNone k.log.closing × (k.closing ≡ k.committed) × (k.committed ≡ length k.history.items) × (k.homes ≡ []) × (k.gathered ≡ [])
JobFits Left k = Unit {0}
JobFits Broken k = Unit {0}

-- what the kernel keeps in memory, whatever its device
pub record IsFitAlone (k : Kernel) : Type 0 where
  pub sizes : IsSuper k.sizes
  pub sectors : k.log.sectors ≡ log_size k.sizes
  pub homes : All (IsInside k.sizes) k.homes
  pub gathered : All (IsInside k.sizes) k.gathered
  pub batch : IfSome k.log.closing (λ c. All (IsInside k.sizes) c.batch)
  pub job : JobFits k.job k

pub record IsFit (d : dev.State) (k : Kernel) : Type 0 where
  pub sizes : IsSuper k.sizes
  pub sectors : k.log.sectors ≡ log_size k.sizes
  pub device : device_size k.sizes ≤ d.size
  pub homes : All (IsInside k.sizes) k.homes
  pub gathered : All (IsInside k.sizes) k.gathered
  pub batch : IfSome k.log.closing (λ c. All (IsInside k.sizes) c.batch)
  pub job : JobFits k.job k

-- ---- the history

abbrev pub present : World → Kernel → State
present o k = (after_all o k.history.items).state

pub record HasRun (o : World) (d : dev.State) (k : Kernel) : Type 0 where
  pub legal : Legal o k.history.items
  pub next : (after_all o k.history.items).next ≡ length k.history.items
  pub at : (after_all o k.history.items).at ≤ d.count
  pub come : All (λ e. at_of e ≤ d.count) k.history.items
  pub placed : All (IsPlaced (length k.history.items)) k.history.items
  -- a call that is not answered yet stands in it
  pub waiting : (place : ℕ) (v : Waiting) → map.get (after_all o k.history.items).waiting place ≡ Some v → place < length k.history.items
  -- the committed and the closing state are prefixes of it, and the first has what has returned
  pub order : k.committed ≤ k.closing
  pub within : k.closing ≤ length k.history.items
  pub durable : (m : ℕ) → HoldsFront k.logging k.history.items m k.committed
  -- each prefix leads to a state that the device can hold, in which blocks that still wait have waited
  pub mounted : (i : ℕ) → i ≤ length k.history.items → IsMounted k.sizes (state_at o k.history.items i)
  pub mounted_now : IsMounted k.sizes (present o k)
  -- a block that holds metadata behind a later prefix than the committed one does so still, or waits for an event behind that prefix
  pub named : (i b : ℕ) → k.committed ≤ i → i ≤ length k.history.items → IsNamed (state_at o k.history.items i) b → IsYoung (present o k) i b
  pub waits : (i b p : ℕ) → i ≤ length k.history.items → (present o k).layout.pending b ≡ Some p → p < i → (state_at o k.history.items i).layout.pending b ≡ Some p
  -- blocks wait for events that have come
  pub pending : (b p : ℕ) → (present o k).layout.pending b ≡ Some p → p < length k.history.items

-- ---- the device

-- the log stands for the state after i events
pub record IsLogOf (o : World) (k : Kernel) (i : ℕ) (r : LogState) : Type 0 where
  pub reading : IsReadingOf k.sizes (state_at o k.history.items i) r
  pub serial : r.serial ≡ k.log.serial
  pub tail : r.tail ≡ k.log.tail
  pub head : r.head ≡ k.log.head
  pub noted : (q : ℕ) → IsNoted r q (noted_at k.homes q)
  -- no block that may hold bytes was metadata since the log was empty
  pub apart : (b j : ℕ) → HoldsData (present o k).layout b → j < 2 → r.is_metadata (block_sector 2 b + j) ≡ false
  -- the open batch leads from the closing state to the present one, and the closing batch from the committed to the closing one
  pub leads : Leads (volume_of k.sizes) (parsed_of (state_at o k.history.items k.closing)) (parsed_of (present o k)) k.gathered
  pub young : AreYoung (present o k) k.closing k.gathered
  pub batch_leads : (c : Closing) → k.log.closing ≡ Some c → Leads (volume_of k.sizes) (parsed_of (state_at o k.history.items k.committed)) (parsed_of (state_at o k.history.items k.closing)) c.batch
  pub batch_young : (c : Closing) → k.log.closing ≡ Some c → AreYoung (present o k) k.committed c.batch

-- A head sector is written whose barrier is owed: images read as the committed state by the old reading, or by the new one.
pub record IsTurning (o : World) (k : Kernel) (r : LogState) (t : Tape) : Type 0 where
  pub old : LogState
  pub reading : IsReadingOf k.sizes (state_at o k.history.items k.committed) old
  pub turns : Turns (log_size k.sizes) old r t

abbrev pub Now : Kernel → Job → World → LogState → Tape → Type 0
Now k Idle o r t = IsLogOf o k k.committed r × Stands (log_size k.sizes) r t
Now k Body o r t = IsLogOf o k k.committed r × Stands (log_size k.sizes) r t × ((c : Closing) → k.log.closing ≡ Some c → IsBodyPut (log_size k.sizes) r c.batch c.written t)
Now k BodyOut o r t = IsLogOf o k k.committed r × Stands (log_size k.sizes) r t × ((c : Closing) → k.log.closing ≡ Some c → IsBodyPut (log_size k.sizes) r c.batch c.written t)
Now k Head o r t = IsLogOf o k k.committed r × Stands (log_size k.sizes) r t × ((c : Closing) → k.log.closing ≡ Some c → IsCertainBody (log_size k.sizes) r.head (body_of r.head c.batch) t)
Now k HeadOut o r t = IsLogOf o k k.closing r × IsTurning o k r t
Now k (Homes put) o r t = IsLogOf o k k.committed r × AreWritten (log_size k.sizes) r (take put k.homes) t
Now k HomesOut o r t = IsLogOf o k k.committed r × AreWritten (log_size k.sizes) r k.homes t
Now k Tail o r t = IsLogOf o k k.committed r × Stands (log_size k.sizes) r t × IsHome r t
Now k TailOut o r t = IsLogOf o k k.committed r × IsTurning o k r t
Now k Leave o r t = IsLevel k.sizes (state_at o k.history.items k.committed) k.log.serial k.log.head t
Now k LeaveOut o r t = IsLevel k.sizes (state_at o k.history.items k.committed) k.log.serial k.log.head t × Settles t 0 (super_bytes (clean_super k.sizes))
Now k Left o r t = IsLevel k.sizes (state_at o k.history.items k.committed) k.log.serial k.log.head t × IsLeftSettled (state_at o k.history.items k.committed) t
Now k Broken o r t = (image : ℕ → List ℕ) → IsImage t image → IsAllowed k.logging o k.history.items (length t.ops) image

-- each image of an earlier moment is allowed, and this is known of those of now
pub record IsLive (o : World) (k : Kernel) (t : Tape) : Type 0 where
  pub past : Past k.first (IsAllowed k.logging o k.history.items) t
  pub reading : LogState
  pub now : Now k k.job o reading t
