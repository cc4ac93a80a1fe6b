-- What a core sees of its mount and device.
use Rattle.std.specs.Prelude.{◌≡◌, ◌⊎◌, ◌+◌, ◌-◌, ◌≤◌, ◌<◌, ℕ, Bool, true, false, List, [], ◌∷◌, ◌++◌, length, set, Option, None, Some, IfSome, IsSome, if◌then◌else◌}
use Rattle.std.specs.FinMap as map
use Rattle.vx_base.specs.declared.call.Call.{Call}
use Rattle.vx_base.specs.declared.call.Call.TheVariants as call
use Rattle.vx_base.specs.declared.event.Event.{Event}
use Rattle.vx_base.specs.declared.event.Event.TheVariants as event
use Rattle.vx_base.specs.declared.mode.Logging.{Logging}
use Rattle.vx_base.specs.declared.reply.Reply.{Reply}
use Rattle.vx_base.specs.Lines.{lines_of, line_after}
use Rattle.vx_mount.specs.Faults as turn
use Rattle.vx_mount.specs.Faults.{TellsFault}
use Rattle.vx_mount.specs.Pieces.{stage_operations}
use Rattle.vx_model.specs.Allowed.{call_at, has_front, is_refusal}
use Rattle.vx_model.specs.Legal.{World, in_use, stopping, RetAllowed, after_all, is_idle}
use Rattle.vx_core.specs.declared.calls.Performed.{Performed}
use Rattle.vx_core.specs.declared.calls.Performed.TheVariants.{Again, Done}

pub record MountView : Type 0 where
  pub history : List Event
  -- the operations of the device
  pub count : ℕ
  -- its failed writes
  pub write_faults : ℕ
  -- the device's failed writes at the first one in this mount
  pub disabled : Option ℕ
  pub logging : Logging
  -- so many events of the history a crash leaves at least
  pub committed : ℕ
  -- the superblock of a clean file system is being written
  pub leaving : Bool
  -- the history has room for so many events more, beside the releases that the mount may still note by itself
  pub spare : ℕ

-- ---- what may be asked of it

abbrev pub IsInUse : World → MountView → Type 0
IsInUse o v = (after_all o v.history).phase ≡ in_use

-- the mount keeps what it does for some World, from which on it is in use
pub record IsUsed (kept : World → Type 0) (v : MountView) : Type 0 where
  pub opening : World
  pub keeps : kept opening
  pub used : IsInUse opening v

-- the session may begin its line of this number now
pub record MayBegin (o : World) (v : MountView) (session line : ℕ) : Type 0 where
  pub mounted : IsInUse o v
  pub numbered : 0 < line
  pub idle : is_idle (after_all o v.history) session ≡ true

-- The call at this place may be answered so: with success only once its front is committed, and in a disabled mount not at all.
pub record MayAnswer (o : World) (v : MountView) (place : ℕ) (answer : Reply) : Type 0 where
  pub mounted : IsInUse o v
  pub allowed : RetAllowed (map.get (after_all o v.history).waiting place) answer
  pub earned : is_refusal answer ≡ false → IfSome (call_at v.history place) (λ c. has_front v.logging c ≡ true → place < v.committed)
  pub refused : IsSome v.disabled → is_refusal answer ≡ true

-- a Stop is answered, so that the run may end
abbrev pub MayStop : World → MountView → Type 0
MayStop o v = (after_all o v.history).phase ≡ stopping

pub record IsStoppable (kept : World → Type 0) (v : MountView) : Type 0 where
  pub opening : World
  pub keeps : kept opening
  pub may : MayStop opening v

-- each call is answered, so the file system may be left
pub record IsOver (o : World) (v : MountView) : Type 0 where
  pub waiting : map.len (after_all o v.history).waiting ≡ 0
  pub mounted : IsInUse o v

pub record IsLeavable (kept : World → Type 0) (v : MountView) : Type 0 where
  pub opening : World
  pub keeps : kept opening
  pub over : IsOver opening v

-- ---- what it does

-- how failed writes disable a mount
abbrev pub HasFailed : (before now : Option ℕ) → (old new : MountView) → Type 0
HasFailed before now old new = turn.HasFailed before now old.count new.count old.write_faults new.write_faults

-- at most one stage of the device
pub record IsStage (old new : MountView) : Type 0 where
  pub logging : new.logging ≡ old.logging
  pub later : old.count ≤ new.count
  pub few : new.count ≤ old.count + stage_operations
  pub failing : HasFailed old.disabled new.disabled old new

-- the blocks that waited were released, or none were
abbrev pub releases : Bool → (at upto : ℕ) → List Event
releases released at upto = if released then event.Release at upto ∷ [] else []

-- the history grew by a Release at most, at this moment
pub record Released (old new : List Event) (at : ℕ) : Type 0 where
  pub released : Bool
  pub upto : ℕ
  pub is : new ≡ old ++ releases released at upto

-- the session's line after so many was done: the Do stands last in the history, and its line was moved there
pub record HasDone (old new : MountView) (lines later : List (List Call)) (session answered place : ℕ) (answer : Reply) (commits : Bool) : Type 0 where
  pub done : Call
  pub line : line_after lines session answered ≡ Some done
  pub place_is : place ≡ length old.history
  pub history : new.history ≡ old.history ++ event.Do new.count session (answered + 1) done answer ∷ []
  pub moved : later ≡ set lines session (set (lines_of lines session) answered call.Sync)
  pub commits_is : commits ≡ has_front old.logging done
  pub tells : TellsFault old.disabled new.disabled new.write_faults answer
  -- unless a write failed, nothing was done on the device
  pub quiet : new.disabled ≡ old.disabled → new.count ≡ old.count
  pub room : old.spare ≤ new.spare + 3

-- a stage, or the release of blocks, came first, that makes room for the call
pub record HasMadeRoom (old new : MountView) : Type 0 where
  pub history : Released old.history new.history new.count
  pub works : (old.count < new.count) ⊎ (length old.history < length new.history)
  pub room : old.spare ≤ new.spare
  pub enabled : old.disabled ≡ None
  pub still : new.disabled ≡ None

abbrev pub HasPerformed : (old new : MountView) (lines later : List (List Call)) (session answered : ℕ) → Performed → Type 0
HasPerformed old new lines later session answered Again = HasMadeRoom old new × (later ≡ lines)
HasPerformed old new lines later session answered (Done place answer commits) = HasDone old new lines later session answered place answer commits

-- what is still to do behind the first turns of a call: less where a stage came first
abbrev pub OwesBehind : (per_call old new : ℕ) → Performed → Type 0
OwesBehind per_call old new Again = new < old
OwesBehind per_call old new (Done place answer commits) = new ≤ old + per_call

-- an event was added, and nothing else is changed
abbrev pub noted : MountView → Event → MountView
noted v e = record v { history = v.history ++ e ∷ []; spare = v.spare - 1 }

-- what one turn of leaving the file system adds to the history
abbrev pub leaves : Bool → (released : Bool) → (at upto : ℕ) → List Event
leaves true released at upto = event.Unmounted at ∷ []
leaves false released at upto = releases released at upto

-- ---- calls that can be done

abbrev pub IsBuilt : (Call → Type 0) → Option Call → Type 0
IsBuilt built None = ⊥
IsBuilt built (Some c) = built c
