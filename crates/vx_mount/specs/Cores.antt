-- What a turn does to a core.
use Rattle.std.specs.Prelude.{◌≡◌, ◌≢◌, ◌⊎◌, ℕ, ◌+◌, ◌-◌, ◌<◌, ◌≤◌, Bool, true, false, ◌||◌, List, [], ◌∷◌, ◌++◌, All, length, slice_get, Option, Some, is_some}
use Rattle.vx_base.specs.declared.call.Call.TheVariants as call
use Rattle.vx_base.specs.declared.event.Event.{Event}
use Rattle.vx_base.specs.declared.event.Event.TheVariants as event
use Rattle.vx_base.specs.declared.mode.Logging.{Logging}
use Rattle.vx_base.specs.declared.waits.WaitsFor.TheVariants.{Lock, After}
use Rattle.vx_grammar.specs.Orders.{HasOrder}
use Rattle.vx_mount.specs.declared.turns.Turn.{Turn}
use Rattle.vx_mount.specs.declared.turns.Turn.TheVariants.{Turned, Finished, Blocked}
use Rattle.vx_model.specs.Legal.{World, at_of}
use Rattle.vx_mount.specs.Faults.{HasFailed}
use Rattle.vx_mount.specs.Pieces.{may_rest, stage_operations, IsTurn, Steps}
use Rattle.vx_mount.specs.Schedules.{continued}
use Rattle.vx_mount.specs.Sessions.{finished, waiting, ready, is_stopped}
use Rattle.vx_mount.specs.Views.{CoreView, standing_in, AllFinished}

-- where a history begins: the world, the failed writes of the device by then, and the mode
pub record Opening : Type 0 where
  pub world : World
  pub write_faults : ℕ
  pub logging : Logging

-- ---- turns

abbrev pub is_finished : Turn → Bool
is_finished Finished = true
is_finished _ = false

-- another session holds the lock, and this one holds the lock of no file; lock 0 is no file's
pub record WaitsForLock (v : CoreView) (actor ino holder : ℕ) : Type 0 where
  pub may_wait : may_rest v.lines v.history actor ≡ true
  pub held : slice_get v.locks ino ≡ Some (Some holder)
  pub other : holder ≢ actor
  pub holds_none : (i : ℕ) → 0 < i → slice_get v.locks i ≢ Some (Some actor)

-- why a session's turn did nothing
abbrev pub IsStuck : CoreView → ℕ → Turn → Type 0
IsStuck v actor Turned = ⊥
IsStuck v actor Finished = standing_in v actor ≡ finished
IsStuck v actor (Blocked (After session lines)) = standing_in v actor ≡ waiting session lines
IsStuck v actor (Blocked (Lock ino holder)) = (standing_in v actor ≡ ready) × WaitsForLock v actor ino holder

-- a session went on with its line
pub record GoesOn (old : CoreView) (actor : ℕ) (new : CoreView) : Type 0 where
  pub was_ready : standing_in old actor ≡ ready
  pub turn : IsTurn old actor new

-- what a turn of a session does; where it does nothing, why
abbrev pub TakesTurn : CoreView → ℕ → Turn → CoreView → Type 0
TakesTurn old actor Turned new = GoesOn old actor new
TakesTurn old actor answer new = (new ≡ old) × IsStuck old actor answer

-- what every core keeps, by which some session's turn always does something until all are finished
pub record CanGoOn (v : CoreView) : Type 0 where
  -- the script's lines have an order
  pub order : HasOrder v.lines
  -- until the run is stopped, only a session that could go on holds a lock
  pub holders : is_stopped v.history ≡ false → (ino holder : ℕ) → slice_get v.locks ino ≡ Some (Some holder) → (holder < length v.lines) × (standing_in v holder ≡ ready)

-- ---- a schedule

-- one turn of each of these sessions
pub record TakesTurns (old : CoreView) (actors : List ℕ) (new : CoreView) : Type 0 where
  pub steps : Steps old actors new
  pub same_lines : new.lines ≡ old.lines

-- The turns of a schedule, and then all sessions round and round until all are finished. A finished session's turns do nothing, so
-- where the last round is cut makes no difference.
pub record IsDriven (old : CoreView) (schedule : List ℕ) (new : CoreView) : Type 0 where
  pub rounds_taken : ℕ
  pub turns : TakesTurns old (continued schedule (length old.lines) rounds_taken) new
  pub ended : AllFinished new

-- ---- the unmount

abbrev pub is_end : Option Event → Bool
is_end (Some (event.Stopped at)) = true
is_end (Some (event.Unmounted at)) = true
is_end _ = false

-- nothing is left to do: the history ends with Stopped or Unmounted, or the mount is disabled
unfoldable pub has_ended : CoreView → Bool
has_ended v = is_end (slice_get v.history (length v.history - 1)) || is_some v.disabled

-- the Do is none of the unmount, or closes an earlier session's handle or a lower one of this session
abbrev pub ClosesBefore : (session handle : ℕ) → Event → Type 0
ClosesBefore session handle (event.Do at s line (call.Close h) reply) = line ≡ 0 → (s < session) ⊎ ((s ≡ session) × (h < handle))
ClosesBefore session handle _ = Unit {0}

-- what an event of the unmount may be behind this history: it closes handles, in order of session and handle, settles and releases,
-- and says so at the end
abbrev pub IsUnmountEvent : List Event → Event → Type 0
IsUnmountEvent history (event.Do at session line (call.Close handle) reply) = (line ≡ 0) × All (ClosesBefore session handle) history
IsUnmountEvent history (event.Settle at ino size) = Unit {0}
IsUnmountEvent history (event.Release at upto) = Unit {0}
IsUnmountEvent history (event.Unmounted at) = Unit {0}
IsUnmountEvent history _ = ⊥

abbrev pub AreUnmountEvents : List Event → List Event → Type 0
AreUnmountEvents history [] = Unit {0}
AreUnmountEvents history (e ∷ events) = IsUnmountEvent history e × AreUnmountEvents (history ++ e ∷ []) events

-- the history grew by events of the unmount alone
pub record UnmountsOn (old new : CoreView) : Type 0 where
  pub events : List Event
  pub grown : new.history ≡ old.history ++ events
  pub own : AreUnmountEvents old.history events
  pub onward : old.count ≤ new.count
  pub inside : All (λ e. (old.count ≤ at_of e) × (at_of e ≤ new.count)) events
  pub same_lines : new.lines ≡ old.lines
  pub same_logging : new.logging ≡ old.logging
  -- a failed write disables the mount
  pub failing : HasFailed old.disabled new.disabled old.count new.count old.write_faults new.write_faults
  pub still : AllFinished new

-- the unmount went on by at most one stage of the device
pub record IsUnmountTurn (old new : CoreView) : Type 0 where
  pub goes_on : has_ended old ≡ false
  pub on : UnmountsOn old new
  pub few : new.count ≤ old.count + stage_operations

abbrev pub TakesUnmountTurn : CoreView → Turn → CoreView → Type 0
TakesUnmountTurn old Turned new = IsUnmountTurn old new
TakesUnmountTurn old Finished new = (has_ended old ≡ true) × (new ≡ old)
TakesUnmountTurn old (Blocked why) new = ⊥

-- Nothing is left to do. Where the run had ended already, by a stop or in a disabled mount, nothing was done.
pub record IsUnmounted (old new : CoreView) : Type 0 where
  pub on : UnmountsOn old new
  pub ended : has_ended new ≡ true
  pub nothing : has_ended old ≡ true → new ≡ old
