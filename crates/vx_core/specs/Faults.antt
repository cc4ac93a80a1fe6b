-- Where in a history the faults of the device are told.
use Rattle.std.specs.Prelude.{◌≡◌, ◌⊎◌, ℕ, true, List, [], ◌∷◌, ◌++◌, Option, Some, None, All}
use Rattle.vx_base.specs.declared.call.Call.{Call}
use Rattle.vx_base.specs.declared.event.Event.{Event}
use Rattle.vx_base.specs.declared.event.Event.TheVariants as event
use Rattle.vx_base.specs.declared.refusal.Refusal.TheVariants as no
use Rattle.vx_base.specs.declared.reply.Reply.TheVariants as say
use Rattle.vx_base.specs.Faults.{Rose}
use Rattle.vx_base.specs.Lines.{line_after}
use Rattle.vx_mount.specs.Cores.{is_end}
use Rattle.vx_mount.specs.Faults.{IsFaultless}
use Rattle.vx_mount.specs.Sessions.{answered}
use Rattle.vx_core.specs.Mounts.{MountView}
use Rattle.vx_core.specs.Tracks.{last_event}

-- no fault of the device is told
abbrev pub TellsNoFault : Event → Type 0
TellsNoFault (event.Do at session line call reply) = IsFaultless reply
TellsNoFault (event.Ret at place answer) = IsFaultless answer
TellsNoFault _ = Unit {0}

-- a call is done or answered with the refusal that so many failed writes disable the mount, after so many operations
abbrev pub TellsDisabled : (faults ops : ℕ) → Event → Type 0
TellsDisabled faults ops (event.Do at session line call reply) = (at ≡ ops) × (reply ≡ say.Refused (no.Disabled faults))
TellsDisabled faults ops (event.Ret at place answer) = (at ≡ ops) × (answer ≡ say.Refused (no.Disabled faults))
TellsDisabled faults ops _ = ⊥

-- A call is answered WriteFault after so many operations; where a write failed before the call was done, its reply is that too.
pub data IsStop (ops : ℕ) (events : List Event) : Type 0 where
  after_reply : (place : ℕ) → events ≡ event.Ret ops place (say.Refused no.WriteFault) ∷ [] → IsStop ops events
  before_reply : (session line place : ℕ) (call : Call) → events ≡ event.Do ops session line call (say.Refused no.WriteFault) ∷ event.Ret ops place (say.Refused no.WriteFault) ∷ [] → IsStop ops events

-- one call is answered WriteFault, no fault is told before, and from there on all is Disabled, without a further operation
pub record StopsAt (faults ops : ℕ) (history : List Event) : Type 0 where
  pub before : List Event
  pub stop : List Event
  pub after : List Event
  pub is : history ≡ before ++ stop ++ after
  pub fine : All TellsNoFault before
  pub is_stop : IsStop ops stop
  pub disabled : All (TellsDisabled faults ops) after

-- no session has a line left
abbrev pub AreOver : List (List Call) → List Event → Type 0
AreOver lines history = (s : ℕ) → line_after lines s (answered s history) ≡ None

-- between two turns: no fault is told; or the mount has stopped where the device now is; or the fault came in the unmount, which answers
-- no call
abbrev pub AreInOrder : Option ℕ → MountView → List (List Call) → Type 0
AreInOrder None v lines = All TellsNoFault v.history
AreInOrder (Some faults) v lines = (faults ≡ v.write_faults) × (StopsAt faults v.count v.history ⊎ (AreOver lines v.history × All TellsNoFault v.history))

-- the mount is disabled exactly where a write or barrier has failed since so many had
abbrev pub TellsFaults : (before now : ℕ) → (disabled : Option ℕ) → Type 0
TellsFaults before now None = now ≡ before
TellsFaults before now (Some faults) = Rose before now

-- what the history tells of the faults since so many writes had failed
pub record TellsInOrder (before : ℕ) (v : MountView) (lines : List (List Call)) : Type 0 where
  pub faults : TellsFaults before v.write_faults v.disabled
  pub order : AreInOrder v.disabled v lines
  -- a run that was stopped or unmounted was not disabled
  pub ended : is_end (last_event v.history) ≡ true → v.disabled ≡ None
