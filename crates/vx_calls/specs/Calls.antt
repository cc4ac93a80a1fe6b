-- What a turn of a call comes to.
use Rattle.std.specs.Prelude.{◌≡◌, ◌≢◌, ◌⊎◌, ◌+◌, ◌≤◌, ℕ, Bool, true, false, List, [], ◌∷◌, ◌++◌, length, set, Option, None, Some, IsSome}
use Rattle.vx_base.specs.declared.call.Call.{Call}
use Rattle.vx_base.specs.declared.call.Call.TheVariants as call
use Rattle.vx_base.specs.declared.event.Event.TheVariants as event
use Rattle.vx_base.specs.declared.refusal.Refusal.{Refusal}
use Rattle.vx_base.specs.declared.refusal.Refusal.TheVariants as no
use Rattle.vx_base.specs.declared.reply.Reply.{Reply}
use Rattle.vx_base.specs.declared.reply.Reply.TheVariants as say
use Rattle.vx_base.specs.Faults.{Rose}
use Rattle.vx_base.specs.Lines.{lines_of, line_after}
use Rattle.vx_dev.specs.Tape as dev
use Rattle.vx_dev.specs.Moments.{Told}
use Rattle.vx_model.specs.Allowed.{has_front}
use Rattle.vx_model.specs.LaidOut.{IsLaidOut, IsPlain}
use Rattle.vx_model.specs.Legal.{World, IfThere, unmounted, after_all, is_fault, is_no_space}
use Rattle.vx_model.specs.State.{State}
use Rattle.vx_model.specs.Step.{step, is_of_names}
use Rattle.vx_model.specs.Touching.{Touched, IsTouched, untouched}
use Rattle.vx_stage.specs.Growths.{called_state}
use Rattle.vx_stage.specs.Kernels.{IsFit, HasRun, IsLive, present}
use Rattle.vx_stage.specs.declared.kernel.Job.TheVariants.{Left, Broken}
use Rattle.vx_txn.specs.Calls.{HasMode, most}
use Rattle.vx_txn.specs.Metas.{IsStateOf}
use Rattle.vx_calls.specs.declared.mount.Mount.{Mount}
use Rattle.vx_calls.specs.declared.asked.Asked.{Asked}
use Rattle.vx_calls.specs.declared.asked.Asked.TheVariants as asked
use Rattle.vx_calls.specs.declared.mount.Performed.{Performed}
use Rattle.vx_calls.specs.declared.mount.Performed.TheVariants.{Again, Done}
use Rattle.vx_calls.specs.Mounts.{IsAt, Released}

-- the session has such a line, and it is one that can be done
abbrev pub IsBuilt : Option Call → Type 0
IsBuilt None = ⊥
IsBuilt (Some c) = (is_of_names c ≡ true) × HasMode c

-- ---- whose fault it is

-- a refusal that a fault of the device has caused, in this call or an earlier one
abbrev pub is_of_device : Refusal → Bool
is_of_device no.ReadFault = true
is_of_device no.WriteFault = true
is_of_device (no.Disabled faults) = true
is_of_device _ = false

abbrev pub IsFaultless : Reply → Type 0
IsFaultless (say.Refused why) = is_of_device why ≡ false
IsFaultless _ = Unit {0}

-- How a turn tells the device's faults: where no write has failed in this mount, the answer tells none; where one fails in this very
-- turn it is WriteFault; and where one had failed before it is Disabled, with the count of then.
abbrev pub TellsFault : (before now : Option ℕ) → (write_faults : ℕ) → Reply → Type 0
TellsFault None None write_faults answer = IsFaultless answer
TellsFault None (Some faults) write_faults answer = (faults ≡ write_faults) × (answer ≡ say.Refused no.WriteFault)
TellsFault (Some faults) now write_faults answer = (now ≡ Some faults) × (answer ≡ say.Refused (no.Disabled faults))

-- What a turn does to the device's count of failed writes: where none has failed in this mount and none does, it stays; where one
-- fails now it has risen, and the mount keeps it; and where one had failed before, nothing is done on the device.
abbrev pub HasFailed : (before now : Option ℕ) → (old new : dev.State) → Type 0
HasFailed None None old new = new.write_faults ≡ old.write_faults
HasFailed None (Some faults) old new = Rose old.write_faults new.write_faults × (faults ≡ new.write_faults)
HasFailed (Some faults) now old new = (now ≡ Some faults) × (new ≡ old)

-- ---- a call whose reply is known, and that is not noted yet

-- as little as a call touches
abbrev pub IsFew : Touched → Type 0
IsFew t = (most t ≤ 4) × (length t.units ≤ 70)

pub record HasReplied (o : World) (d : dev.State) (m : Mount) (c : Call) (reply : Reply) : Type 0 where
  pub run : HasRun o d m.kernel
  pub live : Told d (IsLive o m.kernel)
  pub fit : IsFit d m.kernel
  pub transaction : m.transaction ≡ []
  pub enabled : m.disabled ≡ None → m.kernel.job ≢ Broken
  pub broken : IsSome m.disabled → m.kernel.job ≡ Broken
  pub left : m.kernel.job ≡ Left → (after_all o m.kernel.history.items).phase ≡ unmounted
  -- the state that it leads to
  pub new : State
  pub meta : IsStateOf m.meta new
  pub laid_out : IsLaidOut new
  pub plain : IsPlain new
  pub reply_is : (session : ℕ) → IfThere (step (present o m.kernel) (length m.kernel.history.items) session c) (λ done. (reply ≡ done.reply) ⊎ (is_fault reply ≡ true))
  pub state_is : (session : ℕ) → called_state o m.kernel session c reply ≡ new
  pub touched : IsTouched (present o m.kernel) new m.touched
  pub few : IsFew m.touched
  pub place : (m.touched ≡ untouched) ⊎ (length m.kernel.gathered ≤ 144)
  -- where blocks wait to be free, a call is not refused for want of them
  pub all_released : is_no_space reply ≡ true → (b : ℕ) → (present o m.kernel).layout.pending b ≡ None

-- the reply is known, with a copy of it; or a stage came first
abbrev pub HasAsked : (d : dev.State) (old new : Mount) → Asked → Type 0
HasAsked d old new asked.Again =
    Released old.kernel.history.items new.kernel.history.items d.count × ((old.disabled ≡ None) × (new.disabled ≡ None))
HasAsked d old new (asked.Replied reply copy) =
    (new.kernel.history ≡ old.kernel.history) × ((copy ≡ reply) × TellsFault old.disabled new.disabled d.write_faults reply)

-- what is known of the mount then
abbrev pub IsAsked : World → dev.State → Mount → Call → Asked → Type 0
IsAsked o d m c asked.Again = IsAt o d m
IsAsked o d m c (asked.Replied reply copy) = HasReplied o d m c reply

-- ---- a turn

-- the session's line after so many was done: the Do stands last in the history, and its line was moved there
pub record HasDone (at : ℕ) (old new : Mount) (lines later : List (List Call)) (session answered place : ℕ) (answer : Reply) (commits : Bool) : Type 0 where
  pub begun : Call
  pub line : line_after lines session answered ≡ Some begun
  pub place_is : place ≡ length old.kernel.history.items
  pub history : new.kernel.history.items ≡ old.kernel.history.items ++ event.Do at session (answered + 1) begun answer ∷ []
  pub moved : later ≡ set lines session (set (lines_of lines session) answered call.Sync)
  pub commits_is : commits ≡ has_front old.kernel.logging begun

-- what the first turns of a call come to: it was done; or a stage came first, that makes room for it
abbrev pub HasPerformed : (d : dev.State) (old new : Mount) (lines later : List (List Call)) (session answered : ℕ) → Performed → Type 0
HasPerformed d old new lines later session answered Again =
    Released old.kernel.history.items new.kernel.history.items d.count × ((later ≡ lines) × ((old.disabled ≡ None) × (new.disabled ≡ None)))
HasPerformed d old new lines later session answered (Done place answer commits) =
    HasDone d.count old new lines later session answered place answer commits × TellsFault old.disabled new.disabled d.write_faults answer
