-- An event more, at this moment.
use Rattle.std.specs.FinMap as map
use Rattle.std.specs.Prelude.{◌≡◌, ◌⊎◌, ◌<◌, ◌≤◌, ℕ, true, false, length, Some, IfSome}
use Rattle.vx_base.specs.declared.call.Call.{Call}
use Rattle.vx_base.specs.declared.event.Event.{Event}
use Rattle.vx_base.specs.declared.event.Event.TheVariants as event
use Rattle.vx_base.specs.declared.refusal.Refusal.{Refusal}
use Rattle.vx_base.specs.declared.reply.Reply.{Reply}
use Rattle.vx_dev.specs.Tape as dev
use Rattle.vx_model.specs.Allowed.{call_at, is_refusal}
use Rattle.vx_model.specs.AllowedLaws.{IsPlaced}
use Rattle.vx_model.specs.LaidOut.{HoldsData}
use Rattle.vx_model.specs.LaidOut.{IsLaidOut}
use Rattle.vx_model.specs.Legal.{World, in_use, stopping, Allowed, DoAllowed, RetAllowed, IfThere, is_any_time, is_idle, at_of, after, after_all, state_after}
use Rattle.vx_model.specs.Step.{step}
use Rattle.vx_model.specs.State.{State}
use Rattle.vx_model.specs.Allowed.{has_front}
use Rattle.vx_stage.specs.Leads.{IsYoung}
use Rattle.vx_stage.specs.Kernels.{IsMounted, present}
use Rattle.vx_stage.specs.declared.kernel.Job.{Job}
use Rattle.vx_stage.specs.declared.kernel.Job.TheVariants.{Leave, LeaveOut, Broken}
use Rattle.vx_stage.specs.declared.kernel.Kernel.{Kernel}

-- the state after the event
abbrev pub next_state : World → Kernel → Event → State
next_state o k e = (after (after_all o k.history.items) e).state

-- A call is answered with success only once its front is durable.
abbrev pub IsEarned : Kernel → Event → Type 0
IsEarned k (event.Ret at place answer) = is_refusal answer ≡ false → IfSome (call_at k.history.items place) (λ c. has_front k.logging c ≡ true → place < k.committed)
IsEarned k (event.Unmounted at) = length k.history.items < k.committed
IsEarned k _ = Unit {0}

-- the event may come now, at this moment of the device
pub record IsGrowth (o : World) (d : dev.State) (k : Kernel) (e : Event) : Type 0 where
  pub allowed : Allowed (after_all o k.history.items) e
  pub at : at_of e ≡ d.count
  pub placed : IsPlaced (length k.history.items) e
  pub earned : IsEarned k e
  pub mounted : IsMounted k.sizes (next_state o k e)
  -- blocks begin to wait for this event alone, and what held metadata waits for it or does so still
  pub pending : (b p : ℕ) → (next_state o k e).layout.pending b ≡ Some p → ((present o k).layout.pending b ≡ Some p) ⊎ (p ≡ length k.history.items)
  pub young : (place b : ℕ) → k.committed ≤ place → place ≤ length k.history.items → IsYoung (present o k) place b → IsYoung (next_state o k e) place b

-- ... and no block that held metadata may hold bytes after it
abbrev pub KeepsApart : World → Kernel → Event → Type 0
KeepsApart o k e = (b : ℕ) → HoldsData (next_state o k e).layout b → HoldsData (present o k).layout b

-- ---- what may come, of each kind

-- the job of leaving the file system has begun: no event comes until it has ended
abbrev pub IsBusy : Job → Type 0
IsBusy Leave = Unit {0}
IsBusy LeaveOut = Unit {0}
IsBusy _ = ⊥

-- the state after a call with this reply, behind all that has come
abbrev pub called_state : World → Kernel → ℕ → Call → Reply → State
called_state o k session c reply = state_after (present o k) (after_all o k.history.items).next session c reply

-- the file system is mounted still
abbrev pub IsInUse : World → Kernel → Type 0
IsInUse o k = (after_all o k.history.items).phase ≡ in_use

-- The call may be done with this reply, and leaves a state that the device can hold.
pub record MayDo (o : World) (k : Kernel) (session line : ℕ) (c : Call) (reply : Reply) : Type 0 where
  pub mounted : IsInUse o k
  pub allowed : DoAllowed (after_all o k.history.items) session line c reply
  pub laid_out : IsLaidOut (called_state o k session c reply)

-- The call may be refused for a fault or for want of memory, and leaves all as it was.
pub record MayRefuse (o : World) (k : Kernel) (session line : ℕ) (c : Call) (why : Refusal) : Type 0 where
  pub mounted : IsInUse o k
  pub numbered : 0 < line
  pub idle : is_idle (after_all o k.history.items) session ≡ true
  pub built : IfThere (step (present o k) (after_all o k.history.items).next session c) (λ _. Unit {0})
  pub any_time : is_any_time why ≡ true

-- The call at this place may be answered so: with success only once its front is committed, and behind a failed write not at all.
pub record MayAnswer (o : World) (k : Kernel) (place : ℕ) (answer : Reply) : Type 0 where
  pub mounted : IsInUse o k
  pub allowed : RetAllowed (map.get (after_all o k.history.items).waiting place) answer
  pub earned : is_refusal answer ≡ false → IfSome (call_at k.history.items place) (λ c. has_front k.logging c ≡ true → place < k.committed)
  pub refused : k.job ≡ Broken → is_refusal answer ≡ true

-- a Stop is answered, so that the run may end
abbrev pub MayStop : World → Kernel → Type 0
MayStop o k = (after_all o k.history.items).phase ≡ stopping

-- each call is answered, so the file system may be left
pub record IsOver (o : World) (k : Kernel) : Type 0 where
  pub waiting : map.len (after_all o k.history.items).waiting ≡ 0
  pub mounted : IsInUse o k
