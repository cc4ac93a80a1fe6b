-- Legal histories.
use Rattle.std.specs.Prelude.{◌≡◌, ◌⊎◌, ℕ, ◌+◌, ◌<◌, ◌≤◌, Bool, true, false, not, ◌&&◌, nat_eq, nat_lt, List, [], ◌∷◌, Option, Some, None, if◌then◌else◌}
use Rattle.std.specs.List.{list_any}
use Rattle.std.specs.Ordering.{nat_cmp}
use Rattle.std.specs.FinMap as map
use Rattle.vx_base.specs.declared.call.Call.{Call}
use Rattle.vx_base.specs.declared.call.Call.TheVariants as call
use Rattle.vx_base.specs.declared.event.Event.{Event}
use Rattle.vx_base.specs.declared.event.Event.TheVariants as event
use Rattle.vx_base.specs.declared.refusal.Refusal.{Refusal}
use Rattle.vx_base.specs.declared.refusal.Refusal.TheVariants as no
use Rattle.vx_base.specs.declared.reply.Reply.{Reply}
use Rattle.vx_base.specs.declared.reply.Reply.TheVariants as say
use Rattle.vx_model.specs.Layout.{released}
use Rattle.vx_model.specs.State.{State, Done}
use Rattle.vx_model.specs.Walks.{file_at}
use Rattle.vx_model.specs.Settling.{IsSizeOf, settle}
use Rattle.vx_model.specs.Step.{step}

-- a call that stands in the history and has no Ret yet
pub record Waiting : Type 0 where
  pub session : ℕ
  pub line : ℕ
  pub call : Call
  pub reply : Reply

-- How far a mount has come: it is in use; a Stop was answered, behind which nothing but Stopped comes; or it has ended, stopped or
-- unmounted.
pub data Phase : Type 0 where
  in_use : Phase
  stopping : Phase
  stopped : Phase
  unmounted : Phase

-- what the events so far leave
pub record World : Type 0 where
  pub at : ℕ
  pub next : ℕ
  pub state : State
  pub waiting : map.FinMap nat_cmp Waiting
  pub phase : Phase

-- where a history begins, with so many operations done on the device
abbrev pub opening : ℕ → State → World
opening at s = record { at = at; next = 0; state = s; waiting = map.empty; phase = in_use }

-- a refusal that may come in place of any reply of a Do
abbrev pub is_any_time : Refusal → Bool
is_any_time no.NoMemory = true
is_any_time no.ReadFault = true
is_any_time no.WriteFault = true
is_any_time (no.Disabled faults) = true
is_any_time _ = false

abbrev pub is_fault : Reply → Bool
is_fault (say.Refused why) = is_any_time why
is_fault _ = false

-- a refusal that a failed write or barrier has caused, in this call or an earlier one
abbrev pub is_failed_write : Refusal → Bool
is_failed_write no.WriteFault = true
is_failed_write (no.Disabled faults) = true
is_failed_write _ = false

abbrev pub tells_failed_write : Reply → Bool
tells_failed_write (say.Refused why) = is_failed_write why
tells_failed_write _ = false

-- a call is refused for want of blocks only where none waits to be free
abbrev pub is_no_space : Reply → Bool
is_no_space (say.Refused (no.NoSpace need free)) = true
is_no_space _ = false

-- the session waits for no call of a line
abbrev pub is_idle : World → ℕ → Bool
is_idle w session = not (list_any (λ (v : Waiting). nat_eq v.session session && nat_lt 0 v.line) (map.values w.waiting))

-- it is there, and the fact holds of it
abbrev pub IfThere : {X : Type 0} → Option X → (X → Type 0) → Type 0
IfThere None P = ⊥
IfThere (Some x) P = P x

-- Lines have numbers from 1 on. A call of line 0 closes a handle in the unmount, and no program opens one yet.
pub record DoAllowed (w : World) (session line : ℕ) (c : Call) (reply : Reply) : Type 0 where
  pub numbered : 0 < line
  pub idle : is_idle w session ≡ true
  pub reply_is : IfThere (step w.state w.next session c) (λ done. (reply ≡ done.reply) ⊎ (is_fault reply ≡ true))
  pub all_released : is_no_space reply ≡ true → (b : ℕ) → w.state.layout.pending b ≡ None

-- The answer of a call is the reply of its Do, or that a write has failed. Want of memory and a failed read are replies of a Do
-- alone: a call that was done is not refused for them afterwards.
abbrev pub RetAllowed : Option Waiting → Reply → Type 0
RetAllowed None answer = ⊥
RetAllowed (Some v) answer = (answer ≡ v.reply) ⊎ (tells_failed_write answer ≡ true)

-- the number of device operations at an event
abbrev pub at_of : Event → ℕ
at_of (event.Do at session line c reply) = at
at_of (event.Ret at place answer) = at
at_of (event.Settle at ino size) = at
at_of (event.Release at upto) = at
at_of (event.MoveTake at place ino) = at
at_of (event.MoveSwitch at place ino from to) = at
at_of (event.MoveGive at place ino cause) = at
at_of (event.Bar at place units) = at
at_of (event.Resized at place units) = at
at_of (event.Unbar at place cause) = at
at_of (event.Stopped at) = at
at_of (event.Unmounted at) = at

-- whether the event may come, apart from its moment and the mount's phase; the kinds that are not built yet may not
abbrev pub Comes : World → Event → Type 0
Comes w (event.Do at session line c reply) = DoAllowed w session line c reply
Comes w (event.Ret at place answer) = RetAllowed (map.get w.waiting place) answer
Comes w (event.Settle at ino size) = IsSizeOf size (file_at w.state.tree.nodes ino)
Comes w (event.Release at upto) = Unit {0}
Comes w (event.Stopped at) = Unit {0}
Comes w (event.Unmounted at) = map.len w.waiting ≡ 0
Comes w _ = ⊥

-- the phase in which the event may come
abbrev pub phase_for : Event → Phase
phase_for (event.Stopped at) = stopping
phase_for _ = in_use

abbrev pub state_after_step : State → Option Done → State
state_after_step s None = s
state_after_step s (Some done) = done.state

-- the state after a Do at this place
abbrev pub state_after : State → ℕ → ℕ → Call → Reply → State
state_after s place session c reply = if is_fault reply then s else state_after_step s (step s place session c)

abbrev pub with_released : State → ℕ → State
with_released s upto = record s { layout = released s.layout upto }

abbrev pub is_stop : Call → Bool
is_stop call.Stop = true
is_stop _ = false

-- a Stop that is answered with Fine ends the run
abbrev pub phase_after : Phase → Option Waiting → Reply → Phase
phase_after phase (Some v) say.Fine = if is_stop v.call then stopping else phase
phase_after phase _ _ = phase

abbrev pub after : World → Event → World
after w (event.Do at session line c reply) = record w {
  at = at;
  next = w.next + 1;
  state = state_after w.state w.next session c reply;
  waiting = map.insert w.waiting w.next (record { session = session; line = line; call = c; reply = reply });
}
after w (event.Ret at place answer) = record w {
  at = at;
  next = w.next + 1;
  waiting = map.remove w.waiting place;
  phase = phase_after w.phase (map.get w.waiting place) answer;
}
after w (event.Settle at ino size) = record w { at = at; next = w.next + 1; state = settle w.state w.next ino }
after w (event.Release at upto) = record w { at = at; next = w.next + 1; state = with_released w.state upto }
after w (event.Stopped at) = record w { at = at; next = w.next + 1; phase = stopped }
after w (event.Unmounted at) = record w { at = at; next = w.next + 1; phase = unmounted }
after w e = record w { at = at_of e; next = w.next + 1 }

abbrev pub after_all : World → List Event → World
after_all w [] = w
after_all w (e ∷ es) = after_all (after w e) es

pub record Allowed (w : World) (e : Event) : Type 0 where
  pub later : w.at ≤ at_of e
  pub phase_is : w.phase ≡ phase_for e
  pub comes : Comes w e

abbrev pub Legal : World → List Event → Type 0
Legal w [] = Unit {0}
Legal w (e ∷ es) = Allowed w e × Legal (after w e) es
