-- What every call keeps holds in each state of a history.
use Rattle.std.proofs.Common.{◌≡◌, ℕ, Bool, true, false, cond, List, [], ◌∷◌, Option, Some, None, Ok, Err, refl, ap, subst}
use Rattle.vx_base.specs.declared.call.Call.{Call}
use Rattle.vx_base.specs.declared.event.Event.{Event}
use Rattle.vx_base.specs.declared.event.Event.TheVariants as event
use Rattle.vx_base.specs.declared.reply.Reply.TheVariants as say
use Rattle.vx_model.specs.Outcome.{Maybe}
use Rattle.vx_model.specs.State.{State, Done, settled}
use Rattle.vx_model.specs.Settling.{settle}
use Rattle.vx_model.specs.Step.{step}
use Rattle.vx_model.specs.Legal.{World, is_fault, state_after_step, with_released, after, after_all}

-- what a success leaves, where a refusal leaves the state
pub settled_keeps : (s : State) (P : State → Type 0) (m : Maybe Done) (done : Done) → P s → Some (settled s m) ≡ Some done → (m ≡ Ok done → P done.state) → P done.state
settled_keeps s P (Ok x) done old h new = let e : x ≡ done = cc in new (ap Ok e)
settled_keeps s P (Err why) done old h new =
    let e : ◌≡◌ {A = Done} (record { state = s; reply = say.Refused why }) done = cc in
    subst (λ (d : Done). P d.state) e old

kept_after : (P : State → Type 0) (s : State) (place session : ℕ) (c : Call) (o : Option Done) → step s place session c ≡ o → P s → ((done : Done) → step s place session c ≡ Some done → P done.state)
    → P (state_after_step s o)
kept_after P s place session c None is old new = old
kept_after P s place session c (Some done) is old new = new done is

kept_unless : (P : State → Type 0) (s t : State) (b : Bool) → P s → P t → P (cond b s t)
kept_unless P s t true old new = old
kept_unless P s t false old new = new

module _ (P : State → Type 0) (steps : (s : State) (place session : ℕ) (c : Call) (done : Done) → P s → step s place session c ≡ Some done → P done.state)
    (settles : (s : State) (place ino : ℕ) → P s → P (settle s place ino)) (releases : (s : State) (upto : ℕ) → P s → P (with_released s upto)) where
  kept_event : (w : World) (e : Event) → P w.state → P (after w e).state
  kept_event w (event.Do at session line c reply) h =
      kept_unless P w.state (state_after_step w.state (step w.state w.next session c)) (is_fault reply) h
      (kept_after P w.state w.next session c (step w.state w.next session c) refl h (λ done is. steps w.state w.next session c done h is))
  kept_event w (event.Settle at ino size) h = settles w.state w.next ino h
  kept_event w (event.Release at upto) h = releases w.state upto h
  kept_event w _ h = h

  pub kept_all : (w : World) (es : List Event) → P w.state → P (after_all w es).state
  kept_all w [] h = h
  kept_all w (e ∷ es) h = kept_all (after w e) es (kept_event w e h)
