-- A call whose reply is known is right for what is noted next.
use Rattle.std.proofs.Common.{◌≡◌, ◌⊎◌, ℕ, ◌≤◌, Bool, true, false, cond, length, Option, Some, None, refl, sym, ap, subst, ◌∙◌, arith, inl, inr}
use Rattle.vx_base.specs.declared.call.Call.{Call}
use Rattle.vx_base.specs.declared.call.Call.TheVariants as call
use Rattle.vx_base.specs.declared.refusal.Refusal.{Refusal}
use Rattle.vx_base.specs.declared.refusal.Refusal.TheVariants as no
use Rattle.vx_base.specs.declared.reply.Reply.{Reply}
use Rattle.vx_base.specs.declared.reply.Reply.TheVariants as say
use Rattle.vx_dev.specs.Tape.{State as Device}
use Rattle.vx_model.specs.Legal.{World, IfThere, after_all, is_any_time, is_fault, is_no_space, state_after_step}
use Rattle.vx_model.specs.Removing.{fine}
use Rattle.vx_model.specs.State.{State, Done}
use Rattle.vx_model.specs.Step.{is_of_names, is_for_mount, step}
use Rattle.vx_model.specs.Touching.{Touched, IsTouched, untouched}
use Rattle.vx_stage.specs.Growths.{called_state}
use Rattle.vx_stage.specs.Kernels.{present}
use Rattle.vx_stage.specs.declared.kernel.Kernel.{Kernel}
use Rattle.vx_txn.specs.Calls.{IsDone}
use Rattle.vx_txn.specs.Metas.{IsStateOf}
use Rattle.vx_txn.specs.Replies.{FitsReply, IsSound as IsSoundReply}
use Rattle.vx_txn.specs.declared.meta.Meta.{Meta}
use Rattle.vx_calls.specs.Calls.{HasReplied, IsFew}
use Rattle.vx_calls.specs.Mounts.{IsAt}
use Rattle.vx_calls.specs.declared.mount.Mount.{Mount}

-- a call that is built has a step
there : (s : State) (place session : ℕ) (c : Call) (Q : Done → Type 0) → is_of_names c ≡ true → ((done : Done) → Q done) → IfThere (step s place session c) Q
there s place session (call.Create path mode) Q built all = all _
there s place session (call.Mkdir path mode) Q built all = all _
there s place session (call.Unlink path) Q built all = all _
there s place session (call.Rmdir path) Q built all = all _
there s place session (call.Link old new) Q built all = all _
there s place session (call.Rename old new) Q built all = all _
there s place session (call.Chmod path mode) Q built all = all _
there s place session (call.Stat path) Q built all = all _
there s place session (call.List path) Q built all = all _
there s place session call.Sync Q built all = all _
there s place session call.Tick Q built all = all _
there s place session (call.After other lines) Q built all = all _
there s place session call.Stop Q built all = all _
there s place session _ Q built all = absurd cc

fine_step : (s : State) (place session : ℕ) (c : Call) → is_for_mount c ≡ true → step s place session c ≡ Some (fine s)
fine_step s place session call.Sync is = refl
fine_step s place session call.Tick is = refl
fine_step s place session (call.After other lines) is = refl
fine_step s place session call.Stop is = refl
fine_step s place session _ is = absurd cc

same_touched : (s : State) (t : Touched) → IsTouched s s t
same_touched s t = record { same_volume = refl; inodes = λ n e. refl; blocks = λ n i d e there. there; maps = λ n k c e there. there; units = λ u j lt e. refl }

not_space : (why : Refusal) → is_any_time why ≡ true → is_no_space (say.Refused why) ≡ true → ⊥
not_space (no.NoSpace need free) any_time short = absurd cc
not_space _ any_time short = absurd cc

none_touched : (t : Touched) → t ≡ untouched → IsFew t
none_touched t is = subst (λ (u : Touched). IsFew u) (sym is) (omega arith, omega arith)

-- the state behind a call, by its reply
after_fault : (o : World) (k : Kernel) (session : ℕ) (c : Call) (reply : Reply) → is_fault reply ≡ true → called_state o k session c reply ≡ present o k
after_fault o k session c reply fault = ap (λ (b : Bool). cond b (present o k) (state_after_step (present o k) (step (present o k) (after_all o k.history.items).next session c))) fault

after_reply : (o : World) (k : Kernel) (session : ℕ) (c : Call) (reply : Reply) (done : Done) → is_fault reply ≡ false → (after_all o k.history.items).next ≡ length k.history.items
    → step (present o k) (length k.history.items) session c ≡ Some done → called_state o k session c reply ≡ done.state
after_reply o k session c reply done fine next is =
    ap (λ (b : Bool). cond b (present o k) (state_after_step (present o k) (step (present o k) (after_all o k.history.items).next session c))) fine
    ∙ ap (λ (n : ℕ). state_after_step (present o k) (step (present o k) n session c)) next ∙ ap (state_after_step (present o k)) is

module _ (o : World) (d : Device) (m : Mount) (at : IsAt o d m) (c : Call) where
  still : (reply : Reply) → ((session : ℕ) → IfThere (step (present o m.kernel) (length m.kernel.history.items) session c) (λ done. (reply ≡ done.reply) ⊎ (is_fault reply ≡ true)))
      → ((session : ℕ) → called_state o m.kernel session c reply ≡ present o m.kernel) → (is_no_space reply ≡ true → ⊥) → HasReplied o d m c reply
  still reply reply_is state_is spacious = record {
    run = at.run;
    live = at.live;
    fit = at.fit;
    transaction = at.transaction;
    enabled = at.enabled;
    broken = at.broken;
    left = at.left;
    new = present o m.kernel;
    meta = at.meta;
    laid_out = at.run.mounted_now.consistent.laid_out;
    plain = at.plain;
    reply_is = reply_is;
    state_is = state_is;
    touched = same_touched (present o m.kernel) m.touched;
    few = none_touched m.touched at.touched;
    place = inl at.touched;
    all_released = λ short b. absurd (spacious short);
  }

  -- a refusal that may come at any time
  pub refused_replied : (why : Refusal) → is_of_names c ≡ true → is_any_time why ≡ true → HasReplied o d m c (say.Refused why)
  refused_replied why built any_time = still (say.Refused why)
      (λ session. there (present o m.kernel) (length m.kernel.history.items) session c (λ done. (say.Refused why ≡ done.reply) ⊎ (is_fault (say.Refused why) ≡ true)) built (λ done. inr any_time))
      (λ session. after_fault o m.kernel session c (say.Refused why) any_time) (not_space why any_time)

  -- a call to the mount
  pub fine_replied : is_for_mount c ≡ true → HasReplied o d m c say.Fine
  fine_replied is = still say.Fine
      (λ session. subst (λ (x : Option Done). IfThere x (λ done. (say.Fine ≡ done.reply) ⊎ (is_fault say.Fine ≡ true))) (sym (fine_step (present o m.kernel) (length m.kernel.history.items) session c is)) (inl refl))
      (λ session. after_reply o m.kernel session c say.Fine (fine (present o m.kernel)) refl at.run.next (fine_step (present o m.kernel) (length m.kernel.history.items) session c is)) (λ short. cc)

-- the metadata were kept in another form
pub kept_at : (o : World) (d : Device) (m : Mount) → IsAt o d m → (meta : Meta) (t : Touched) → IsStateOf meta (present o m.kernel) → t ≡ untouched → IsAt o d (record m { meta = meta; touched = t })
kept_at o d m at meta t is none = record {
  run = at.run;
  live = at.live;
  fit = at.fit;
  meta = is;
  plain = at.plain;
  touched = none;
  transaction = at.transaction;
  enabled = at.enabled;
  broken = at.broken;
  left = at.left;
}

-- ---- a call that ran

sound_is_no_fault : (reply : Reply) → IsSoundReply reply → is_fault reply ≡ false
sound_is_no_fault (say.Refused why) h = h
sound_is_no_fault _ h = refl

-- a call of names is the same, whatever session it is of
same_session : (s : State) (place session : ℕ) (c : Call) → is_of_names c ≡ true → step s place session c ≡ step s place 0 c
same_session s place session (call.Create path mode) built = refl
same_session s place session (call.Mkdir path mode) built = refl
same_session s place session (call.Unlink path) built = refl
same_session s place session (call.Rmdir path) built = refl
same_session s place session (call.Link old new) built = refl
same_session s place session (call.Rename old new) built = refl
same_session s place session (call.Chmod path mode) built = refl
same_session s place session (call.Stat path) built = refl
same_session s place session (call.List path) built = refl
same_session s place session call.Sync built = refl
same_session s place session call.Tick built = refl
same_session s place session (call.After other lines) built = refl
same_session s place session call.Stop built = refl
same_session s place session _ built = absurd cc

module _ (o : World) (d : Device) (m : Mount) (at : IsAt o d m) (c : Call) (reply : Reply) (meta : Meta) (t : Touched) where
  abbrev s : State
  s = present o m.kernel

  abbrev place : ℕ
  place = length m.kernel.history.items

  abbrev Ran : Type 0
  Ran = (done : Done) × ((step s place 0 c ≡ Some done) × IsDone s done meta t reply)

  pub ran_of : (x : Option Done) → step s place 0 c ≡ x → IfThere x (λ done. IsDone s done meta t reply) → Ran
  ran_of None e h = absurd h
  ran_of (Some done) e h = (done, (e, h))

  -- a call that ran and is answered so
  pub done_replied : is_of_names c ≡ true → Ran → IsSoundReply reply → IsFew t → length m.kernel.gathered ≤ 144 → (is_no_space reply ≡ true → (b : ℕ) → s.layout.pending b ≡ None) → HasReplied o d (record m { meta = meta; touched = t }) c reply
  done_replied built ran sound few place_is released = record {
    run = at.run;
    live = at.live;
    fit = at.fit;
    transaction = at.transaction;
    enabled = at.enabled;
    broken = at.broken;
    left = at.left;
    new = ran.0.state;
    meta = ran.1.1.gone.state;
    laid_out = ran.1.1.gone.laid_out;
    plain = ran.1.1.gone.plain;
    reply_is = λ session. subst (λ (x : Option Done). IfThere x (λ done. (reply ≡ done.reply) ⊎ (is_fault reply ≡ true))) (sym (same_session s place session c built ∙ ran.1.0)) (inl ran.1.1.reply_is);
    state_is = λ session. after_reply o m.kernel session c reply ran.0 (sound_is_no_fault reply sound) at.run.next (same_session s place session c built ∙ ran.1.0);
    touched = ran.1.1.gone.touched;
    few = few;
    place = inr place_is;
    all_released = released;
  }

  -- a call that was refused left all as it was
  pub refused_at : Ran → ((s2 : State) (place2 session : ℕ) (c2 : Call) (done : Done) (why : Refusal) → step s2 place2 session c2 ≡ Some done → done.reply ≡ say.Refused why → done.state ≡ s2) → (why : Refusal) → reply ≡ say.Refused why → FitsReply t reply
      → IsAt o d (record m { meta = meta; touched = t })
  refused_at ran law why refused fits = kept_at o d m at meta t (subst (IsStateOf meta) (law s place 0 c ran.0 why ran.1.0 (sym ran.1.1.reply_is ∙ refused)) ran.1.1.gone.state) (subst (FitsReply t) refused fits)

pub short_of : (reply : Reply) → is_no_space reply ≡ true → (why : Refusal) × (reply ≡ say.Refused why)
short_of (say.Refused why) short = (why, refl)
short_of _ short = absurd cc
