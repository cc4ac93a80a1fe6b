-- The faults stay in order behind one more turn.
use Rattle.std.proofs.Common.{◌≡◌, ℕ, ◌+◌, List, [], ◌∷◌, ◌++◌, ◌&&◌, not, Bool, true, false, Option, Some, None, refl, sym, ◌∙◌, ap, subst, inl, inr, append_assoc, append-nil}
use Rattle.std.proofs.lemmas.List.Elements.{All-push, All-nil}
use Rattle.std.proofs.lemmas.Option.{slice_get_within, get_or_from_slice_get}
use Rattle.std.specs.Prelude.{All, slice_get}
use Rattle.vx_base.specs.declared.call.Call.{Call}
use Rattle.vx_base.specs.declared.event.Event.{Event}
use Rattle.vx_base.specs.declared.event.Event.TheVariants as event
use Rattle.vx_base.specs.declared.refusal.Refusal.TheVariants as no
use Rattle.vx_base.specs.declared.reply.Reply.{Reply}
use Rattle.vx_base.specs.declared.reply.Reply.TheVariants as say
use Rattle.vx_base.specs.Faults.{Rose}
use Rattle.vx_model.specs.Allowed.{is_refusal}
use Rattle.vx_mount.specs.Sessions.{standing, ready}
use Rattle.vx_core.specs.Facts.{is_fine}
use Rattle.vx_core.specs.Tracks.{last_event}
use Rattle.vx_mount.specs.Cores.{is_end}
use Rattle.vx_core.proofs.Lasting.{last_is}
use Rattle.vx_core.specs.Faults.{TellsNoFault, TellsDisabled, IsStop, after_reply, before_reply, StopsAt, AreOver, AreInOrder, TellsFaults, TellsInOrder}
use Rattle.vx_core.proofs.Standings.{standing_over}
use Rattle.vx_mount.specs.Faults.{IsFaultless, TellsFault}
use Rattle.vx_core.specs.Mounts.{MountView, HasFailed, IsStage, Released, releases, leaves, noted, HasDone}

-- ---- without a fault

fine_released : (h : List Event) (b : Bool) (at upto : ℕ) → All TellsNoFault h → All TellsNoFault (h ++ releases b at upto)
fine_released h true at upto all = All-push TellsNoFault h (event.Release at upto) all tt
fine_released h false at upto all = subst (λ (es : List Event). All TellsNoFault es) (sym (append-nil h)) all

fine_left : (h : List Event) (b r : Bool) (at upto : ℕ) → All TellsNoFault h → All TellsNoFault (h ++ leaves b r at upto)
fine_left h true r at upto all = All-push TellsNoFault h (event.Unmounted at) all tt
fine_left h false true at upto all = All-push TellsNoFault h (event.Release at upto) all tt
fine_left h false false at upto all = subst (λ (es : List Event). All TellsNoFault es) (sym (append-nil h)) all

-- what a call replied that stands there
fine_there : (h : List Event) (place at session line : ℕ) (c : Call) (reply : Reply) → All TellsNoFault h → slice_get h place ≡ Some (event.Do at session line c reply) → IsFaultless reply
fine_there h place at session line c reply all there =
    let e = event.Do at session line c reply in
    subst TellsNoFault (get_or_from_slice_get h place e e there) (all place e (slice_get_within h place e there))

enabled_order : (before : ℕ) (v : MountView) (lines : List (List Call)) → v.disabled ≡ None → TellsInOrder before v lines → (v.write_faults ≡ before) × All TellsNoFault v.history
enabled_order before v lines none t = (
  subst (TellsFaults before v.write_faults) none t.faults,
  subst (λ x. AreInOrder x v lines) none t.order,
)

order_enabled : (before : ℕ) (v : MountView) (lines : List (List Call)) → v.disabled ≡ None → v.write_faults ≡ before → All TellsNoFault v.history → TellsInOrder before v lines
order_enabled before v lines none same all = record {
  faults = subst (TellsFaults before v.write_faults) (sym none) same;
  order = subst (λ x. AreInOrder x v lines) (sym none) all;
  ended = λ _. none;
}

disabled_order : (before faults : ℕ) (v : MountView) (lines : List (List Call)) → v.disabled ≡ Some faults → TellsInOrder before v lines → Rose before v.write_faults × ((faults ≡ v.write_faults) × ((AreOver lines v.history → ⊥) → StopsAt faults v.count v.history))
disabled_order before faults v lines some t =
    let order : AreInOrder (Some faults) v lines = subst (λ x. AreInOrder x v lines) some t.order in (
      subst (TellsFaults before v.write_faults) some t.faults,
      (
        order.0,
        λ left. elim order.1 [
          | inl stops ↦ stops
          | inr over ↦ absurd (left over.0)
        ],
      ),
    )

order_disabled : (before faults : ℕ) (v : MountView) (lines : List (List Call)) → is_end (last_event v.history) ≡ false → v.disabled ≡ Some faults → Rose before v.write_faults → faults ≡ v.write_faults → StopsAt faults v.count v.history → TellsInOrder before v lines
order_disabled before faults v lines open_end some rose is stops = record {
  faults = subst (TellsFaults before v.write_faults) (sym some) rose;
  order = subst (λ x. AreInOrder x v lines) (sym some) (is, inl stops);
  ended = λ end. absurd (cc);
}

-- an answer is no end
answer_open : (h : List Event) (at place : ℕ) (answer : Reply) → is_end (last_event (h ++ event.Ret at place answer ∷ [])) ≡ false
answer_open h at place answer = ap is_end (last_is h (event.Ret at place answer))

-- ---- how failed writes disable a mount

none_failed : (v later : MountView) → v.disabled ≡ None → later.disabled ≡ None → HasFailed v.disabled later.disabled v later → later.write_faults ≡ v.write_faults
none_failed v later none still failing =
    let a : HasFailed None later.disabled v later = subst (λ x. HasFailed x later.disabled v later) none failing in
    subst (λ x. HasFailed None x v later) still a

one_failed : (v later : MountView) (faults : ℕ) → v.disabled ≡ None → later.disabled ≡ Some faults → HasFailed v.disabled later.disabled v later → Rose v.write_faults later.write_faults × (faults ≡ later.write_faults)
one_failed v later faults none some failing =
    let a : HasFailed None later.disabled v later = subst (λ x. HasFailed x later.disabled v later) none failing in
    subst (λ x. HasFailed None x v later) some a

was_disabled : (v later : MountView) (faults : ℕ) → v.disabled ≡ Some faults → HasFailed v.disabled later.disabled v later → (later.disabled ≡ Some faults) × ((later.count ≡ v.count) × (later.write_faults ≡ v.write_faults))
was_disabled v later faults some failing = subst (λ x. HasFailed x later.disabled v later) some failing

-- ---- turns

module _ (before : ℕ) (v : MountView) (lines later_lines : List (List Call)) (t : TellsInOrder before v lines) where
  -- a stage alone
  pub order_staged : (later : MountView) → v.disabled ≡ None → later.disabled ≡ None → IsStage v later → Released v.history later.history later.count → TellsInOrder before later later_lines
  order_staged later none still stage r =
      let was = enabled_order before v lines none t in
      order_enabled before later later_lines still (none_failed v later none still stage.failing ∙ was.0) (subst (λ (h : List Event). All TellsNoFault h) (sym r.is) (fine_released v.history r.released later.count r.upto was.1))

  -- ... behind which the call that stands there is answered as it said
  pub order_said : (staged later : MountView) (place at session line : ℕ) (c : Call) (answer : Reply) → v.disabled ≡ None → staged.disabled ≡ None → IsStage v staged → Released v.history staged.history staged.count
      → slice_get v.history place ≡ Some (event.Do at session line c answer) → later ≡ noted staged (event.Ret staged.count place answer) → TellsInOrder before later later_lines
  order_said staged later place at session line c answer none still stage r there is =
      let was = enabled_order before v lines none t in
      let fine = fine_there v.history place at session line c answer was.1 there in
      subst (λ x. TellsInOrder before x later_lines) (sym is)
      (order_enabled before (noted staged (event.Ret staged.count place answer)) later_lines still (none_failed v staged none still stage.failing ∙ was.0)
      (All-push TellsNoFault staged.history (event.Ret staged.count place answer)
      (subst (λ (h : List Event). All TellsNoFault h) (sym r.is) (fine_released v.history r.released staged.count r.upto was.1)) fine))

  -- the stage fails, and its call is answered WriteFault
  pub order_failed : (staged later : MountView) (place faults : ℕ) → v.disabled ≡ None → staged.disabled ≡ Some faults → IsStage v staged → staged.history ≡ v.history
      → later ≡ noted staged (event.Ret staged.count place (say.Refused no.WriteFault)) → TellsInOrder before later later_lines
  order_failed staged later place faults none some stage still is =
      let was = enabled_order before v lines none t in
      let failed = one_failed v staged faults none some stage.failing in
      let e = event.Ret staged.count place (say.Refused no.WriteFault) in
      subst (λ x. TellsInOrder before x later_lines) (sym is)
      (order_disabled before faults (noted staged e) later_lines (answer_open staged.history staged.count place (say.Refused no.WriteFault)) some (subst (λ n. Rose n staged.write_faults) was.0 failed.0) failed.1
      (record {
        before = v.history;
        stop = e ∷ [];
        after = [];
        is = ap (λ (h : List Event). h ++ e ∷ []) still ∙ sym (append-nil (v.history ++ e ∷ []));
        fine = was.1;
        is_stop = after_reply place refl;
        disabled = All-nil (TellsDisabled faults staged.count);
      }))

  -- the mount was disabled before
  pub order_refused : (later : MountView) (place faults : ℕ) → v.disabled ≡ Some faults → (AreOver lines v.history → ⊥) → later ≡ noted v (event.Ret v.count place (say.Refused (no.Disabled faults))) → TellsInOrder before later later_lines
  order_refused later place faults some left is =
      let was = disabled_order before faults v lines some t in
      let e = event.Ret v.count place (say.Refused (no.Disabled faults)) in
      let stops = was.1.1 left in
      subst (λ x. TellsInOrder before x later_lines) (sym is)
      (order_disabled before faults (noted v e) later_lines (answer_open v.history v.count place (say.Refused (no.Disabled faults))) some was.0 was.1.0
      (record {
        before = stops.before;
        stop = stops.stop;
        after = stops.after ++ e ∷ [];
        is = ap (λ (h : List Event). h ++ e ∷ []) stops.is ∙ append_assoc (stops.before ++ stops.stop) stops.after (e ∷ []);
        fine = stops.fine;
        is_stop = stops.is_stop;
        disabled = All-push (TellsDisabled faults v.count) stops.after e stops.disabled (refl, refl);
      }))

  -- a turn of the unmount
  pub order_left : (later : MountView) (b r : Bool) (upto : ℕ) → v.disabled ≡ None → later.disabled ≡ None → IsStage v later → later.history ≡ v.history ++ leaves b r later.count upto → TellsInOrder before later later_lines
  order_left later b r upto none still stage is =
      let was = enabled_order before v lines none t in
      order_enabled before later later_lines still (none_failed v later none still stage.failing ∙ was.0) (subst (λ (h : List Event). All TellsNoFault h) (sym is) (fine_left v.history b r later.count upto was.1))

  pub order_left_disabled : (later : MountView) (faults : ℕ) → v.disabled ≡ None → later.disabled ≡ Some faults → IsStage v later → later.history ≡ v.history → is_end (last_event v.history) ≡ false → AreOver later_lines later.history → TellsInOrder before later later_lines
  order_left_disabled later faults none some stage still open_end over =
      let was = enabled_order before v lines none t in
      let failed = one_failed v later faults none some stage.failing in
      record {
        faults = subst (TellsFaults before later.write_faults) (sym some) (subst (λ n. Rose n later.write_faults) was.0 failed.0);
        order = subst (λ x. AreInOrder x later later_lines) (sym some) (failed.1, inr (over, subst (λ (h : List Event). All TellsNoFault h) (sym still) was.1));
        ended = λ end. absurd (let no_end : is_end (last_event later.history) ≡ false = subst (λ h. is_end (last_event h) ≡ false) (sym still) open_end in cc);
      }

  -- a call is done
  module _ (w : MountView) (lists left : List (List Call)) (s n place : ℕ) (answer : Reply) (commits : Bool) (d : HasDone v w lists left s n place answer commits) (stage : IsStage v w) where
    abbrev done : Event
    done = event.Do w.count s (n + 1) d.done answer

    tells_none : v.disabled ≡ None → w.disabled ≡ None → IsFaultless answer
    tells_none none still =
        let a : TellsFault None w.disabled w.write_faults answer = subst (λ x. TellsFault x w.disabled w.write_faults answer) none d.tells in
        subst (λ x. TellsFault None x w.write_faults answer) still a

    tells_failed : (faults : ℕ) → v.disabled ≡ None → w.disabled ≡ Some faults → answer ≡ say.Refused no.WriteFault
    tells_failed faults none some =
        let a : TellsFault None w.disabled w.write_faults answer = subst (λ x. TellsFault x w.disabled w.write_faults answer) none d.tells in
        (let b : TellsFault None (Some faults) w.write_faults answer = subst (λ x. TellsFault None x w.write_faults answer) some a in b.1)

    tells_disabled : (faults : ℕ) → v.disabled ≡ Some faults → answer ≡ say.Refused (no.Disabled faults)
    tells_disabled faults some = (let a : TellsFault (Some faults) w.disabled w.write_faults answer = subst (λ x. TellsFault x w.disabled w.write_faults answer) some d.tells in a.1)

    fine_done : v.disabled ≡ None → w.disabled ≡ None → All TellsNoFault w.history
    fine_done none still =
        let was = enabled_order before v lines none t in
        subst (λ (h : List Event). All TellsNoFault h) (sym d.history) (All-push TellsNoFault v.history done was.1 (tells_none none still))

    -- it was no refusal
    enabled_done : (now then : Option ℕ) → v.disabled ≡ now → w.disabled ≡ then → is_refusal answer ≡ false → (v.disabled ≡ None) × (w.disabled ≡ None)
    enabled_done None None was is fine = (was, is)
    enabled_done None (Some faults) was is fine = absurd (let a : is_refusal answer ≡ true = ap is_refusal (tells_failed faults was is) in cc)
    enabled_done (Some faults) then was is fine = absurd (let a : is_refusal answer ≡ true = ap is_refusal (tells_disabled faults was) in cc)

    -- and waits to be committed
    pub order_waits : is_refusal answer ≡ false → TellsInOrder before w later_lines
    order_waits fine =
        let e = enabled_done v.disabled w.disabled refl refl fine in
        let was = enabled_order before v lines e.0 t in
        order_enabled before w later_lines e.1 (none_failed v w e.0 e.1 stage.failing ∙ was.0) (fine_done e.0 e.1)

    -- and is answered
    module _ (fin : MountView) (left_over : AreOver lines v.history → ⊥) (is : fin ≡ noted w (event.Ret w.count place answer)) where
      answered : Event
      answered = event.Ret w.count place answer

      answered_by : (was now : Option ℕ) → v.disabled ≡ was → w.disabled ≡ now → TellsInOrder before (noted w (event.Ret w.count place answer)) later_lines
      answered_by None None none still =
          let was = enabled_order before v lines none t in
          order_enabled before (noted w (event.Ret w.count place answer)) later_lines still (none_failed v w none still stage.failing ∙ was.0)
          (All-push TellsNoFault w.history (event.Ret w.count place answer) (fine_done none still) (tells_none none still))
      answered_by None (Some faults) none some =
          let was = enabled_order before v lines none t in
          let failed = one_failed v w faults none some stage.failing in
          let fault = tells_failed faults none some in
          let e1 = event.Do w.count s (n + 1) d.done (say.Refused no.WriteFault) in
          let e2 = event.Ret w.count place (say.Refused no.WriteFault) in
          order_disabled before faults (noted w (event.Ret w.count place answer)) later_lines (answer_open w.history w.count place answer) some (subst (λ k. Rose k w.write_faults) was.0 failed.0) failed.1
          (record {
            before = v.history;
            stop = e1 ∷ e2 ∷ [];
            after = [];
            is = ap (λ (r : Reply). w.history ++ event.Ret w.count place r ∷ []) fault ∙ ap (λ (h : List Event). h ++ e2 ∷ []) d.history
                ∙ ap (λ (r : Reply). (v.history ++ event.Do w.count s (n + 1) d.done r ∷ []) ++ e2 ∷ []) fault ∙ append_assoc v.history (e1 ∷ []) (e2 ∷ []) ∙ sym (append-nil (v.history ++ e1 ∷ e2 ∷ []));
            fine = was.1;
            is_stop = before_reply s (n + 1) place d.done refl;
            disabled = All-nil (TellsDisabled faults w.count);
          })
      answered_by (Some faults) now some same =
          let was = disabled_order before faults v lines some t in
          let stays = was_disabled v w faults some stage.failing in
          let stops = was.1.1 left_over in
          let reply = tells_disabled faults some in
          let e1 = event.Do w.count s (n + 1) d.done answer in
          let e2 = event.Ret w.count place answer in
          order_disabled before faults (noted w e2) later_lines (answer_open w.history w.count place answer) stays.0 (subst (Rose before) (sym stays.1.1) was.0) (was.1.0 ∙ sym stays.1.1)
          (record {
            before = stops.before;
            stop = stops.stop;
            after = (stops.after ++ e1 ∷ []) ++ e2 ∷ [];
            is = ap (λ (h : List Event). h ++ e2 ∷ []) (d.history ∙ ap (λ (h : List Event). h ++ e1 ∷ []) stops.is)
                ∙ ap (λ (h : List Event). h ++ e2 ∷ []) (append_assoc (stops.before ++ stops.stop) stops.after (e1 ∷ []))
                ∙ append_assoc (stops.before ++ stops.stop) (stops.after ++ e1 ∷ []) (e2 ∷ []);
            fine = stops.fine;
            is_stop = subst (λ k. IsStop k stops.stop) (sym stays.1.0) stops.is_stop;
            disabled = All-push (TellsDisabled faults w.count) (stops.after ++ e1 ∷ []) e2
                (All-push (TellsDisabled faults w.count) stops.after e1 (subst (λ k. All (TellsDisabled faults k) stops.after) (sym stays.1.0) stops.disabled) (refl, reply)) (refl, reply);
          })

      pub order_done : TellsInOrder before fin later_lines
      order_done = subst (λ x. TellsInOrder before x later_lines) (sym is) (answered_by v.disabled w.disabled refl refl)

      -- the run ends behind it
      pub order_stopped : (end : MountView) → is_fine answer ≡ true → end ≡ noted fin (event.Stopped fin.count) → TellsInOrder before end later_lines
      order_stopped end fine end_is =
          let e = enabled_done v.disabled w.disabled refl refl (no_refusal answer fine) in
          let was = enabled_order before v lines e.0 t in
          let x = noted w (event.Ret w.count place answer) in
          subst (λ y. TellsInOrder before y later_lines) (sym (end_is ∙ ap (λ (y : MountView). noted y (event.Stopped y.count)) is))
          (order_enabled before (noted x (event.Stopped x.count)) later_lines e.1 (none_failed v w e.0 e.1 stage.failing ∙ was.0)
          (All-push TellsNoFault x.history (event.Stopped x.count) (All-push TellsNoFault w.history (event.Ret w.count place answer) (fine_done e.0 e.1) (tells_none e.0 e.1)) tt))
        where
          no_refusal : (r : Reply) → is_fine r ≡ true → is_refusal r ≡ false
          no_refusal say.Fine fine = refl
          no_refusal r fine = absurd (cc)

-- ---- small facts

-- a session that can go on has a line left
pub ready_left : (lines : List (List Call)) (h : List Event) (s : ℕ) → standing lines h s ≡ ready → AreOver lines h → ⊥
ready_left lines h s stands over = let finished_now = standing_over lines h s (over s) in absurd (cc)

pub no_refusal : (commits refusal said : Bool) → said ≡ refusal → (commits && not said) ≡ true → refusal ≡ false
no_refusal commits refusal true same told = absurd (let a : (commits && false) ≡ true = told in by_no commits a)
  where
    by_no : (b : Bool) → (b && false) ≡ true → ⊥
    by_no true e = absurd (cc)
    by_no false e = absurd (cc)
no_refusal commits refusal false same told = sym same

pub ends_fine : (stops fine said : Bool) → said ≡ fine → (stops && said) ≡ true → fine ≡ true
ends_fine true fine said same told = sym same ∙ told
ends_fine false fine said same told = absurd (cc)
