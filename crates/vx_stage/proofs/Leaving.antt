-- The file system is left: the superblock of a clean one, a barrier, and the event.
use Rattle.std.proofs.Common.{◌≡◌, ℕ, ◌+◌, ◌<◌, ◌≤◌, true, List, [], ◌∷◌, ◌++◌, length, Option, Some, None, refl, sym, ap, subst, ◌∙◌, arith, inl, inr}
use Rattle.std.specs.Prelude.{IfSome, All}
use Rattle.std.specs.FinMap as map
use Rattle.std.proofs.lemmas.Bool.{cases_lt}
use Rattle.std.proofs.lemmas.List.{take_all}
use Rattle.std.proofs.lemmas.List.Elements.{All-append, All-contains, All-weaker, All-cons, All-nil, Contains-append_cases}
use Rattle.vx_base.specs.declared.call.Call.{Call}
use Rattle.vx_base.specs.declared.event.Event.{Event}
use Rattle.vx_base.specs.declared.event.Event.TheVariants as event
use Rattle.vx_dev.specs.declared.device.Operation.TheVariants.{Put, Barrier}
use Rattle.vx_dev.specs.Tape.{Tape, State as Device, Did, DidNothing, Failed, did, tried, IsInStep}
use Rattle.vx_layout.specs.LogForms.{AfterImage, LogState, overlay_all}
use Rattle.vx_layout.specs.Supers.{IsSuper, super_bytes}
use Rattle.vx_dev.specs.Moments.{Told, Past}
use Rattle.vx_dev.proofs.Claims.{told_weaker}
use Rattle.vx_log.specs.Batches.{noted_at}
use Rattle.vx_model.specs.Allowed.{call_at}
use Rattle.vx_model.specs.AllowedLaws.{IsPlaced}
use Rattle.vx_model.specs.Legal.{World, Allowed, Legal, at_of, after_all}
use Rattle.vx_model.specs.Settled.{IsLeftSettled}
use Rattle.vx_model.specs.State.{State}
use Rattle.vx_model.specs.Waiting.{IsNamed}
use Rattle.vx_model.proofs.Runs.{after_all-append, Legal-push}
use Rattle.vx_model.specs.Allowed.{has_front, HoldsFront, IsAllowed}
use Rattle.vx_stage.specs.Leads.{state_at}
use Rattle.vx_stage.specs.Growths.{IsOver}
use Rattle.vx_stage.specs.Kernels.{clean_super, IsMounted, IsNoted, IsLevel, HasRun, Now, IsLive, present}
use Rattle.vx_stage.specs.KernelLaws.{KernelLaws}
use Rattle.vx_stage.specs.declared.kernel.Job.{Job}
use Rattle.vx_stage.specs.declared.kernel.Job.TheVariants.{Idle, Leave, LeaveOut, Left, Broken}
use Rattle.vx_stage.specs.declared.kernel.Kernel.{Kernel}
use Rattle.vx_stage.proofs.Stages.{done_on, nothing_on, failed_on}
use Rattle.vx_stage.proofs.Growing.{with_it, only, one_more, slice_get-last, each_prefix, whole_state, past_by}
use Rattle.vx_stage.proofs.Levels.{level_of, level_write, level_barrier, level_claimed, left_at}

module _ (laws : KernelLaws) (o : World) (k : Kernel) (a : Device) (is_super : IsSuper k.sizes) (run : HasRun o a k) where
  low : k.committed ≤ length k.history.items
  low = omega (arith, run.order, run.within)

  mounted : IsMounted k.sizes (state_at o k.history.items k.committed)
  mounted = run.mounted k.committed low

  abbrev s : State
  s = state_at o k.history.items k.committed

  -- the log is empty
  pub leave_begun : k.job ≡ Idle → k.homes ≡ [] → k.log.tail ≡ k.log.head → Told a (IsLive o k) → Told a (IsLive o (record k { job = Leave }))
  leave_begun job_is empty level told = told_weaker a (IsLive o k) (IsLive o (record k { job = Leave })) (λ t live.
      let r : LogState = live.reading in
      let now_ : Now k Idle o r t = subst (λ (j : Job). Now k j o r t) job_is live.now in
      let l = now_.0 in
      let unnamed : (q : ℕ) (x : List ℕ) → overlay_all r.records q x ≡ x = (λ q x. subst (λ (hs : List AfterImage). IsNoted r q (noted_at hs q)) empty (l.noted q) x) in
      record { past = live.past; reading = r; now = (level_of laws k.sizes s is_super mounted k.log.serial k.log.head r t l.reading now_.1 unnamed l.serial (l.tail ∙ level) l.head).level }) told

  module _ (step : IsInStep a) (b : Device) where
    -- ---- the superblock

    abbrev super : List ℕ
    super = super_bytes (clean_super k.sizes)

    now_level : (t : Tape) → k.job ≡ Leave → (live : IsLive o k t) → IsLevel k.sizes s k.log.serial k.log.head t
    now_level t job live = subst (λ (j : Job). Now k j o live.reading t) job live.now

    pub leave_written : k.job ≡ Leave → Did (Put 0 super) a b → Told a (IsLive o k) → Told b (IsLive o (record k { job = LeaveOut }))
    leave_written job done told = done_on laws o k a is_super run step b (record k { job = LeaveOut }) refl refl refl (Put 0 super) (λ t live.
        let l = now_level t job live in
        let l2 : IsLevel k.sizes s k.log.serial k.log.head (did (Put 0 super) t) = level_write laws k.sizes s is_super mounted k.log.serial k.log.head t (Put 0 super) super (laws.tape.put_writes 0 super) (inr refl) l in (
          level_claimed laws o k a is_super run step b k.committed k.log.serial k.log.head t (omega arith) low l,
          level_claimed laws o k a is_super run step b k.committed k.log.serial k.log.head (did (Put 0 super) t) (omega arith) low l2,
          (live.reading, (l2, laws.tape.put_settles t 0 super)),
        )) done told

    pub leave_failed : k.job ≡ Leave → Failed 0 super a b → Told a (IsLive o k) → Told b (IsLive o (record k { job = Broken }))
    leave_failed job failed told = failed_on laws o k a is_super run step b (record k { job = Broken }) refl refl refl refl 0 super (λ t live.
        let l = now_level t job live in
        let l2 : IsLevel k.sizes s k.log.serial k.log.head (did (tried 0 super) t) = level_write laws k.sizes s is_super mounted k.log.serial k.log.head t (tried 0 super) super (laws.tape.failed_writes 0 super) (inr refl) l in (
          level_claimed laws o k a is_super run step b k.committed k.log.serial k.log.head t (omega arith) low l,
          level_claimed laws o k a is_super run step b k.committed k.log.serial k.log.head (did (tried 0 super) t) (omega arith) low l2,
        )) failed told

    -- ---- the barrier behind it

    now_out : (t : Tape) → k.job ≡ LeaveOut → (live : IsLive o k t) → Now k LeaveOut o live.reading t
    now_out t job live = subst (λ (j : Job). Now k j o live.reading t) job live.now

    pub leave_passed : k.job ≡ LeaveOut → Did Barrier a b → Told a (IsLive o k) → Told b (IsLive o (record k { job = Left }))
    leave_passed job done told = done_on laws o k a is_super run step b (record k { job = Left }) refl refl refl Barrier (λ t live.
        let is = now_out t job live in
        let l2 : IsLevel k.sizes s k.log.serial k.log.head (did Barrier t) = level_barrier laws k.sizes s is_super mounted k.log.serial k.log.head t is.0 in (
          level_claimed laws o k a is_super run step b k.committed k.log.serial k.log.head t (omega arith) low is.0,
          level_claimed laws o k a is_super run step b k.committed k.log.serial k.log.head (did Barrier t) (omega arith) low l2,
          (live.reading, (l2, left_at laws k.sizes s is_super mounted k.log.serial k.log.head t is.0 is.1)),
        )) done told

    pub leave_not_passed : k.job ≡ LeaveOut → DidNothing a b → Told a (IsLive o k) → Told b (IsLive o (record k { job = Broken }))
    leave_not_passed job nothing told = nothing_on laws o k a is_super run step b (record k { job = Broken }) refl refl refl refl (λ t live.
        level_claimed laws o k a is_super run step b k.committed k.log.serial k.log.head t (omega arith) low (now_out t job live).0) nothing told

-- ---- the event: with it both prefixes rise in one step

module _ (o : World) (d : Device) (k : Kernel) (run : HasRun o d k) (over : IsOver o k) (all : k.committed ≡ length k.history.items) (at : ℕ) (at_is : at ≡ d.count) where
  abbrev pub e : Event
  e = event.Unmounted at

  abbrev h : List Event
  h = k.history.items

  now_e : at_of e ≡ d.count
  now_e = at_is

  may_come : Allowed (after_all o h) e
  may_come = record { later = omega (arith, run.at, at_is); phase_is = over.mounted; comes = over.waiting }

  module _ (k2 : Kernel) (items : k2.history.items ≡ h ++ e ∷ []) (n : ℕ) (n_is : n ≡ length h + 1) where
    abbrev gone : Kernel
    gone = record k { job = Left; history = k2.history; committed = n; closing = n }

    on_items : (P : List Event → Type 0) → P (with_it o d k e) → P k2.history.items
    on_items P is = subst P (sym items) is

    long : length k2.history.items ≡ length h + 1
    long = ap (λ (es : List Event). length es) items ∙ one_more h e

    same_now : present o gone ≡ present o k
    same_now = ap (λ (es : List Event). (after_all o es).state) items ∙ ap (λ (w : World). w.state) (after_all-append o h (e ∷ []))

    placed_on : (x : Event) → IsPlaced (length h) x → IsPlaced (length (with_it o d k e)) x
    placed_on (event.Ret b place answer) p = omega (arith, p, one_more h e)
    placed_on _ p = tt

    front_all : (m : ℕ) → HoldsFront k.logging (with_it o d k e) m n
    front_all m = record {
      returned = λ b place answer there early told. elim (Contains-append_cases h (e ∷ []) (event.Ret b place answer) there) [
        | inl old ↦
            let lt : place < length h = All-contains (IsPlaced (length h)) h (event.Ret b place answer) run.placed old in
            any_call (call_at (with_it o d k e) place) place (omega (arith, lt, n_is))
        | inr new ↦ absurd (let wrong : e ≡ event.Ret b place answer = only e (event.Ret b place answer) new in cc)
      ];
      unmounted = λ b place found early. elim (cases_lt place (length h)) [
        | inl old ↦ omega (arith, old, n_is)
        | inr new ↦ let last = slice_get-last h e place (event.Unmounted b) (omega (arith, new)) found in omega (arith, last.0, n_is)
      ];
    }
      where
        any_call : (x : Option Call) (place : ℕ) → place < n → IfSome x (λ c. has_front k.logging c ≡ true → place < n)
        any_call None place lt = tt
        any_call (Some c) place lt = λ front. lt

    pub gone_run : HasRun o d gone
    gone_run = record {
      legal = on_items (Legal o) (Legal-push o h e run.legal may_come);
      next = ap (λ (es : List Event). (after_all o es).next) items ∙ ap (λ (w : World). w.next) (after_all-append o h (e ∷ [])) ∙ ap (λ (x : ℕ). x + 1) run.next ∙ sym long;
      at = omega (arith, at_is, ap (λ (es : List Event). (after_all o es).at) items, ap (λ (w : World). w.at) (after_all-append o h (e ∷ [])));
      come = on_items (All (λ x. at_of x ≤ d.count)) (All-append (λ x. at_of x ≤ d.count) h (e ∷ []) run.come (All-cons (λ x. at_of x ≤ d.count) e [] (omega (arith, at_is)) (All-nil (λ x. at_of x ≤ d.count))));
      placed = on_items (λ es. All (IsPlaced (length es)) es) (All-append (IsPlaced (length (with_it o d k e))) h (e ∷ []) (All-weaker (IsPlaced (length h)) (IsPlaced (length (with_it o d k e))) placed_on h run.placed)
          (All-cons (IsPlaced (length (with_it o d k e))) e [] tt (All-nil (IsPlaced (length (with_it o d k e))))));
      waiting = λ place v is. omega (arith, long, run.waiting place v (ap (λ (w : World). map.get w.waiting place) (sym (ap (after_all o) items ∙ after_all-append o h (e ∷ []))) ∙ is));
      order = omega arith;
      within = omega (arith, long, n_is);
      durable = λ m. on_items (λ es. HoldsFront k.logging es m n) (front_all m);
      mounted = λ i le. on_items (λ es. IsMounted k.sizes (state_at o es i)) (each_prefix o d k e (λ _ s. IsMounted k.sizes s) run.mounted (λ j high low. run.mounted_now) i (omega (arith, le, long, one_more h e)));
      mounted_now = subst (IsMounted k.sizes) (sym same_now) run.mounted_now;
      named = λ i b low le there. inl (subst (λ (s : State). IsNamed s b) (on_items (λ es. state_at o es i ≡ present o k) (whole_state o d k e i (omega (arith, low, n_is)) (omega (arith, le, long, one_more h e))) ∙ sym same_now) there);
      waits = λ i b p le pends lt. on_items (λ es. (state_at o es i).layout.pending b ≡ Some p)
          (each_prefix o d k e (λ j s. p < j → s.layout.pending b ≡ Some p)
          (λ j inside below. run.waits j b p inside (subst (λ (s : State). s.layout.pending b ≡ Some p) same_now pends) below)
          (λ j high low below. subst (λ (s : State). s.layout.pending b ≡ Some p) same_now pends) i (omega (arith, le, long, one_more h e)) lt);
      pending = λ b p pends. omega (arith, long, run.pending b p (subst (λ (s : State). s.layout.pending b ≡ Some p) same_now pends));
    }

    -- the committed state is the present one, before and after
    same_state : state_at o h k.committed ≡ state_at o k2.history.items n
    same_state = ap (λ (i : ℕ). state_at o h i) all ∙ ap (λ (es : List Event). (after_all o es).state) (take_all (length h) h (omega arith))
        ∙ sym (on_items (λ es. state_at o es n ≡ present o k) (whole_state o d k e n (omega (arith, n_is)) (omega (arith, n_is, one_more h e))))

    gone_at : (t : Tape) → length t.ops ≡ d.count → IsLive o (record k { job = Left }) t → IsLive o gone t
    gone_at t count live = record {
      past = on_items (λ es. Past k.first (IsAllowed k.logging o es) t) (past_by o d k e run.placed now_e k.first t count live.past);
      reading = live.reading;
      now = (
        subst (λ (s : State). IsLevel k.sizes s k.log.serial k.log.head t) same_state live.now.0,
        subst (λ (s : State). IsLeftSettled s t) same_state live.now.1,
      );
    }

    pub gone_told : IsInStep d → Told d (IsLive o (record k { job = Left })) → Told d (IsLive o gone)
    gone_told step told = by_cases d.told step told
      where
        by_cases : (x : Option Tape) → IfSome x (λ t. length t.ops ≡ d.count) → IfSome x (IsLive o (record k { job = Left })) → IfSome x (IsLive o gone)
        by_cases None count live = tt
        by_cases (Some t) count live = gone_at t count live

    -- a crash leaves one image, clean, which reads as the tree
    pub gone_left : Told d (IsLive o gone) → Told d (IsLeftSettled (present o k))
    gone_left told = told_weaker d (IsLive o gone) (IsLeftSettled (present o k)) (λ t live. subst (λ (s : State). IsLeftSettled s t)
        (on_items (λ es. state_at o es n ≡ present o k) (whole_state o d k e n (omega (arith, n_is)) (omega (arith, n_is, one_more h e)))) live.now.1) told
