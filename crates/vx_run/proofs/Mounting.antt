-- What a core asks of its mount, by what the mount says of itself.
use Rattle.std.proofs.Common.{◌≡◌, ℕ, ◌+◌, ◌<◌, ◌≤◌, Bool, true, false, List, [], ◌∷◌, ◌++◌, length, length-append, append-nil, Option, Some, None, Result, Ok, Err, refl, sym, ◌∙◌, ap, subst, inl, inr, arith, if◌then◌else◌}
use Rattle.std.specs.Prelude.{vec_capacity, slice_get, IsSome, IfOk, OnOk, OnErr}
use Rattle.std.specs.FinMap as map
use Rattle.std.proofs.Common.{Vec, Global}
use Rattle.vx_base.specs.declared.call.Call.{Call}
use Rattle.vx_base.specs.declared.event.Event.{Event}
use Rattle.vx_base.specs.declared.event.Event.TheVariants as event
use Rattle.vx_base.specs.declared.refusal.Refusal.{Refusal}
use Rattle.vx_base.specs.declared.refusal.Refusal.TheVariants as no
use Rattle.vx_base.specs.declared.reply.Reply.{Reply}
use Rattle.vx_base.specs.declared.reply.Reply.TheVariants as say
use Rattle.vx_base.specs.Faults.{HasCause}
use Rattle.vx_dev.specs.Tape as dev
use Rattle.vx_model.specs.Legal.{World, Phase, Waiting, in_use, stopping, stopped, unmounted, phase_after, is_stop, after, after_all}
use Rattle.vx_stage.specs.Growths.{IsBusy, MayAnswer}
use Rattle.vx_stage.specs.declared.kernel.Job.{Job}
use Rattle.vx_stage.specs.declared.kernel.Job.TheVariants.{Leave, LeaveOut, Left, Broken}
use Rattle.vx_calls.specs.declared.mount.Mount.{Mount}
use Rattle.vx_calls.specs.Calls as calls
use Rattle.vx_calls.specs.Mounts as mounts
use Rattle.vx_calls.specs.Potentials.{promised, debt, last_events, per_call, HasWorked, HasRaised}
use Rattle.vx_mount.specs.Faults as turn
use Rattle.vx_core.specs.Mounts as core
use Rattle.vx_run.specs.Mounted.{is_leaving, view_of, IsLeftWhole, Keeps, IsBuilt}

-- ---- what it may be asked

pub not_busy : (j : Job) → is_leaving j ≡ false → IsBusy j → ⊥
not_busy Leave free busy = absurd (cc)
not_busy LeaveOut free busy = absurd (cc)
not_busy _ free busy = busy

pub not_leaving : (j : Job) → (IsBusy j → ⊥) → is_leaving j ≡ false
not_leaving Leave free = absurd (free tt)
not_leaving LeaveOut free = absurd (free tt)
not_leaving _ free = refl

module _ (room : ℕ) (m : Mount) (d : dev.State) where
  pub used : core.IsUsed (λ o. Keeps o room m d) (view_of room m d) → mounts.IsUsed d m
  used u = record { opening = u.opening; at = u.keeps.at; in_use = u.used }

  pub has_room : (o : World) (len : ℕ) → Keeps o room m d → 0 < (view_of room m d).spare → len ≡ length m.kernel.history.items → len < vec_capacity m.kernel.history
  has_room o len k some long = let few = k.few in let capacity = k.capacity in omega (arith, few, capacity, some, long)

-- ---- phases

pub push : (w : World) (h : List Event) (e : Event) → after_all w (h ++ e ∷ []) ≡ after (after_all w h) e
push w [] e = refl
push w (x ∷ h) e = push (after w x) h e

-- a history that goes on has not left the file system
pub not_left : (m : Mount) (p : Phase) → p ≡ in_use → p ≡ unmounted → IsLeftWhole m
not_left m p used left = absurd (let no_way : in_use ≡ unmounted = sym used ∙ left in cc)

pub phase_do : (o : World) (h later : List Event) (e : Event) → later ≡ h ++ e ∷ [] → (after (after_all o h) e).phase ≡ in_use → (after_all o later).phase ≡ in_use
phase_do o h later e is same = ap (λ es. (after_all o es).phase) is ∙ ap (λ (w : World). w.phase) (push o h e) ∙ same

pub phase_released : (o : World) (h later : List Event) (at : ℕ) → mounts.Released h later at → (after_all o h).phase ≡ in_use → (after_all o later).phase ≡ in_use
phase_released o h later at r used0 = by_flag r.released r.is
  where
    by_flag : (b : Bool) → later ≡ h ++ mounts.releases b at r.upto → (after_all o later).phase ≡ in_use
    by_flag true is = phase_do o h later (event.Release at r.upto) is used0
    by_flag false is = ap (λ es. (after_all o es).phase) (is ∙ append-nil h) ∙ used0

pub released : (h later : List Event) (at : ℕ) → mounts.Released h later at → core.Released h later at
released h later at r = record { released = r.released; upto = r.upto; is = r.is ∙ same r.released }
  where
    same : (b : Bool) → h ++ mounts.releases b at r.upto ≡ h ++ core.releases b at r.upto
    same true = refl
    same false = refl

pub phase_same : (o : World) (h later : List Event) → later ≡ h → (after_all o h).phase ≡ in_use → (after_all o later).phase ≡ in_use
phase_same o h later same used = ap (λ es. (after_all o es).phase) same ∙ used

-- an answer leaves no file system
ret_phase : (v : Option Waiting) (answer : Reply) → phase_after in_use v answer ≡ unmounted → ⊥
ret_phase None answer left = cc
ret_phase (Some v) say.Fine left = by_stop (is_stop v.call) left
  where
    by_stop : (b : Bool) → (if b then stopping else in_use) ≡ unmounted → ⊥
    by_stop true e = cc
    by_stop false e = cc
ret_phase (Some v) answer left = cc

pub phase_ret : (o : World) (h later : List Event) (at place : ℕ) (answer : Reply) → later ≡ h ++ event.Ret at place answer ∷ [] → (after_all o h).phase ≡ in_use → (after_all o later).phase ≡ unmounted → ⊥
phase_ret o h later at place answer is used left =
    let e = event.Ret at place answer in
    let w = after_all o h in
    let same : phase_after w.phase (map.get w.waiting place) answer ≡ unmounted = sym (ap (λ es. (after_all o es).phase) is ∙ ap (λ (x : World). x.phase) (push o h e)) ∙ left in
    ret_phase (map.get w.waiting place) answer (subst (λ p. phase_after p (map.get w.waiting place) answer ≡ unmounted) used same)

pub phase_stopped : (o : World) (h later : List Event) (at : ℕ) → later ≡ h ++ event.Stopped at ∷ [] → (after_all o later).phase ≡ unmounted → ⊥
phase_stopped o h later at is left =
    let same : stopped ≡ unmounted = sym (ap (λ es. (after_all o es).phase) is ∙ ap (λ (x : World). x.phase) (push o h (event.Stopped at))) ∙ left in
    cc

-- with the Unmounted all is committed
here : (h : List Event) (e : Event) → slice_get (h ++ e ∷ []) (length h) ≡ Some e
here [] e = refl
here (x ∷ h) e = here h e

pub left_whole : (o : World) (d : dev.State) (m : Mount) (h : List Event) (at : ℕ) → mounts.IsAt o d m → m.kernel.history.items ≡ h ++ event.Unmounted at ∷ [] → m.kernel.job ≡ Left → IsLeftWhole m
left_whole o d m h at is_at is job =
    let e = event.Unmounted at in
    let there : slice_get m.kernel.history.items (length h) ≡ Some e = ap (λ es. slice_get es (length h)) is ∙ here h e in
    let low : length h < m.kernel.committed = (is_at.run.durable at).unmounted at (length h) there (omega arith) in
    let long : length m.kernel.history.items ≡ length h + length (e ∷ []) = ap length is ∙ length-append h (e ∷ []) in
    let order = is_at.run.order in
    let within = is_at.run.within in
    record { job = job; committed = omega (arith, low, long, order, within) }

-- ---- faults

pub failing : (before now : Option ℕ) (room : ℕ) (m later : Mount) (d e : dev.State) → calls.HasFailed before now d e → core.HasFailed before now (view_of room m d) (view_of room later e)
failing None None room m later d e is = is
failing None (Some faults) room m later d e is = is
failing (Some faults) now room m later d e is = (is.0, (ap (λ (x : dev.State). x.count) is.1, ap (λ (x : dev.State). x.write_faults) is.1))

pub failing_by : {T E : Type 0} (r : Result T E) (room : ℕ) (m later : Mount) (d e : dev.State) → m.disabled ≡ None → OnOk r (later.disabled ≡ None) → OnErr r (later.disabled ≡ Some e.write_faults) → HasCause d.write_faults e.write_faults r
    → core.HasFailed m.disabled later.disabled (view_of room m d) (view_of room later e)
failing_by (Ok x) room m later d e none ok err cause =
    subst (λ o. core.HasFailed o later.disabled (view_of room m d) (view_of room later e)) (sym none)
    (subst (λ o. core.HasFailed None o (view_of room m d) (view_of room later e)) (sym ok) cause.fine)
failing_by (Err x) room m later d e none ok err cause =
    subst (λ o. core.HasFailed o later.disabled (view_of room m d) (view_of room later e)) (sym none)
    (subst (λ o. core.HasFailed None o (view_of room m d) (view_of room later e)) (sym err) (cause.failed, refl))

same_device : (why : Refusal) → calls.is_of_device why ≡ turn.is_of_device why
same_device no.ReadFault = refl
same_device no.WriteFault = refl
same_device (no.Disabled faults) = refl
same_device _ = refl

faultless : (answer : Reply) → calls.IsFaultless answer → turn.IsFaultless answer
faultless (say.Refused why) is = sym (same_device why) ∙ is
faultless _ is = tt

pub tells : (before now : Option ℕ) (faults : ℕ) (answer : Reply) → calls.TellsFault before now faults answer → turn.TellsFault before now faults answer
tells None None faults answer is = faultless answer is
tells None (Some n) faults answer is = is
tells (Some n) now faults answer is = is

-- ---- lines, and what a turn does

pub built_line : (o : Option Call) → core.IsBuilt IsBuilt o → calls.IsBuilt o
built_line None is = is
built_line (Some c) is = is

pub stage : (room : ℕ) (m later : Mount) (d e : dev.State) → later.kernel.logging ≡ m.kernel.logging → d.count ≤ e.count → e.count ≤ d.count + 8 → core.HasFailed m.disabled later.disabled (view_of room m d) (view_of room later e)
    → core.IsStage (view_of room m d) (view_of room later e)
stage room m later d e mode later_is few failed = record { logging = mode; later = later_is; few = few; failing = failed }

pub done : (room : ℕ) (m later : Mount) (d e : dev.State) (lines left : List (List Call)) (session answered place : ℕ) (answer : Reply) (commits : Bool)
    → calls.HasDone e.count m later lines left session answered place answer commits → calls.TellsFault m.disabled later.disabled e.write_faults answer → HasRaised per_call 3 d e m later
    → core.HasDone (view_of room m d) (view_of room later e) lines left session answered place answer commits
done room m later d e lines left session answered place answer commits is told raised = record {
  done = is.begun;
  line = is.line;
  place_is = is.place_is;
  history = is.history;
  moved = is.moved;
  commits_is = is.commits_is;
  tells = tells m.disabled later.disabled e.write_faults answer told;
  quiet = λ same. ap (λ (x : dev.State). x.count) (raised.quiet same);
  room = (let more = raised.promised in omega (arith, more));
}

pub made_room : (room : ℕ) (m later : Mount) (d e : dev.State) → mounts.Released m.kernel.history.items later.kernel.history.items e.count → m.disabled ≡ None → later.disabled ≡ None → HasWorked d e m later
    → core.HasMadeRoom (view_of room m d) (view_of room later e)
made_room room m later d e r none still worked = record {
  history = released m.kernel.history.items later.kernel.history.items e.count r;
  works = elim worked.works [
    | inl lt ↦ inl lt
    | inr more ↦ inr (omega (arith, more))
  ];
  room = (let less = worked.promised in omega (arith, less));
  enabled = none;
  still = still;
}

-- ---- what is kept

pub keeps : (o : World) (room : ℕ) (m later : Mount) (d e : dev.State) → Keeps o room m d → mounts.IsAt o e later → promised later ≤ room → vec_capacity m.kernel.history ≤ vec_capacity later.kernel.history → later.kernel.first ≡ m.kernel.first
    → ((after_all o later.kernel.history.items).phase ≡ unmounted → IsLeftWhole later) → Keeps o room later e
keeps o room m later d e k at few capacity first left = record { at = at; few = few; capacity = (let was = k.capacity in omega (arith, was, capacity)); small = k.small; first = first ∙ k.first; left = left }

pub may_answer : (o : World) (room : ℕ) (m : Mount) (d : dev.State) (place : ℕ) (answer : Reply) → mounts.IsAt o d m → core.MayAnswer o (view_of room m d) place answer → MayAnswer o m.kernel place answer
may_answer o room m d place answer at may = record { mounted = may.mounted; allowed = may.allowed; earned = may.earned; refused = λ broken. may.refused (by_flag m.disabled refl broken) }
  where
    by_flag : (x : Option ℕ) → m.disabled ≡ x → m.kernel.job ≡ Broken → IsSome m.disabled
    by_flag None none broken = absurd (at.enabled none broken)
    by_flag (Some n) some broken = subst IsSome (sym some) refl

pub leaves : (room : ℕ) (m later : Mount) (left : Bool) (at : ℕ) → mounts.LeavesOn left m.kernel later.kernel at → (released : Bool) × ((upto : ℕ) × (later.kernel.history.items ≡ m.kernel.history.items ++ core.leaves left released at upto))
leaves room m later true at is = (false, (0, is.0))
leaves room m later false at is = (is.released, (is.upto, is.is ∙ same is.released))
  where
    same : (b : Bool) → m.kernel.history.items ++ mounts.releases b at is.upto ≡ m.kernel.history.items ++ core.leaves false b at is.upto
    same true = refl
    same false = refl

pub promised_one : (m later : Mount) (e : Event) → later.kernel.history.items ≡ m.kernel.history.items ++ e ∷ [] → debt later ≡ debt m → promised later ≡ promised m + 1
promised_one m later e is same = let long : length later.kernel.history.items ≡ length m.kernel.history.items + length (e ∷ []) = ap length is ∙ length-append m.kernel.history.items (e ∷ []) in omega (arith, long, same)

pub last_most : {E : Type 0} (r : Result Bool E) → last_events r ≤ 1
last_most (Ok true) = omega arith
last_most (Ok false) = omega arith
last_most (Err e) = omega arith

pub left_by : {E : Type 0} (r : Result Bool E) (o : World) (e : dev.State) (m later : Mount) → IfOk r (λ left. mounts.LeavesOn left m.kernel later.kernel e.count) → OnErr r (later.kernel.history ≡ m.kernel.history)
    → (after_all o m.kernel.history.items).phase ≡ in_use → mounts.IsAt o e later → (after_all o later.kernel.history.items).phase ≡ unmounted → IsLeftWhole later
left_by (Ok true) o e m later ok err used0 at left = left_whole o e later m.kernel.history.items e.count at ok.0 ok.1
left_by (Ok false) o e m later ok err used0 at left = not_left later (after_all o later.kernel.history.items).phase (phase_released o m.kernel.history.items later.kernel.history.items e.count ok used0) left
left_by (Err x) o e m later ok err used0 at left =
    not_left later (after_all o later.kernel.history.items).phase (phase_same o m.kernel.history.items later.kernel.history.items (ap (λ (h : Vec Event Global). h.items) err) used0) left

pub leaves_by : {E : Type 0} (r : Result Bool E) (room : ℕ) (m later : Mount) (at : ℕ) → IfOk r (λ left. mounts.LeavesOn left m.kernel later.kernel at)
    → IfOk r (λ left. (released : Bool) × ((upto : ℕ) × (later.kernel.history.items ≡ m.kernel.history.items ++ core.leaves left released at upto)))
leaves_by (Ok left) room m later at is = leaves room m later left at is
leaves_by (Err x) room m later at is = tt
