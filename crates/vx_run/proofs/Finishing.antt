-- A run that has ended.
use Rattle.std.proofs.Common.{◌≡◌, ℕ, ◌<◌, ◌≤◌, Bool, true, false, not, ◌&&◌, ◌||◌, List, [], ◌∷◌, length, get_or, Option, Some, None, Result, Ok, Err, refl, sym, ◌∙◌, ap, subst, inl, inr, arith}
use Rattle.std.specs.Prelude.{All, IfSome, OnOk, OnErr, is_ok, is_some, replicate}
use Rattle.std.specs.Io.KnownBytes.{Appends}
use Rattle.std.proofs.lemmas.List.{take_all, get_or-replicate, length-replicate}
use Rattle.std.proofs.lemmas.Option.{slice_get_within, get_or_from_slice_get}
use Rattle.std.proofs.lemmas.List.Elements.{All-nil, All-cons, All-weaker}
use Rattle.vx_base.specs.declared.call.Call.{Call}
use Rattle.vx_base.specs.declared.event.Event.{Event}
use Rattle.vx_base.specs.declared.event.Event.TheVariants as event
use Rattle.vx_base.specs.Faults.{Rose, HasCause}
use Rattle.vx_dev.specs.Tape as dev
use Rattle.vx_dev.specs.Moments.{Told}
use Rattle.vx_model.specs.AllowedLaws.{AllowedLaws}
use Rattle.vx_model.specs.Legal.{World, Phase, in_use, stopping, stopped, unmounted, Legal, at_of, after, after_all}
use Rattle.vx_model.specs.LaidOut.{IsLaidOut, IsPlain}
use Rattle.vx_model.specs.Replays.{IsLeft}
use Rattle.vx_model.specs.Settled.{IsLeftSettled}
use Rattle.vx_mount.specs.Cores.{has_ended, is_end}
use Rattle.vx_mount.specs.Sessions.{is_stopped}
use Rattle.vx_mount.specs.Views.{CoreView}
use Rattle.vx_core.specs.Facts as core
use Rattle.vx_core.specs.Facts.{AreFree}
use Rattle.vx_core.specs.Faults as told
use Rattle.vx_core.specs.Mounts.{MountView}
use Rattle.vx_core.specs.Tracks.{IsOnCourse, last_event}
use Rattle.vx_script.specs.Puts.{AppendsPrefix}
use Rattle.vx_stage.specs.Kernels.{IsLive, Now, present}
use Rattle.vx_stage.specs.Leads.{state_at}
use Rattle.vx_stage.specs.declared.kernel.Job.TheVariants.{Left}
use Rattle.vx_stage.specs.declared.kernel.Kernel.{Kernel}
use Rattle.vx_grammar.specs.declared.script.Script.{Script}
use Rattle.vx_run.proofs.Owning.{IsOwnTree, left_own}
use Rattle.vx_run.specs.Ends.{Taking, Takes, AreInOrder, CameBetween, IsPlayed, is_unmounted_phase, is_unmounted}

pub takes_of : {E : Type 0} (t : Taking) (text : List ℕ) (r : Result (Unit {0}) E) → OnOk r (Appends t.before t.now text) → OnErr r (AppendsPrefix t.before t.now text) → HasCause t.faults_before t.faults r → Takes t text (is_ok r)
takes_of t text (Ok x) ok err cause = (ok, cause.fine)
takes_of t text (Err e) ok err cause = (err, cause.failed)

-- where the turns begin
pub begun_is : (v w : CoreView) → v.lines ≡ w.lines → v.history ≡ w.history → v.logging ≡ w.logging → v.count ≡ w.count → v.write_faults ≡ w.write_faults → v.disabled ≡ w.disabled → v.locks ≡ w.locks → v ≡ w
begun_is v w same empty logging count faults off locks = λ i. record { lines = same i; history = empty i; logging = logging i; count = count i; write_faults = faults i; disabled = off i; locks = locks i }

-- no session holds a lock
pub none_held : (n : ℕ) (locks : List (Option ℕ)) → locks ≡ replicate n None → AreFree locks
none_held n locks is ino holder held =
    let free_lock : Option ℕ = None in
    let inside : ino < length locks = slice_get_within locks ino (Some holder) held in
    let long : length locks ≡ n = ap length is ∙ length-replicate n free_lock in
    let there : get_or locks ino None ≡ Some holder = get_or_from_slice_get locks ino (Some holder) None held in
    let free : get_or locks ino None ≡ None = ap (λ (l : List (Option ℕ)). get_or l ino None) is ∙ get_or-replicate n ino free_lock free_lock (subst (λ k. ino < k) long inside) in
    let no_way : free_lock ≡ Some holder = sym free ∙ there in
    absurd (cc)

-- ---- the moments of a legal history

after_at : (w : World) (e : Event) → (after w e).at ≡ at_of e
after_at w (event.Do at session line c reply) = refl
after_at w (event.Ret at place answer) = refl
after_at w (event.Settle at ino size) = refl
after_at w (event.Release at upto) = refl
after_at w (event.MoveTake at place ino) = refl
after_at w (event.MoveSwitch at place ino from to) = refl
after_at w (event.MoveGive at place ino cause) = refl
after_at w (event.Bar at place units) = refl
after_at w (event.Resized at place units) = refl
after_at w (event.Unbar at place cause) = refl
after_at w (event.Stopped at) = refl
after_at w (event.Unmounted at) = refl

came_from : (w : World) (h : List Event) → Legal w h → All (λ e. w.at ≤ at_of e) h
came_from w [] legal = All-nil (λ e. w.at ≤ at_of e)
came_from w (e ∷ es) legal =
    let rest : All (λ x. (after w e).at ≤ at_of x) es = came_from (after w e) es legal.1 in
    let here : w.at ≤ at_of e = legal.0.later in
    let same : (after w e).at ≡ at_of e = after_at w e in
    All-cons (λ x. w.at ≤ at_of x) e es here (All-weaker (λ x. (after w e).at ≤ at_of x) (λ x. w.at ≤ at_of x) (λ x le. omega (arith, here, same, le)) es rest)

pub later_than : (w : World) (h : List Event) → Legal w h → w.at ≤ (after_all w h).at
later_than w [] legal = omega arith
later_than w (e ∷ es) legal =
    let rest : (after w e).at ≤ (after_all (after w e) es).at = later_than (after w e) es legal.1 in
    let here : w.at ≤ at_of e = legal.0.later in
    let same : (after w e).at ≡ at_of e = after_at w e in
    omega (arith, rest, here, same)

pub came_between : (o : World) (h : List Event) (count : ℕ) → Legal o h → All (λ e. at_of e ≤ count) h → All (CameBetween o.at count) h
came_between o h count legal upper = λ i e lt. (came_from o h legal i e lt, upper i e lt)

-- ---- how it ended

or_false : (b c : Bool) → b ≡ false → (b || c) ≡ true → c ≡ true
or_false true c open_end ended = absurd (cc)
or_false false c open_end ended = ended

and_false : (b : Bool) → false ≡ (b && false)
and_false true = refl
and_false false = refl

pub disabled_by : (v : MountView) (lists : List (List Call)) (locks : List (Option ℕ)) → is_end (last_event v.history) ≡ false → has_ended (core.view_of v lists locks) ≡ true → is_some v.disabled ≡ true
unfolding has_ended
disabled_by v lists locks open_end ended = or_false (is_end (last_event v.history)) (is_some v.disabled) open_end ended

pub ended_by : (o : World) (v : MountView) (lists lines : List (List Call)) (locks : List (Option ℕ)) (run_stopped : Bool) → IsOnCourse run_stopped lines (after_all o v.history) v.history → (is_end (last_event v.history) ≡ true → v.disabled ≡ None)
    → has_ended (core.view_of v lists locks) ≡ true → is_unmounted o v.history ≡ (not (is_some v.disabled) && not (is_stopped v.history))
ended_by o v lists lines locks true course end ended =
    ap is_unmounted_phase course.phase ∙ and_false (not (is_some v.disabled)) ∙ ap (λ b. not (is_some v.disabled) && not b) (sym course.stops)
ended_by o v lists lines locks false (inl runs) end ended =
    ap is_unmounted_phase runs.phase ∙ ap (λ b. not b && not (is_stopped v.history)) (sym (disabled_by v lists locks runs.open_end ended))
ended_by o v lists lines locks false (inr over) end ended =
    let enabled : v.disabled ≡ None = end over.end in
    ap is_unmounted_phase over.phase ∙ ap (λ b. true && not b) (sym over.runs) ∙ ap (λ (x : Option ℕ). not (is_some x) && not (is_stopped v.history)) (sym enabled)

-- a run that was stopped was not disabled
pub never_both : (o : World) (v : MountView) (lines : List (List Call)) (run_stopped : Bool) → IsOnCourse run_stopped lines (after_all o v.history) v.history → (is_end (last_event v.history) ≡ true → v.disabled ≡ None) → is_some v.disabled ≡ true → is_stopped v.history ≡ false
never_both o v lines true course end on = absurd (let enabled : v.disabled ≡ None = end course.end in let no_way : false ≡ true = sym (ap (λ (x : Option ℕ). is_some x) enabled) ∙ on in cc)
never_both o v lines false (inl runs) end on = runs.runs
never_both o v lines false (inr over) end on = over.runs

pub in_order : (count : Option ℕ) (v : MountView) (d : dev.State) (lines : List (List Call)) → v.write_faults ≡ d.write_faults → v.count ≡ d.count → told.AreInOrder count v lines → AreInOrder count d v.history
in_order None v d lines faults counts order = order
in_order (Some n) v d lines faults counts order = (
  order.0 ∙ faults,
  elim order.1 [
    | inl stops ↦ inl (subst (λ k. told.StopsAt n k v.history) counts stops)
    | inr over ↦ inr over.1
  ],
)

pub fine_if : (before now : ℕ) (o : Option ℕ) → told.TellsFaults before now o → is_some o ≡ false → now ≡ before
fine_if before now None tells off = tells
fine_if before now (Some n) tells off = absurd (cc)

pub rose_if : (before now : ℕ) (o : Option ℕ) → told.TellsFaults before now o → is_some o ≡ true → Rose before now
rose_if before now None tells on = absurd (cc)
rose_if before now (Some n) tells on = tells

-- ---- what it leaves

pub phase_unmounted : (p : Phase) → is_unmounted_phase p ≡ true → p ≡ unmounted
phase_unmounted in_use is = absurd (cc)
phase_unmounted stopping is = absurd (cc)
phase_unmounted stopped is = absurd (cc)
phase_unmounted unmounted is = refl

left_now : (laws : AllowedLaws) (own : IsOwnTree) (o : World) (k : Kernel) (t : dev.Tape) → IsLaidOut (present o k) → IsPlain (present o k) → k.job ≡ Left → k.committed ≡ length k.history.items → IsLive o k t
    → IsLeft o.state.layout.device_sectors (after_all o k.history.items).state.tree t
left_now laws own o k t laid_out plain job committed live =
    let now : Now k Left o live.reading t = subst (λ j. Now k j o live.reading t) job live.now in
    let all : state_at o k.history.items k.committed ≡ (after_all o k.history.items).state =
    ap (state_at o k.history.items) committed ∙ ap (λ (h : List Event). (after_all o h).state) (take_all (length k.history.items) k.history.items (omega arith)) in
    let left : IsLeft (after_all o k.history.items).state.layout.device_sectors (after_all o k.history.items).state.tree t = left_own own (present o k) laid_out plain t (subst (λ x. IsLeftSettled x t) all now.1) in
    subst (λ n. IsLeft n (after_all o k.history.items).state.tree t) (laws.device o k.history.items) left

pub told_left : (laws : AllowedLaws) (own : IsOwnTree) (o : World) (k : Kernel) (d : dev.State) → IsLaidOut (present o k) → IsPlain (present o k) → k.job ≡ Left → k.committed ≡ length k.history.items → Told d (IsLive o k)
    → Told d (IsLeft o.state.layout.device_sectors (after_all o k.history.items).state.tree)
told_left laws own o k d laid_out plain job committed live = for d.told live
  where
    for : (t : Option dev.Tape) → IfSome t (IsLive o k) → IfSome t (IsLeft o.state.layout.device_sectors (after_all o k.history.items).state.tree)
    for None is = tt
    for (Some t) is = left_now laws own o k t laid_out plain job committed is

-- ---- where it began

pub played_from : (o p : World) (u v : CoreView) (script : Script) (m n : ℕ) (d : dev.State) (disabled : Bool) (h : List Event) → o ≡ p → u ≡ v → m ≡ n → IsPlayed o u script m d disabled h → IsPlayed p v script n d disabled h
played_from o p u v script m n d disabled h world view size is =
    subst (λ k. IsPlayed p v script k d disabled h) size (subst (λ a. IsPlayed p a script m d disabled h) view (subst (λ w. IsPlayed w u script m d disabled h) world is))
