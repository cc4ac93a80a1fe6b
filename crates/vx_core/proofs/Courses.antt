-- How far a run is, event by event.
use Rattle.std.proofs.Common.{◌≡◌, ℕ, ◌+◌, ◌-◌, ◌<◌, ◌||◌, List, [], ◌∷◌, ◌++◌, length, length-append, set, Bool, true, false, Option, Some, None, refl, sym, ap, subst, ◌∙◌, arith, inl, inr}
use Rattle.std.specs.Prelude.{slice_get, if◌then◌else◌}
use Rattle.std.proofs.lemmas.Bool.{cases_eq}
use Rattle.std.proofs.lemmas.List.Folds.{list_any-append}
use Rattle.vx_base.specs.declared.call.Call.{Call}
use Rattle.vx_base.specs.declared.call.Call.TheVariants as call
use Rattle.vx_base.specs.declared.event.Event.{Event}
use Rattle.vx_base.specs.declared.event.Event.TheVariants as event
use Rattle.vx_base.specs.declared.mode.Logging.{Logging}
use Rattle.vx_base.specs.declared.reply.Reply.{Reply}
use Rattle.vx_base.specs.declared.reply.Reply.TheVariants as say
use Rattle.vx_base.specs.Lines.{line_after}
use Rattle.vx_model.specs.Allowed.{has_front, is_refusal}
use Rattle.vx_model.specs.Legal.{World, Waiting, in_use, stopping, after, phase_after, is_stop}
use Rattle.vx_mount.specs.GrowthLaws.{GrowthLaws, is_other}
use Rattle.vx_mount.specs.Pieces.{is_stop_call, answers_stop, is_stopping}
use Rattle.vx_mount.specs.Sessions.{is_stop as is_stopped_event, is_stopped, answered}
use Rattle.vx_mount.specs.Cores.{is_end}
use Rattle.vx_core.specs.declared.session.Session.{Session}
use Rattle.vx_core.specs.declared.session.UnderWay.{UnderWay}
use Rattle.vx_core.specs.Facts.{ends_run}
use Rattle.vx_core.specs.Tracks.{under_way_at, IsUnderWay, Tracks, NeedsFront, WaitsForFront, WaitForFronts, last_event, IsRunning, IsStopped, IsUnmounted}
use Rattle.vx_core.proofs.Pushing.{at_same, at_other}

-- ---- the last event

last_is : (laws : GrowthLaws) (h : List Event) (e : Event) → last_event (h ++ e ∷ []) ≡ Some e
last_is laws h e =
    let long : length (h ++ e ∷ []) ≡ length h + length (e ∷ []) = length-append h (e ∷ []) in
    let last : length (h ++ e ∷ []) - 1 ≡ length h = omega arith in
    ap (slice_get (h ++ e ∷ [])) last ∙ laws.here h e

stopped_more : (h : List Event) (e : Event) → is_stopped (h ++ e ∷ []) ≡ (is_stopped h || (is_stopped_event e || false))
unfolding is_stopped
stopped_more h e = list_any-append is_stopped_event h (e ∷ [])

or_true : (b : Bool) → (b || true) ≡ true
or_true true = refl
or_true false = refl

-- ---- a run goes on

module _ (laws : GrowthLaws) (w : World) (h : List Event) where
  running_more : (e : Event) → IsRunning w h → (after w e).phase ≡ in_use → is_stopped_event e ≡ false → is_end (Some e) ≡ false → answers_stop (h ++ e ∷ []) e ≡ false → IsRunning (after w e) (h ++ e ∷ [])
  running_more e r phase no_stop no_end no_answer = record {
    phase = phase;
    runs = stopped_more h e ∙ ap (λ b. is_stopped h || (b || false)) no_stop ∙ ap (λ b. b || false) r.runs;
    settled = laws.stopping h e ∙ no_answer;
    open_end = ap is_end (last_is laws h e) ∙ no_end;
  }

  pub running_do : (at s line : ℕ) (c : Call) (reply : Reply) → IsRunning w h → IsRunning (after w (event.Do at s line c reply)) (h ++ event.Do at s line c reply ∷ [])
  running_do at s line c reply r = running_more (event.Do at s line c reply) r r.phase refl refl refl

  pub running_release : (at upto : ℕ) → IsRunning w h → IsRunning (after w (event.Release at upto)) (h ++ event.Release at upto ∷ [])
  running_release at upto r = running_more (event.Release at upto) r r.phase refl refl refl

  phase_kept : (v : Waiting) (answer : Reply) → ends_run v.call answer ≡ false → phase_after in_use (Some v) answer ≡ in_use
  phase_kept v say.Fine keeps = ap (λ b. if b then stopping else in_use) keeps
  phase_kept v _ keeps = refl

  phase_ended : (v : Waiting) (answer : Reply) → ends_run v.call answer ≡ true → phase_after in_use (Some v) answer ≡ stopping
  phase_ended v say.Fine ends = ap (λ b. if b then stopping else in_use) ends
  phase_ended v say.Begun ends = absurd (cc)
  phase_ended v (say.Made ino) ends = absurd (cc)
  phase_ended v (say.FileStat ino mode nlink size) ends = absurd (cc)
  phase_ended v (say.DirStat ino mode entries) ends = absurd (cc)
  phase_ended v (say.Listing names) ends = absurd (cc)
  phase_ended v (say.Got bytes) ends = absurd (cc)
  phase_ended v (say.Wrote len) ends = absurd (cc)
  phase_ended v (say.Ext attrs) ends = absurd (cc)
  phase_ended v (say.Moved from to) ends = absurd (cc)
  phase_ended v (say.Extents extents pages maps) ends = absurd (cc)
  phase_ended v (say.DirBlocks blocks entries) ends = absurd (cc)
  phase_ended v (say.Refused why) ends = absurd (cc)

  is_stop_do : (at s line : ℕ) (c : Call) (reply : Reply) → is_stop_call (Some (event.Do at s line c reply)) ≡ is_stop c
  is_stop_do at s line call.Stop reply = refl
  is_stop_do at s line _ reply = refl

  -- whether the answer of a call that stands in the history answers a Stop
  answers : (k : List Event) (at place d s line : ℕ) (c : Call) (reply answer : Reply) → slice_get k place ≡ Some (event.Do d s line c reply) → answers_stop k (event.Ret at place answer) ≡ ends_run c answer
  answers k at place d s line c reply say.Fine is = ap is_stop_call is ∙ is_stop_do d s line c reply
  answers k at place d s line c reply _ is = refl

  module _ (lines : List (List Call)) (s n : ℕ) (u : UnderWay) (x : IsUnderWay lines w h s n u) where
    mine : Waiting
    mine = record { session = s; line = n + 1; call = x.call; reply = u.answer }

    pub answers_under_way : (at : ℕ) (answer : Reply) → answers_stop (h ++ event.Ret at u.place answer ∷ []) (event.Ret at u.place answer) ≡ ends_run x.call answer
    answers_under_way at answer =
        answers (h ++ event.Ret at u.place answer ∷ []) at u.place x.at s (n + 1) x.call u.answer answer
        (laws.stays h (event.Ret at u.place answer ∷ []) u.place (event.Do x.at s (n + 1) x.call u.answer) x.stands)

    -- a call is answered, and the run goes on
    pub running_ret : (at : ℕ) (answer : Reply) → ends_run x.call answer ≡ false → IsRunning w h → IsRunning (after w (event.Ret at u.place answer)) (h ++ event.Ret at u.place answer ∷ [])
    unfolding mine
    running_ret at answer keeps r =
        running_more (event.Ret at u.place answer) r
        (ap (λ (o : Option Waiting). phase_after w.phase o answer) x.waits ∙ ap (λ p. phase_after p (Some mine) answer) r.phase ∙ phase_kept mine answer keeps)
        refl refl (answers_under_way at answer ∙ keeps)

    -- the answer of a Stop
    pub stopping_ret : (at : ℕ) (answer : Reply) → ends_run x.call answer ≡ true → IsRunning w h
        → ((after w (event.Ret at u.place answer)).phase ≡ stopping) × (is_stopping (h ++ event.Ret at u.place answer ∷ []) ≡ true)
    unfolding mine
    stopping_ret at answer ends r = (
      ap (λ (o : Option Waiting). phase_after w.phase o answer) x.waits ∙ ap (λ p. phase_after p (Some mine) answer) r.phase ∙ phase_ended mine answer ends,
      laws.stopping h (event.Ret at u.place answer) ∙ answers_under_way at answer ∙ ends,
    )

  pub stopped_by : (at : ℕ) → IsStopped (after w (event.Stopped at)) (h ++ event.Stopped at ∷ [])
  stopped_by at = record {
    phase = refl;
    stops = stopped_more h (event.Stopped at) ∙ or_true (is_stopped h);
    end = ap is_end (last_is laws h (event.Stopped at));
  }

  pub stopped_settled : (at : ℕ) → is_stopping (h ++ event.Stopped at ∷ []) ≡ false
  stopped_settled at = laws.stopping h (event.Stopped at)

  -- ---- no line is left

  pub over_more : (lines : List (List Call)) (sessions : List Session) (e : Event) → is_other e ≡ true → Tracks lines w h sessions → ((s : ℕ) → line_after lines s (answered s h) ≡ None) → (s : ℕ) → line_after lines s (answered s (h ++ e ∷ [])) ≡ None
  over_more lines sessions e other t over s = ap (line_after lines s) (laws.answered_other s h e t.placed other) ∙ over s

  pub unmounted_by : (lines : List (List Call)) (sessions : List Session) (at : ℕ) → Tracks lines w h sessions → IsRunning w h → ((s : ℕ) → line_after lines s (answered s h) ≡ None)
      → IsUnmounted lines (after w (event.Unmounted at)) (h ++ event.Unmounted at ∷ [])
  unmounted_by lines sessions at t r over = record {
    phase = refl;
    runs = stopped_more h (event.Unmounted at) ∙ ap (λ b. b || false) r.runs;
    end = ap is_end (last_is laws h (event.Unmounted at));
    over = over_more lines sessions (event.Unmounted at) refl t over;
  }

-- ---- calls that wait to be committed

needs_there : (mode : Logging) (o : Option Event) → NeedsFront mode o → (e : Event) × (o ≡ Some e)
needs_there mode None x = absurd x
needs_there mode (Some e) x = (e, refl)

fronts_longer : (laws : GrowthLaws) (mode : Logging) (h more : List Event) (o : Option UnderWay) → WaitsForFront mode h o → WaitsForFront mode (h ++ more) o
fronts_longer laws mode h more None x = tt
fronts_longer laws mode h more (Some u) x =
    let there = needs_there mode (slice_get h u.place) x.0 in
    (subst (NeedsFront mode) (there.1 ∙ sym (laws.stays h more u.place there.0 there.1)) x.0, x.1)

pub fronts_more : (laws : GrowthLaws) (mode : Logging) (h more : List Event) (sessions : List Session) → WaitForFronts mode h sessions → WaitForFronts mode (h ++ more) sessions
fronts_more laws mode h more sessions all = λ s. fronts_longer laws mode h more (under_way_at sessions s) (all s)

pub fronts_set : (mode : Logging) (h : List Event) (sessions : List Session) (s : ℕ) (x : Session) → s < length sessions → WaitsForFront mode h x.under_way → WaitForFronts mode h sessions → WaitForFronts mode h (set sessions s x)
fronts_set mode h sessions s x lt here all = λ t. elim (cases_eq s t) [
  | inl same ↦ subst (λ y. WaitsForFront mode h (under_way_at (set sessions s x) y)) same (subst (λ (z : Session). WaitsForFront mode h z.under_way) (sym (at_same sessions s x lt)) here)
  | inr other ↦ subst (λ (z : Session). WaitsForFront mode h z.under_way) (sym (at_other sessions s t x (λ eq. other (sym eq)))) (all t)
]

-- the call that was just done
pub front_here : (laws : GrowthLaws) (mode : Logging) (h : List Event) (at s line : ℕ) (c : Call) (reply : Reply) → has_front mode c ≡ true → is_refusal reply ≡ false
    → WaitsForFront mode (h ++ event.Do at s line c reply ∷ []) (Some (record { place = length h; answer = reply }))
front_here laws mode h at s line c reply front fine = (subst (NeedsFront mode) (sym (laws.here h (event.Do at s line c reply))) front, fine)
