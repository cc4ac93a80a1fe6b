-- A turn of the unmount.
use Rattle.std.proofs.Common.{◌≡◌, ℕ, ◌≤◌, ◌||◌, List, [], ◌∷◌, ◌++◌, Bool, true, false, Option, Some, None, is_some, refl, sym, ap, subst, ◌∙◌, append-nil, arith, inl, inr}
use Rattle.std.specs.Prelude.{All}
use Rattle.std.proofs.lemmas.List.Elements.{All-cons}
use Rattle.vx_base.specs.declared.call.Call.{Call}
use Rattle.vx_base.specs.declared.event.Event.{Event}
use Rattle.vx_base.specs.declared.event.Event.TheVariants as event
use Rattle.vx_base.specs.Lines.{line_after}
use Rattle.vx_model.specs.Legal.{World, after_all, at_of}
use Rattle.vx_mount.specs.GrowthLaws.{GrowthLaws}
use Rattle.vx_mount.specs.Sessions.{answered, standing}
use Rattle.vx_mount.specs.Cores.{AreUnmountEvents, IsUnmountTurn, has_ended, is_end}
use Rattle.vx_mount.specs.Views.{AllFinished}
use Rattle.vx_core.specs.declared.session.Session.{Session}
use Rattle.vx_core.specs.Facts.{IsScript, Facts, view_of}
use Rattle.vx_core.specs.Faults.{AreOver}
use Rattle.vx_core.specs.Lines.{script_lines}
use Rattle.vx_core.specs.Mounts.{MountView, IsStage, IsOver, leaves}
use Rattle.vx_core.specs.Tracks.{under_way_at, Tracks, WaitForFronts, IsRunning, IsUnmounted, IsOnCourse, last_event}
use Rattle.vx_core.proofs.ScriptLines.{script_other, length_script}
use Rattle.vx_core.proofs.Pushing.{tracks_other}
use Rattle.vx_core.proofs.Standings.{all_over, none_under_way, none_waits, standing_over}
use Rattle.vx_core.proofs.Courses.{fronts_more, running_release, over_more, unmounted_by}
use Rattle.vx_core.proofs.Goings.{after_push}

-- a run whose history has not ended goes on
pub open_runs : (built : Call → Type 0) (o : World) (was : Type 0) (v : MountView) (lists : List (List Call)) (sessions : List Session) (ended : Bool) → Facts built o was v lists sessions ended → is_end (last_event v.history) ≡ false
    → (ended ≡ false) × IsRunning (after_all o v.history) v.history
open_runs built o was v lists sessions true f open_end = absurd (let end = f.course.end in cc)
open_runs built o was v lists sessions false f open_end = (
  refl,
  elim f.course [
    | inl runs ↦ runs
    | inr over ↦ absurd (let end = over.end in cc)
  ],
)

pub not_ended : (v : MountView) (lists : List (List Call)) (locks : List (Option ℕ)) → is_some v.disabled ≡ false → is_end (last_event v.history) ≡ false → has_ended (view_of v lists locks) ≡ false
unfolding has_ended
not_ended v lists locks enabled open_end = rw (open_end, enabled) refl

pub not_disabled : (o : Option ℕ) → is_some o ≡ false → o ≡ None
not_disabled None e = refl
not_disabled (Some n) e = absurd (cc)

or_true : (b : Bool) → (b || true) ≡ true
or_true true = refl
or_true false = refl

pub ended_disabled : (v : MountView) (lists : List (List Call)) (locks : List (Option ℕ)) → is_some v.disabled ≡ true → has_ended (view_of v lists locks) ≡ true
unfolding has_ended
ended_disabled v lists locks disabled = ap (λ b. is_end (last_event v.history) || b) disabled ∙ or_true (is_end (last_event v.history))

pub ended_last : (v : MountView) (lists : List (List Call)) (locks : List (Option ℕ)) → is_end (last_event v.history) ≡ true → has_ended (view_of v lists locks) ≡ true
unfolding has_ended
ended_last v lists locks end = rw end refl

module _ (laws : GrowthLaws) (built : Call → Type 0) (o : World) (was : Type 0) (v : MountView) (lists : List (List Call)) (sessions : List Session) (f : Facts built o was v lists sessions false)
    (runs : IsRunning (after_all o v.history) v.history) (ended : AllFinished (view_of v lists [])) where
  abbrev lines : List (List Call)
  lines = script_lines lists v.history

  no_line : (s : ℕ) → line_after lines s (answered s v.history) ≡ None
  no_line = all_over lines v.history runs.runs ended

  no_call : (s : ℕ) → under_way_at sessions s ≡ None
  no_call = none_under_way lines (after_all o v.history) v.history sessions f.tracks v.logging runs.runs f.fronts (f.counts ∙ sym (length_script lists v.history)) ended

  pub is_over : IsOver o v
  is_over = record { waiting = none_waits lines (after_all o v.history) v.history sessions f.tracks no_call; mounted = runs.phase }

  -- where nothing came, nobody has a line left still
  pub is_over_still : (later : MountView) → later.history ≡ v.history → AreOver (script_lines lists later.history) later.history
  is_over_still later still = subst (λ h. AreOver (script_lines lists h) h) (sym still) no_line

  -- what is known of a history of the unmount
  record Left (h : List Event) : Type 0 where
    tracks : Tracks lines (after_all o h) h sessions
    course : IsOnCourse false lines (after_all o h) h
    over : (s : ℕ) → line_after lines s (answered s h) ≡ None
    same : script_lines lists h ≡ lines

  left_by : (b r : Bool) (at upto : ℕ) → Left (v.history ++ leaves b r at upto)
  left_by true r at upto =
      let e = event.Unmounted at in
      record {
        tracks = subst (λ w. Tracks lines w (v.history ++ e ∷ []) sessions) (sym (after_push o v.history e)) (tracks_other laws lines (after_all o v.history) v.history sessions f.tracks e refl);
        course = inr (subst (λ w. IsUnmounted lines w (v.history ++ e ∷ [])) (sym (after_push o v.history e)) (unmounted_by laws (after_all o v.history) v.history lines sessions at f.tracks runs no_line));
        over = over_more laws (after_all o v.history) v.history lines sessions e refl f.tracks no_line;
        same = script_other laws lists v.history e refl;
      }
  left_by false true at upto =
      let e = event.Release at upto in
      record {
        tracks = subst (λ w. Tracks lines w (v.history ++ e ∷ []) sessions) (sym (after_push o v.history e)) (tracks_other laws lines (after_all o v.history) v.history sessions f.tracks e refl);
        course = inl (subst (λ w. IsRunning w (v.history ++ e ∷ [])) (sym (after_push o v.history e)) (running_release laws (after_all o v.history) v.history at upto runs));
        over = over_more laws (after_all o v.history) v.history lines sessions e refl f.tracks no_line;
        same = script_other laws lists v.history e refl;
      }
  left_by false false at upto = subst Left (sym (append-nil v.history)) (record { tracks = f.tracks; course = inl runs; over = no_line; same = refl })

  own_by : (b r : Bool) (at upto : ℕ) → AreUnmountEvents v.history (leaves b r at upto)
  own_by true r at upto = (tt, tt)
  own_by false true at upto = (tt, tt)
  own_by false false at upto = tt

  inside_by : (low high : ℕ) → low ≤ high → (b r : Bool) (upto : ℕ) → All (λ e. (low ≤ at_of e) × (at_of e ≤ high)) (leaves b r high upto)
  inside_by low high le true r upto = All-cons (λ e. (low ≤ at_of e) × (at_of e ≤ high)) (event.Unmounted high) [] (le, omega arith) (λ i d lt. absurd (omega arith))
  inside_by low high le false true upto = All-cons (λ e. (low ≤ at_of e) × (at_of e ≤ high)) (event.Release high upto) [] (le, omega arith) (λ i d lt. absurd (omega arith))
  inside_by low high le false false upto = λ i d lt. absurd (omega arith)

  module _ (later : MountView) (stage : IsStage v later) (b r : Bool) (upto : ℕ) (is : later.history ≡ v.history ++ leaves b r later.count upto) where
    now : Left later.history
    now = subst Left (sym is) (left_by b r later.count upto)

    pub facts_left : (kept : Type 0) → kept → Facts built o kept later lists sessions false
    facts_left kept keeps = record {
      keeps = keeps;
      tracks = subst (λ l. Tracks l (after_all o later.history) later.history sessions) (sym now.same) now.tracks;
      fronts = subst (λ m. WaitForFronts m later.history sessions) (sym stage.logging)
          (subst (λ h. WaitForFronts v.logging h sessions) (sym is) (fronts_more laws v.logging v.history (leaves b r later.count upto) sessions f.fronts));
      course = subst (λ l. IsOnCourse false l (after_all o later.history) later.history) (sym now.same) now.course;
      script = subst (IsScript built) (sym now.same) f.script;
      counts = f.counts;
      few = f.few;
      over = λ _ s. ap (λ l. line_after l s (answered s later.history)) now.same ∙ now.over s;
    }

    pub unmounts : (locks : List (Option ℕ)) → has_ended (view_of v lists locks) ≡ false → IsUnmountTurn (view_of v lists locks) (view_of later lists locks)
    unmounts locks goes_on = record {
      goes_on = goes_on;
      on = record {
        events = leaves b r later.count upto;
        grown = is;
        own = own_by b r later.count upto;
        onward = stage.later;
        inside = inside_by v.count later.count stage.later b r upto;
        same_lines = now.same;
        same_logging = stage.logging;
        failing = stage.failing;
        still = λ s lt. ap (λ l. standing l later.history s) now.same ∙ standing_over lines later.history s (now.over s);
      };
      few = stage.few;
    }
