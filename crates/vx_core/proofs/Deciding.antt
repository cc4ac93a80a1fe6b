-- What a session's turn is to do, by what a core keeps.
use Rattle.std.proofs.Common.{◌≡◌, ℕ, ◌<◌, ◌≤◌, List, Bool, true, false, Option, Some, None, is_some, refl, sym, ap, subst, ◌∙◌, inl, inr}
use Rattle.std.specs.Prelude.{IsSome}
use Rattle.vx_base.specs.declared.call.Call.{Call}
use Rattle.vx_base.specs.declared.call.Call.TheVariants as call
use Rattle.vx_base.specs.Lines.{line_after}
use Rattle.vx_model.specs.Legal.{World, after_all}
use Rattle.vx_mount.specs.GrowthLaws.{GrowthLaws}
use Rattle.vx_core.specs.declared.session.Session.{Session}
use Rattle.vx_core.specs.declared.session.UnderWay.{UnderWay}
use Rattle.vx_core.specs.declared.engine.Next.TheVariants as next
use Rattle.vx_core.specs.Facts.{Facts, IsNext}
use Rattle.vx_core.specs.Lines.{script_lines}
use Rattle.vx_core.specs.Mounts.{MountView}
use Rattle.vx_core.specs.Tracks.{session_at, under_way_at, IsUnderWay, IsAnyUnderWay, IsRunning}
use Rattle.vx_core.proofs.Standings.{is_wait, standing_stopped, stands_finished, stands_waiting, stands_past_wait, stands_ready, stands_under_way, line_left}

there : {X : Type 0} (o : Option X) → is_some o ≡ true → (x : X) × (o ≡ Some x)
there None e = absurd (cc)
there (Some x) e = (x, refl)

gone : {X : Type 0} (o : Option X) → is_some o ≡ false → o ≡ None
gone None e = refl
gone (Some x) e = absurd (cc)

some_of : {X : Type 0} (o : Option X) (x : X) → o ≡ Some x → IsSome o
some_of o x e = subst IsSome (sym e) refl

module _ (built : Call → Type 0) (o : World) (kept : Type 0) (v : MountView) (lists : List (List Call)) (sessions : List Session) where
  -- a session that can go on, or has a line left, is in a run that goes on
  pub run_goes_on : (f : Facts built o kept v lists sessions false) (s : ℕ) (c : Call) → line_after (script_lines lists v.history) s (session_at sessions s).answered ≡ Some c → IsRunning (after_all o v.history) v.history
  run_goes_on f s c is = elim f.course [
    | inl runs ↦ runs
    | inr ended ↦
        let none : line_after (script_lines lists v.history) s (session_at sessions s).answered ≡ None = ap (line_after (script_lines lists v.history) s) (sym (f.tracks.answered_is s)) ∙ ended.over s in
        absurd (cc)
  ]

  pub under_there : (f : Facts built o kept v lists sessions false) (s : ℕ) (u : UnderWay) → under_way_at sessions s ≡ Some u → IsUnderWay (script_lines lists v.history) (after_all o v.history) v.history s (session_at sessions s).answered u
  under_there f s u is = subst (IsAnyUnderWay (script_lines lists v.history) (after_all o v.history) v.history s (session_at sessions s).answered) is (f.tracks.under_way s)

  pub runs_under_way : (f : Facts built o kept v lists sessions false) (s : ℕ) (u : UnderWay) → under_way_at sessions s ≡ Some u → IsRunning (after_all o v.history) v.history
  runs_under_way f s u is = let x = under_there f s u is in run_goes_on f s x.call x.line

  pub same_line : (laws : GrowthLaws) (f : Facts built o kept v lists sessions false) (s : ℕ) → under_way_at sessions s ≡ None
      → line_after (script_lines lists v.history) s (session_at sessions s).answered ≡ line_after lists s (session_at sessions s).answered
  same_line laws f s none =
      line_left laws lists (after_all o v.history) v.history sessions f.tracks s (session_at sessions s).answered
      (ap (λ (w : Option UnderWay). record { answered = (session_at sessions s).answered; under_way = w }) none)

  decide_stopped : (ended : Bool) → ended ≡ true → Facts built o kept v lists sessions ended → (s : ℕ) → IsNext v lists sessions s ended next.Nothing
  decide_stopped true e f s = standing_stopped (script_lines lists v.history) v.history s f.course.stops
  decide_stopped false e f s = absurd (cc)

  pub next_stopped : (ended : Bool) → ended ≡ true → Facts built o kept v lists sessions ended → (s : ℕ) → IsNext v lists sessions s ended next.Nothing
  next_stopped = decide_stopped

  module _ (laws : GrowthLaws) (f : Facts built o kept v lists sessions false) (s : ℕ) where
    pub next_under_way : is_some (under_way_at sessions s) ≡ true → IsNext v lists sessions s false next.GoOn
    next_under_way some =
        let x = there (under_way_at sessions s) some in
        let runs = runs_under_way f s x.0 x.1 in (
          stands_under_way (script_lines lists v.history) (after_all o v.history) v.history sessions f.tracks v.logging s (session_at sessions s).answered x.0 runs.runs
              (ap (λ (w : Option UnderWay). record { answered = (session_at sessions s).answered; under_way = w }) x.1) f.fronts,
          (refl, some_of (under_way_at sessions s) x.0 x.1),
        )

    module _ (none : is_some (under_way_at sessions s) ≡ false) where
      pub next_none : line_after lists s (session_at sessions s).answered ≡ None → IsNext v lists sessions s false next.Nothing
      next_none is = stands_finished (script_lines lists v.history) (after_all o v.history) v.history sessions f.tracks s (same_line laws f s (gone (under_way_at sessions s) none) ∙ is)

      pub next_wait : (r k : ℕ) → line_after lists s (session_at sessions s).answered ≡ Some (call.After r k) → (session_at sessions r).answered < k → IsNext v lists sessions s false (next.Wait r k)
      next_wait r k is lt =
          let line = same_line laws f s (gone (under_way_at sessions s) none) ∙ is in
          stands_waiting (script_lines lists v.history) (after_all o v.history) v.history sessions f.tracks s r k (run_goes_on f s (call.After r k) line).runs line lt

      pub next_past_wait : (r k : ℕ) → line_after lists s (session_at sessions s).answered ≡ Some (call.After r k) → k ≤ (session_at sessions r).answered → IsNext v lists sessions s false next.Begin
      next_past_wait r k is le =
          let line = same_line laws f s (gone (under_way_at sessions s) none) ∙ is in (
            stands_past_wait (script_lines lists v.history) (after_all o v.history) v.history sessions f.tracks s r k (run_goes_on f s (call.After r k) line).runs line le,
            (refl, (gone (under_way_at sessions s) none, some_of (line_after lists s (session_at sessions s).answered) (call.After r k) is)),
          )

      pub next_call : (c : Call) → line_after lists s (session_at sessions s).answered ≡ Some c → is_wait c ≡ false → IsNext v lists sessions s false next.Begin
      next_call c is call_is =
          let line = same_line laws f s (gone (under_way_at sessions s) none) ∙ is in (
            stands_ready (script_lines lists v.history) (after_all o v.history) v.history sessions f.tracks s c (run_goes_on f s c line).runs line call_is,
            (refl, (gone (under_way_at sessions s) none, some_of (line_after lists s (session_at sessions s).answered) c is)),
          )

pub no_wait : (c : Call) → ((r k : ℕ) → c ≡ call.After r k → ⊥) → is_wait c ≡ false
no_wait (call.After r k) other = absurd (other r k refl)
no_wait _ other = refl

-- a mount whose sessions have a line left is not being left
pub not_leaving : (built : Call → Type 0) (o : World) (kept : Type 0) (v : MountView) (lists : List (List Call)) (sessions : List Session) (f : Facts built o kept v lists sessions false) (s : ℕ) (c : Call)
    → line_after (script_lines lists v.history) s (session_at sessions s).answered ≡ Some c → v.leaving ≡ false
not_leaving built o kept v lists sessions f s c is = elim v.leaving as (λ b. v.leaving ≡ b → b ≡ false) [
  | true ↦ λ e.
      let none : line_after (script_lines lists v.history) s (session_at sessions s).answered ≡ None = ap (line_after (script_lines lists v.history) s) (sym (f.tracks.answered_is s)) ∙ f.over e s in
      absurd (cc)
  | false ↦ λ e. refl
] refl

some_there : {X : Type 0} (w : Option X) → IsSome w → (x : X) × (w ≡ Some x)
some_there None some = absurd (let no_way : false ≡ true = some in cc)
some_there (Some x) some = (x, refl)

pub free_to_begin : (laws : GrowthLaws) (built : Call → Type 0) (o : World) (kept : Type 0) (v : MountView) (lists : List (List Call)) (sessions : List Session) (f : Facts built o kept v lists sessions false) (s : ℕ)
    → under_way_at sessions s ≡ None → IsSome (line_after lists s (session_at sessions s).answered) → v.leaving ≡ false
free_to_begin laws built o kept v lists sessions f s none some =
    let c = some_there (line_after lists s (session_at sessions s).answered) some in
    not_leaving built o kept v lists sessions f s c.0 (same_line built o kept v lists sessions laws f s none ∙ c.1)

pub free_to_go_on : (built : Call → Type 0) (o : World) (kept : Type 0) (v : MountView) (lists : List (List Call)) (sessions : List Session) (f : Facts built o kept v lists sessions false) (s : ℕ) → IsSome (under_way_at sessions s) → v.leaving ≡ false
free_to_go_on built o kept v lists sessions f s some =
    let u = some_there (under_way_at sessions s) some in
    let x = under_there built o kept v lists sessions f s u.0 u.1 in
    not_leaving built o kept v lists sessions f s x.call x.line
