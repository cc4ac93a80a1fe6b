-- Where a session stands, and which calls may come, by what a core knows of its sessions.
use Rattle.std.proofs.Common.{◌≡◌, ◌≢◌, ◌⊎◌, ℕ, ◌+◌, ◌<◌, ◌≤◌, ◌&&◌, nat_lt, not, List, length, Bool, true, false, Option, Some, None, refl, sym, ap, subst, ◌∙◌, arith, inl, inr}
use Rattle.std.specs.Prelude.{slice_get, nat_eq}
use Rattle.std.specs.List.{list_any}
use Rattle.std.proofs.lemmas.Bool.{cases_lt, ne_eqb}
use Rattle.std.proofs.lemmas.Bool.Decides.{nat_tests}
use Rattle.std.proofs.lemmas.List.{get_or_past}
use Rattle.std.specs.FinMap as map
use Rattle.vx_base.specs.declared.call.Call.{Call}
use Rattle.vx_base.specs.declared.call.Call.TheVariants as call
use Rattle.vx_base.specs.declared.event.Event.{Event}
use Rattle.vx_base.specs.declared.event.Event.TheVariants as event
use Rattle.vx_base.specs.declared.mode.Logging.{Logging}
use Rattle.vx_base.specs.declared.reply.Reply.{Reply}
use Rattle.vx_base.specs.Lines.{line_after}
use Rattle.vx_model.specs.Allowed.{has_front, is_log}
use Rattle.vx_model.specs.Legal.{World, Waiting, is_idle, RetAllowed, tells_failed_write}
use Rattle.vx_mount.specs.GrowthLaws.{GrowthLaws}
use Rattle.vx_mount.specs.Sessions.{begun, answered, is_stopped, standing_at, standing, finished, waiting, ready}
use Rattle.vx_core.specs.declared.session.Session.{Session}
use Rattle.vx_core.specs.declared.session.UnderWay.{UnderWay}
use Rattle.vx_core.specs.Lines.{script_lines}
use Rattle.vx_core.specs.Tracks.{no_session, session_at, under_way_at, calls_under_way, IsUnderWay, IsAnyUnderWay, Tracks, NeedsFront, WaitsForFront, WaitForFronts}
use Rattle.vx_core.proofs.ScriptLines.{next_line, no_lines}
use Rattle.vx_core.proofs.WaitingCalls.{no_value_passes, no_entries}

-- the call waits for lines of another session
abbrev pub is_wait : Call → Bool
is_wait (call.After session lines) = true
is_wait _ = false

-- ---- calls that must be committed

no_change : (b : Bool) → (b && false) ≡ true → ⊥
no_change true e = cc
no_change false e = cc

-- ... wait for no other session
pub front_no_wait : (mode : Logging) (c : Call) → has_front mode c ≡ true → is_wait c ≡ false
front_no_wait mode (call.After session lines) e = absurd (no_change (is_log mode) e)
front_no_wait mode _ e = refl

-- ... and end no run
pub front_no_stop : (mode : Logging) → has_front mode call.Stop ≡ true → ⊥
front_no_stop mode e = no_change (is_log mode) e

-- ---- standing

standing_of_wait : (h : List Event) (r k n : ℕ) → answered r h ≡ n → n < k → standing_at h (Some (call.After r k)) ≡ waiting r k
standing_of_wait h r k n e lt = grind (arith, nat_tests)

standing_past_wait : (h : List Event) (r k n : ℕ) → answered r h ≡ n → k ≤ n → standing_at h (Some (call.After r k)) ≡ ready
standing_past_wait h r k n e le = grind (arith, nat_tests)

standing_of_call : (h : List Event) (c : Call) → is_wait c ≡ false → standing_at h (Some c) ≡ ready
standing_of_call h (call.After session lines) e = absurd (cc)
standing_of_call h _ e = refl

finished_has_none : (h : List Event) (line : Option Call) → standing_at h line ≡ finished → line ≡ None
finished_has_none h None e = refl
finished_has_none h (Some (call.After session lines)) e = absurd (grind (arith, nat_tests))
finished_has_none h (Some _) e = absurd (cc)

pub standing_stopped : (lines : List (List Call)) (h : List Event) (s : ℕ) → is_stopped h ≡ true → standing lines h s ≡ finished
unfolding standing
standing_stopped lines h s e = rw e refl

standing_running : (lines : List (List Call)) (h : List Event) (s : ℕ) → is_stopped h ≡ false → standing lines h s ≡ standing_at h (line_after lines s (answered s h))
unfolding standing
standing_running lines h s e = rw e refl

-- a session without a line left
pub standing_over : (lines : List (List Call)) (h : List Event) (s : ℕ) → line_after lines s (answered s h) ≡ None → standing lines h s ≡ finished
standing_over lines h s none = elim (is_stopped h) as (λ b. is_stopped h ≡ b → standing lines h s ≡ finished) [
  | true ↦ λ e. standing_stopped lines h s e
  | false ↦ λ e. standing_running lines h s e ∙ ap (standing_at h) none
] refl

no_line_beyond : (lines : List (List Call)) (s n : ℕ) → length lines ≤ s → line_after lines s n ≡ None
unfolding line_after
no_line_beyond lines s n ge = ap (λ (l : List Call). slice_get l n) (no_lines lines s ge)

-- where each session is finished and the run was not stopped, none has a line left
pub all_over : (lines : List (List Call)) (h : List Event) → is_stopped h ≡ false → ((s : ℕ) → s < length lines → standing lines h s ≡ finished) → (s : ℕ) → line_after lines s (answered s h) ≡ None
all_over lines h runs ended s = elim (cases_lt s (length lines)) [
  | inl lt ↦ finished_has_none h (line_after lines s (answered s h)) (sym (standing_running lines h s runs) ∙ ended s lt)
  | inr ge ↦ no_line_beyond lines s (answered s h) ge
]

pub same_needs : (mode : Logging) (o : Option Event) (at s line : ℕ) (c : Call) (reply : Reply) → o ≡ Some (event.Do at s line c reply) → NeedsFront mode o → has_front mode c ≡ true
same_needs mode o at s line c reply e x = subst (NeedsFront mode) e x

module _ (lines : List (List Call)) (w : World) (h : List Event) (sessions : List Session) (t : Tracks lines w h sessions) where
  stands_at : (s : ℕ) → is_stopped h ≡ false → standing lines h s ≡ standing_at h (line_after lines s (session_at sessions s).answered)
  stands_at s runs = standing_running lines h s runs ∙ ap (λ n. standing_at h (line_after lines s n)) (t.answered_is s)

  pub stands_finished : (s : ℕ) → line_after lines s (session_at sessions s).answered ≡ None → standing lines h s ≡ finished
  stands_finished s none = standing_over lines h s (ap (line_after lines s) (t.answered_is s) ∙ none)

  pub stands_waiting : (s r k : ℕ) → is_stopped h ≡ false → line_after lines s (session_at sessions s).answered ≡ Some (call.After r k) → (session_at sessions r).answered < k → standing lines h s ≡ waiting r k
  stands_waiting s r k runs is lt = stands_at s runs ∙ ap (standing_at h) is ∙ standing_of_wait h r k (session_at sessions r).answered (t.answered_is r) lt

  pub stands_past_wait : (s r k : ℕ) → is_stopped h ≡ false → line_after lines s (session_at sessions s).answered ≡ Some (call.After r k) → k ≤ (session_at sessions r).answered → standing lines h s ≡ ready
  stands_past_wait s r k runs is le = stands_at s runs ∙ ap (standing_at h) is ∙ standing_past_wait h r k (session_at sessions r).answered (t.answered_is r) le

  pub stands_ready : (s : ℕ) (c : Call) → is_stopped h ≡ false → line_after lines s (session_at sessions s).answered ≡ Some c → is_wait c ≡ false → standing lines h s ≡ ready
  stands_ready s c runs is call_is = stands_at s runs ∙ ap (standing_at h) is ∙ standing_of_call h c call_is

  -- a session whose call waits to be committed
  pub stands_under_way : (mode : Logging) (s n : ℕ) (u : UnderWay) → is_stopped h ≡ false → session_at sessions s ≡ record { answered = n; under_way = Some u } → WaitForFronts mode h sessions → standing lines h s ≡ ready
  stands_under_way mode s n u runs is fronts =
      let x : IsUnderWay lines w h s n u = subst (λ (z : Session). IsAnyUnderWay lines w h s z.answered z.under_way) is (t.under_way s) in
      let front = subst (λ (z : Session). WaitsForFront mode h z.under_way) is (fronts s) in
      let call_has = same_needs mode (slice_get h u.place) x.at s (n + 1) x.call u.answer x.stands front.0 in
      stands_ready s x.call runs (ap (λ (z : Session). line_after lines s z.answered) is ∙ x.line) (front_no_wait mode x.call call_has)

  -- ---- which calls may come

  not_both : (a b : Bool) → a ≡ false → (a && b) ≡ false
  not_both a b e = rw e refl

  -- a session with nothing under way is idle
  pub idle : (s : ℕ) → under_way_at sessions s ≡ None → is_idle w s ≡ true
  idle s none =
      let p : Waiting → Bool = λ v. nat_eq v.session s && nat_lt 0 v.line in
      let nobody : list_any p (map.values w.waiting) ≡ false =
      no_value_passes p w.waiting (λ place v got.
      let old = t.awaited place v got in
      let there = old.is in
      let ne : v.session ≢ s = λ eq. (let gone : under_way_at sessions v.session ≡ None = ap (under_way_at sessions) eq ∙ none in absurd (cc)) in
      not_both (nat_eq v.session s) (nat_lt 0 v.line) (ne_eqb v.session s ne)) in
      ap not nobody

  -- with nothing under way no call waits
  pub none_waits : ((s : ℕ) → under_way_at sessions s ≡ None) → map.len w.waiting ≡ 0
  none_waits none = no_entries w.waiting (λ place v got. let there = (t.awaited place v got).is in let gone = none v.session in absurd (cc))

  -- the answer of a call under way
  pub ret_allowed : (s n : ℕ) (u : UnderWay) (answer : Reply) → session_at sessions s ≡ record { answered = n; under_way = Some u } → (answer ≡ u.answer) ⊎ (tells_failed_write answer ≡ true) → RetAllowed (map.get w.waiting u.place) answer
  ret_allowed s n u answer is may =
      let x : IsUnderWay lines w h s n u = subst (λ (z : Session). IsAnyUnderWay lines w h s z.answered z.under_way) is (t.under_way s) in
      subst (λ (o : Option Waiting). RetAllowed o answer) (sym x.waits) may

  any_under_way : (mode : Logging) (s n : ℕ) (o : Option UnderWay) → session_at sessions s ≡ record { answered = n; under_way = o } → is_stopped h ≡ false → WaitForFronts mode h sessions → standing lines h s ≡ finished → o ≡ None
  any_under_way mode s n None is runs fronts ended = refl
  any_under_way mode s n (Some u) is runs fronts ended =
      let stands = stands_under_way mode s n u runs is fronts in
      absurd (cc)

  -- where each session is finished and the run was not stopped, nothing is under way
  pub none_under_way : (mode : Logging) → is_stopped h ≡ false → WaitForFronts mode h sessions → length sessions ≡ length lines → ((s : ℕ) → s < length lines → standing lines h s ≡ finished)
      → (s : ℕ) → under_way_at sessions s ≡ None
  none_under_way mode runs fronts long ended s = elim (cases_lt s (length lines)) [
    | inl lt ↦ any_under_way mode s (session_at sessions s).answered (under_way_at sessions s) refl runs fronts (ended s lt)
    | inr ge ↦ ap (λ (z : Session). z.under_way) (get_or_past sessions s no_session (omega arith))
  ]

-- the line that a session is to begin next is still in the lists
pub line_left : (laws : GrowthLaws) (lists : List (List Call)) (w : World) (h : List Event) (sessions : List Session) → Tracks (script_lines lists h) w h sessions → (s n : ℕ)
    → session_at sessions s ≡ record { answered = n; under_way = None } → line_after (script_lines lists h) s n ≡ line_after lists s n
line_left laws lists w h sessions t s n is =
    let same : begun s h ≡ n = t.begun_is s ∙ ap (λ (z : Session). z.answered + calls_under_way z.under_way) is ∙ omega arith in
    subst (λ m. line_after (script_lines lists h) s m ≡ line_after lists s m) same (next_line laws lists h s)
