-- What a turn leaves is what a core keeps, and the turn goes on with its session's line.
use Rattle.std.proofs.Common.{◌≡◌, ◌⊎◌, ℕ, ◌+◌, ◌<◌, ◌≤◌, ◌&&◌, ◌||◌, set, List, [], ◌∷◌, ◌++◌, length, length-append, Bool, true, false, Option, Some, None, refl, sym, ap, subst, ◌∙◌, append-nil, append_assoc, arith, inl, inr}
use Rattle.std.specs.Prelude.{All, IsSome, IfSome, slice_get}
use Rattle.std.specs.List.{list_any}
use Rattle.std.proofs.lemmas.List.{length-set, append_cancel_left}
use Rattle.std.proofs.lemmas.List.Elements.{All-cons, All-nil, All-append}
use Rattle.std.proofs.lemmas.Option.{slice_get_within}
use Rattle.vx_base.specs.declared.call.Call.{Call}
use Rattle.vx_base.specs.declared.call.Call.TheVariants as call
use Rattle.vx_base.specs.declared.event.Event.{Event}
use Rattle.vx_base.specs.declared.event.Event.TheVariants as event
use Rattle.vx_base.specs.declared.mode.Logging.{Logging}
use Rattle.vx_base.specs.declared.refusal.Refusal.{Refusal}
use Rattle.vx_base.specs.declared.refusal.Refusal.TheVariants as no
use Rattle.vx_base.specs.declared.reply.Reply.{Reply}
use Rattle.vx_base.specs.declared.reply.Reply.TheVariants as say
use Rattle.vx_base.specs.Lines.{lines_of, line_after}
use Rattle.vx_model.specs.Allowed.{call_at, has_front, is_refusal}
use Rattle.vx_model.specs.Legal.{World, in_use, after_all, is_stop, tells_failed_write}
use Rattle.vx_mount.specs.GrowthLaws.{GrowthLaws}
use Rattle.vx_mount.specs.Faults.{TellsFault, EventTellsFault}
use Rattle.vx_mount.specs.Pieces.{is_ready, is_do, is_quiet_do, HasNoneUnderWay}
use Rattle.vx_mount.specs.Sessions.{answered, standing, ready}
use Rattle.vx_mount.specs.Cores.{GoesOn}
use Rattle.vx_core.specs.declared.session.Session.{Session}
use Rattle.vx_core.specs.declared.session.UnderWay.{UnderWay}
use Rattle.vx_core.specs.Facts.{IsScript, Facts, view_of, ends_run, is_fine, HasAnswered}
use Rattle.vx_core.specs.Lines.{script_lines}
use Rattle.vx_core.specs.Mounts.{MountView, HasFailed, IsStage, Released, releases, MayAnswer, noted}
use Rattle.vx_core.specs.Tracks.{session_at, under_way_at, IsUnderWay, IsAnyUnderWay, Tracks, WaitsForFront, WaitForFronts, IsRunning, IsOnCourse}
use Rattle.vx_core.proofs.ScriptLines.{script_other, script_ret}
use Rattle.vx_core.proofs.Standings.{stands_under_way, ret_allowed, front_no_stop, same_needs}
use Rattle.vx_core.proofs.Pushing.{at_same}
use Rattle.vx_core.proofs.Courses.{fronts_more, fronts_set}
use Rattle.vx_core.proofs.Turning.{TurnEnds, so_many, none_left}
use Rattle.vx_core.proofs.Goings.{Going, going_begins, going_later, going_release, going_ret, going_turn}
use Rattle.vx_core.proofs.Deciding.{runs_under_way}

-- ---- small facts

pub ends_is : (c : Call) (answer : Reply) → ends_run c answer ≡ (is_stop c && is_fine answer)
ends_is call.Stop say.Fine = refl
ends_is call.Stop _ = refl
ends_is c say.Fine = and_true (is_stop c)
  where
    and_true : (b : Bool) → b ≡ (b && true)
    and_true true = refl
    and_true false = refl
ends_is c _ = and_false (is_stop c)
  where
    and_false : (b : Bool) → false ≡ (b && false)
    and_false true = refl
    and_false false = refl

-- a call that must be committed ends no run
is_stop_no_front : (mode : Logging) (c : Call) → has_front mode c ≡ true → is_stop c ≡ false
is_stop_no_front mode call.Stop e = absurd (front_no_stop mode e)
is_stop_no_front mode _ e = refl

pub front_goes_on : (mode : Logging) (c : Call) (answer : Reply) → has_front mode c ≡ true → ends_run c answer ≡ false
front_goes_on mode c answer e = ends_is c answer ∙ ap (λ b. b && is_fine answer) (is_stop_no_front mode c e)

-- where a write has failed, the answer tells it
pub tells_refusal : (before now : Option ℕ) (faults : ℕ) (answer : Reply) → TellsFault before now faults answer → IsSome now → is_refusal answer ≡ true
tells_refusal None None faults answer t some = absurd (let e : false ≡ true = some in cc)
tells_refusal None (Some n) faults answer t some = ap is_refusal t.1
tells_refusal (Some n) now faults answer t some = ap is_refusal t.1

-- where a write had failed before, or fails in this turn, and where none does
pub tells_refused : (d : Option ℕ) (faults write_faults : ℕ) → d ≡ Some faults → TellsFault d d write_faults (say.Refused (no.Disabled faults))
tells_refused d faults write_faults some = subst (λ x. TellsFault x x write_faults (say.Refused (no.Disabled faults))) (sym some) (refl, refl)

pub tells_failed : (before now : Option ℕ) (write_faults : ℕ) → before ≡ None → now ≡ Some write_faults → TellsFault before now write_faults (say.Refused no.WriteFault)
tells_failed before now write_faults none some =
    subst (λ x. TellsFault x now write_faults (say.Refused no.WriteFault)) (sym none) (subst (λ x. TellsFault None x write_faults (say.Refused no.WriteFault)) (sym some) (refl, refl))

fine_answer : (write_faults : ℕ) (answer : Reply) → is_refusal answer ≡ false → TellsFault None None write_faults answer
fine_answer write_faults (say.Refused why) fine = absurd (cc)
fine_answer write_faults _ fine = tt

tells_said : (before now : Option ℕ) (write_faults : ℕ) (answer : Reply) → before ≡ None → now ≡ None → is_refusal answer ≡ false → TellsFault before now write_faults answer
tells_said before now write_faults answer none still fine =
    subst (λ x. TellsFault x now write_faults answer) (sym none) (subst (λ x. TellsFault None x write_faults answer) (sym still) (fine_answer write_faults answer fine))

-- ---- what a turn tells

-- by the events that it adds
pub record Tells (v : MountView) (s : ℕ) (later : MountView) : Type 0 where
  pub events : List Event
  pub is : later.history ≡ v.history ++ events
  pub tells : All (EventTellsFault v.disabled later.disabled later.write_faults) events
  pub answers : IsSome later.disabled → (answered s later.history ≡ answered s v.history + 1) × HasNoneUnderWay s later.history
  pub in_memory : list_any is_do events ≡ true → later.disabled ≡ v.disabled → later.count ≡ v.count
  pub quiet : list_any (is_quiet_do v.logging) events ≡ true → HasNoneUnderWay s later.history

-- an event that is noted is no stage of its own
pub noted_stage : (v staged : MountView) (e : Event) → IsStage v staged → IsStage v (noted staged e)
noted_stage v staged e stage = record { logging = stage.logging; later = stage.later; few = stage.few; failing = stage.failing }

-- releases tell nothing
releases_tell : (P : Event → Type 0) → ((at upto : ℕ) → P (event.Release at upto)) → (b : Bool) (at upto : ℕ) → All P (releases b at upto)
releases_tell P each true at upto = All-cons P (event.Release at upto) [] (each at upto) (All-nil P)
releases_tell P each false at upto = All-nil P

no_release : (p : Event → Bool) → ((at upto : ℕ) → p (event.Release at upto) ≡ false) → (b : Bool) (at upto : ℕ) → list_any p (releases b at upto) ≡ false
no_release p each true at upto = ap (λ x. x || false) (each at upto)
no_release p each false at upto = refl

-- ... nor do they before an answer
no_release_ret : (p : Event → Bool) → ((at upto : ℕ) → p (event.Release at upto) ≡ false) → ((at place : ℕ) (answer : Reply) → p (event.Ret at place answer) ≡ false)
    → (b : Bool) (at upto place : ℕ) (answer : Reply) → list_any p (releases b at upto ++ event.Ret at place answer ∷ []) ≡ false
no_release_ret p each ret true at upto place answer = ap (λ x. x || (p (event.Ret at place answer) || false)) (each at upto) ∙ ap (λ x. x || false) (ret at place answer)
no_release_ret p each ret false at upto place answer = ap (λ x. x || false) (ret at place answer)

against : {P : Type 0} (b : Bool) → b ≡ false → b ≡ true → P
against b f t = absurd (cc)

-- ---- what a turn leaves

pub record TurnDone (built : Call → Type 0) (o : World) (kept : Type 0) (v : MountView) (lists : List (List Call)) (s : ℕ) (later : MountView) (left : List (List Call)) (sessions : List Session) (ended : Bool) : Type 0 where
  pub facts : Facts built o kept later left sessions ended
  pub goes : (locks : List (Option ℕ)) → GoesOn (view_of v lists locks) s (view_of later left locks)

module _ (laws : GrowthLaws) (built : Call → Type 0) (o : World) (was : Type 0) (v : MountView) (lists : List (List Call)) (sessions : List Session) (f : Facts built o was v lists sessions false) (s : ℕ) where
  script_released : (h : List Event) (b : Bool) (at upto : ℕ) → script_lines lists (h ++ releases b at upto) ≡ script_lines lists h
  script_released h true at upto = script_other laws lists h (event.Release at upto) refl
  script_released h false at upto = ap (script_lines lists) (append-nil h)

  going_released : (lines : List (List Call)) (first : List Event) (begin : ℕ) (h : List Event) (count : ℕ) (b : Bool) (upto : ℕ) → Going o lines s first begin sessions h count → Going o lines s first begin sessions (h ++ releases b count upto) count
  going_released lines first begin h count true upto g = going_release laws o lines s first begin sessions h count g upto
  going_released lines first begin h count false upto g = subst (λ k. Going o lines s first begin sessions k count) (sym (append-nil h)) g

  -- the turn so far, once the mount has done a stage
  pub going_staged : (later : MountView) → IsRunning (after_all o v.history) v.history → v.count ≤ later.count → Released v.history later.history later.count → Going o (script_lines lists v.history) s v.history v.count sessions later.history later.count
  going_staged later runs le r =
      subst (λ h. Going o (script_lines lists v.history) s v.history v.count sessions h later.count) (sym r.is)
      (going_released (script_lines lists v.history) v.history v.count v.history later.count r.released r.upto
      (going_later laws o (script_lines lists v.history) s v.history v.count sessions v.history v.count (going_begins laws o (script_lines lists v.history) s v.history v.count sessions f.tracks runs) later.count le))

  pub script_staged : (later : MountView) → Released v.history later.history later.count → script_lines lists later.history ≡ script_lines lists v.history
  script_staged later r = ap (script_lines lists) r.is ∙ script_released v.history r.released later.count r.upto

  pub fronts_staged : (later : MountView) → later.logging ≡ v.logging → Released v.history later.history later.count → WaitForFronts later.logging later.history sessions
  fronts_staged later mode r =
      subst (λ m. WaitForFronts m later.history sessions) (sym mode)
      (subst (λ h. WaitForFronts v.logging h sessions) (sym r.is) (fronts_more laws v.logging v.history (releases r.released later.count r.upto) sessions f.fronts))

  module _ (kept : Type 0) (later : MountView) (left : List (List Call)) (now : List Session) (ended : Bool) (keeps : kept) (same : script_lines left later.history ≡ script_lines lists v.history) where
    pub facts_later : Tracks (script_lines lists v.history) (after_all o later.history) later.history now → WaitForFronts later.logging later.history now → IsOnCourse ended (script_lines lists v.history) (after_all o later.history) later.history
        → length now ≡ length left → length left ≡ length lists → later.leaving ≡ false → Facts built o kept later left now ended
    facts_later t fronts course counts long free = record {
      keeps = keeps;
      tracks = subst (λ l. Tracks l (after_all o later.history) later.history now) (sym same) t;
      fronts = fronts;
      course = subst (λ l. IsOnCourse ended l (after_all o later.history) later.history) (sym same) course;
      script = subst (IsScript built) (sym same) f.script;
      counts = counts;
      few = omega (arith, f.few);
      over = λ e. absurd (cc);
    }

    pub goes_later : standing (script_lines lists v.history) v.history s ≡ ready → TurnEnds (script_lines lists v.history) s v.history v.count later.history later.count → IsStage v later → Tells v s later
        → (locks : List (Option ℕ)) → GoesOn (view_of v lists locks) s (view_of later left locks)
    goes_later stands turn stage t locks =
        let events : t.events ≡ turn.so_far.piece = append_cancel_left v.history t.events turn.so_far.piece (sym t.is ∙ turn.so_far.grown) in
        record {
          was_ready = stands;
          turn = record {
            piece = turn.so_far.piece;
            grown = turn.so_far.grown;
            own = turn.so_far.own;
            onward = turn.so_far.onward;
            few = stage.few;
            inside = turn.so_far.inside;
            rests = turn.rests;
            whole = turn.whole;
            still = λ no. absurd (let yes : is_ready (standing (script_lines lists v.history) v.history s) ≡ true = ap is_ready stands in cc);
            same_lines = same;
            same_logging = stage.logging;
            failing = stage.failing;
            tells = subst (λ es. All (EventTellsFault v.disabled later.disabled later.write_faults) es) events t.tells;
            answers = λ some _. t.answers some;
            in_memory = λ some. t.in_memory (ap (list_any is_do) events ∙ some);
            quiet = λ some. t.quiet (ap (list_any (is_quiet_do v.logging)) events ∙ some);
          };
        }

  -- ---- a stage alone

  module _ (stands : standing (script_lines lists v.history) v.history s ≡ ready) (runs : IsRunning (after_all o v.history) v.history) where
    tells_staged : (later : MountView) → Released v.history later.history later.count → later.disabled ≡ None → Tells v s later
    tells_staged later r enabled = record {
      events = releases r.released later.count r.upto;
      is = r.is;
      tells = releases_tell (EventTellsFault v.disabled later.disabled later.write_faults) (λ at upto. tt) r.released later.count r.upto;
      answers = λ some. absurd (let off : IsSome {T = ℕ} None = subst (λ (d : Option ℕ). IsSome d) enabled some in let none : false ≡ true = off in cc);
      in_memory = λ some. against (list_any is_do (releases r.released later.count r.upto)) (no_release is_do (λ at upto. refl) r.released later.count r.upto) some;
      quiet = λ some. against (list_any (is_quiet_do v.logging) (releases r.released later.count r.upto)) (no_release (is_quiet_do v.logging) (λ at upto. refl) r.released later.count r.upto) some;
    }

    pub staged_turn : (kept : Type 0) (later : MountView) → kept → Released v.history later.history later.count → (v.count < later.count) ⊎ (length v.history < length later.history) → IsStage v later → later.leaving ≡ false → later.disabled ≡ None
        → TurnDone built o kept v lists s later lists sessions false
    staged_turn kept later keeps r works stage free enabled =
        let same = script_staged later r in
        let g = going_staged later runs stage.later r in
        record {
          facts = facts_later kept later lists sessions false keeps same g.tracks (fronts_staged later stage.logging r) (inl g.running) f.counts refl free;
          goes = goes_later kept later lists sessions false keeps same stands
              (going_turn laws o (script_lines lists v.history) s v.history v.count sessions later.history later.count g (λ same_h e. absurd (elim works [
                | inl lt ↦ absurd (omega arith)
                | inr longer ↦ absurd (let equal : length later.history ≡ length v.history = ap length same_h in omega arith)
              ]))) stage (tells_staged later r enabled);
        }

  -- ---- a call that goes on

  module _ (n : ℕ) (u : UnderWay) (inside : s < length sessions) (is : session_at sessions s ≡ record { answered = n; under_way = Some u }) (stands : standing (script_lines lists v.history) v.history s ≡ ready) (runs : IsRunning (after_all o v.history) v.history) where
    its_call : IsUnderWay (script_lines lists v.history) (after_all o v.history) v.history s n u
    its_call = subst (λ (z : Session). IsAnyUnderWay (script_lines lists v.history) (after_all o v.history) v.history s z.answered z.under_way) is (f.tracks.under_way s)

    its_front : has_front v.logging its_call.call ≡ true
    its_front =
        let w = subst (λ (z : Session). WaitsForFront v.logging v.history z.under_way) is (f.fronts s) in
        same_needs v.logging (slice_get v.history u.place) its_call.at s (n + 1) its_call.call u.answer its_call.stands w.0

    -- what it waits with is no refusal
    pub its_fine : is_refusal u.answer ≡ false
    its_fine = (subst (λ (z : Session). WaitsForFront v.logging v.history z.under_way) is (f.fronts s)).1

    pub its_place : u.place < length v.history
    its_place = slice_get_within v.history u.place (event.Do its_call.at s (n + 1) its_call.call u.answer) its_call.stands

    -- it may be answered behind a stage: as it said, where that is durable, or with a failed write
    pub may_answer : (later : MountView) (answer : Reply) → v.count ≤ later.count → Released v.history later.history later.count
        → (answer ≡ u.answer) ⊎ (tells_failed_write answer ≡ true) → (is_refusal answer ≡ false → u.place < later.committed) → (IsSome later.disabled → is_refusal answer ≡ true) → MayAnswer o later u.place answer
    may_answer later answer le r may earned refused =
        let g = going_staged later runs le r in
        record {
          mounted = g.running.phase;
          allowed = ret_allowed (script_lines lists v.history) (after_all o later.history) later.history sessions g.tracks s n u answer is may;
          earned = λ fine. any_call (call_at later.history u.place) (earned fine);
          refused = refused;
        }
      where
        any_call : {P : Type 0} (c : Option Call) → P → IfSome c (λ x. has_front later.logging x ≡ true → P)
        any_call None p = tt
        any_call (Some x) p = λ _. p

    tells_answered : (staged : MountView) (answer : Reply) → Released v.history staged.history staged.count → TellsFault v.disabled staged.disabled staged.write_faults answer
        → Tracks (script_lines lists v.history) (after_all o (staged.history ++ event.Ret staged.count u.place answer ∷ [])) (staged.history ++ event.Ret staged.count u.place answer ∷ []) (set sessions s (record { answered = n + 1; under_way = None }))
        → Tells v s (noted staged (event.Ret staged.count u.place answer))
    tells_answered staged answer r told t =
        let e = event.Ret staged.count u.place answer in
        let now = set sessions s (record { answered = n + 1; under_way = None }) in
        let here : session_at now s ≡ record { answered = n + 1; under_way = None } = at_same sessions s (record { answered = n + 1; under_way = None }) inside in
        let lines = script_lines lists v.history in
        let h = staged.history ++ e ∷ [] in
        let before : answered s v.history ≡ n = f.tracks.answered_is s ∙ ap (λ (z : Session). z.answered) is in
        record {
          events = releases r.released staged.count r.upto ++ e ∷ [];
          is = ap (λ (k : List Event). k ++ e ∷ []) r.is ∙ append_assoc v.history (releases r.released staged.count r.upto) (e ∷ []);
          tells = All-append (EventTellsFault v.disabled staged.disabled staged.write_faults) (releases r.released staged.count r.upto) (e ∷ [])
              (releases_tell (EventTellsFault v.disabled staged.disabled staged.write_faults) (λ at upto. tt) r.released staged.count r.upto)
              (All-cons (EventTellsFault v.disabled staged.disabled staged.write_faults) e [] told (All-nil (EventTellsFault v.disabled staged.disabled staged.write_faults)));
          answers = λ _. (so_many lines (after_all o h) h now t s (n + 1) here ∙ ap (λ k. k + 1) (sym before), none_left lines (after_all o h) h now t s (n + 1) here);
          in_memory = λ some. against (list_any is_do (releases r.released staged.count r.upto ++ e ∷ []))
              (no_release_ret is_do (λ at upto. refl) (λ at place answer. refl) r.released staged.count r.upto u.place answer) some;
          quiet = λ _. none_left lines (after_all o h) h now t s (n + 1) here;
        }

    pub answered_turn : (kept : Type 0) (staged later : MountView) (answer : Reply) → kept → Released v.history staged.history staged.count → IsStage v staged → staged.leaving ≡ false → TellsFault v.disabled staged.disabled staged.write_faults answer
        → ((c : Call) → has_front v.logging c ≡ true → ends_run c answer ≡ false) → later ≡ noted staged (event.Ret staged.count u.place answer)
        → TurnDone built o kept v lists s later lists (set sessions s (record { answered = n + 1; under_way = None })) false
    answered_turn kept staged later answer keeps r stage free told no_end later_is =
        subst (λ x. TurnDone built o kept v lists s x lists (set sessions s (record { answered = n + 1; under_way = None })) false) (sym later_is)
        (
        let now = set sessions s (record { answered = n + 1; under_way = None }) in
        let e = event.Ret staged.count u.place answer in
        let x = noted staged e in
        let g0 = going_staged staged runs stage.later r in
        let g = going_ret laws o (script_lines lists v.history) s v.history v.count sessions staged.history staged.count g0 n u answer inside is
        (λ y. (let same : Some y.call ≡ Some its_call.call = sym y.line ∙ its_call.line in let equal : its_call.call ≡ y.call = cc in
        subst (λ c. ends_run c answer ≡ false) equal (no_end its_call.call its_front))) in
        let same : script_lines lists x.history ≡ script_lines lists v.history = script_ret laws lists staged.history staged.count u.place answer ∙ script_staged staged r in
        let fronts = fronts_set x.logging x.history sessions s (record { answered = n + 1; under_way = None }) inside tt
        (fronts_more laws staged.logging staged.history (e ∷ []) sessions (fronts_staged staged stage.logging r)) in
        record {
          facts = facts_later kept x lists now false keeps same g.tracks fronts (inl g.running) (length-set sessions s (record { answered = n + 1; under_way = None }) ∙ f.counts) refl free;
          goes = goes_later kept x lists now false keeps same stands
              (going_turn laws o (script_lines lists v.history) s v.history v.count now x.history staged.count g (λ same_h _. absurd (longer staged.history e r same_h)))
              (noted_stage v staged e stage) (tells_answered staged answer r told g.tracks);
        })
      where
        longer : (h : List Event) (e : Event) → Released v.history h staged.count → h ++ e ∷ [] ≡ v.history → ⊥
        longer h e r same_h =
            let a : length (h ++ e ∷ []) ≡ length v.history = ap length same_h in
            let b : length h ≡ length (v.history ++ releases r.released staged.count r.upto) = ap length r.is in
            omega (arith, length-append h (e ∷ []), length-append v.history (releases r.released staged.count r.upto))

-- ---- a call that goes on is answered, as a core says it

pub nothing_released : (h : List Event) (at : ℕ) → Released h h at
nothing_released h at = record { released = false; upto = 0; is = sym (append-nil h) }

pub same_stage : (v : MountView) → IsStage v v
same_stage v = record { logging = refl; later = omega arith; few = omega arith; failing = same_failing v.disabled }
  where
    same_failing : (o : Option ℕ) → HasFailed o o v v
    same_failing None = refl
    same_failing (Some faults) = (refl, (refl, refl))

-- the session's call, once its record is known
pub there_is : (sessions : List Session) (s : ℕ) → IsSome (under_way_at sessions s) → (u : UnderWay) × (session_at sessions s ≡ record { answered = (session_at sessions s).answered; under_way = Some u })
there_is sessions s some = for (under_way_at sessions s) refl some
  where
    for : (w : Option UnderWay) → under_way_at sessions s ≡ w → IsSome w → (u : UnderWay) × (session_at sessions s ≡ record { answered = (session_at sessions s).answered; under_way = Some u })
    for None e some = absurd (let no_way : false ≡ true = some in cc)
    for (Some u) e some = (u, ap (λ (w : Option UnderWay). record { answered = (session_at sessions s).answered; under_way = w }) e)

pub line_limit : (lines : List (List Call)) (s n : ℕ) (c : Call) → length (lines_of lines s) < 65536 → line_after lines s n ≡ Some c → n < 65536
unfolding line_after
line_limit lines s n c few is = let inside : n < length (lines_of lines s) = slice_get_within (lines_of lines s) n c is in omega arith

module _ (laws : GrowthLaws) (built : Call → Type 0) (o : World) (was : Type 0) (v : MountView) (lists : List (List Call)) (sessions : List Session) (f : Facts built o was v lists sessions false) (s n : ℕ) (u : UnderWay)
    (is : session_at sessions s ≡ record { answered = n; under_way = Some u }) where
  pub its_running : IsRunning (after_all o v.history) v.history
  its_running = runs_under_way built o was v lists sessions f s u (ap (λ (z : Session). z.under_way) is)

  pub its_limit : n < 65536
  its_limit =
      let x : IsUnderWay (script_lines lists v.history) (after_all o v.history) v.history s n u = subst (λ (z : Session). IsAnyUnderWay (script_lines lists v.history) (after_all o v.history) v.history s z.answered z.under_way) is (f.tracks.under_way s) in
      line_limit (script_lines lists v.history) s n x.call (f.script.short s) x.line

  stands_there : standing (script_lines lists v.history) v.history s ≡ ready
  stands_there = stands_under_way (script_lines lists v.history) (after_all o v.history) v.history sessions f.tracks v.logging s n u its_running.runs is f.fronts

  -- behind a stage the mount is in use still
  pub staged_used : (staged : MountView) → Released v.history staged.history staged.count → IsStage v staged → (after_all o staged.history).phase ≡ in_use
  staged_used staged r stage = (going_staged laws built o was v lists sessions f s staged its_running stage.later r).running.phase

  module _ (inside : s < length sessions) where
    pub place_inside : u.place < length v.history
    place_inside = its_place laws built o was v lists sessions f s n u inside is stands_there its_running

    -- in a disabled mount
    pub may_refuse : (staged : MountView) (why : Refusal) → Released v.history staged.history staged.count → IsStage v staged → tells_failed_write (say.Refused why) ≡ true → MayAnswer o staged u.place (say.Refused why)
    may_refuse staged why r stage failed =
        may_answer laws built o was v lists sessions f s n u inside is stands_there its_running staged (say.Refused why) stage.later r (inr failed) (λ e. absurd (cc)) (λ _. refl)

    -- once it is durable
    pub may_say : (staged : MountView) → Released v.history staged.history staged.count → IsStage v staged → u.place < staged.committed → staged.disabled ≡ None → MayAnswer o staged u.place u.answer
    may_say staged r stage durable enabled =
        may_answer laws built o was v lists sessions f s n u inside is stands_there its_running staged u.answer stage.later r (inl refl) (λ _. durable)
        (λ some. absurd (let e : IsSome {T = ℕ} None = subst (λ (d : Option ℕ). IsSome d) enabled some in let no_way : false ≡ true = e in cc))

    pub refused_turn : (kept : Type 0) (staged later : MountView) (now : List Session) (why : Refusal) → kept → Released v.history staged.history staged.count → IsStage v staged → staged.leaving ≡ false
        → TellsFault v.disabled staged.disabled staged.write_faults (say.Refused why) → HasAnswered staged later sessions now s n u (say.Refused why) → TurnDone built o kept v lists s later lists now false
    refused_turn kept staged later now why keeps r stage free told a =
        subst (λ ss. TurnDone built o kept v lists s later lists ss false) (sym a.later_is)
        (answered_turn laws built o was v lists sessions f s n u inside is stands_there its_running kept staged later (say.Refused why) keeps r stage free told (λ c _. refl) a.view)

    pub said_turn : (kept : Type 0) (staged later : MountView) (now : List Session) → kept → Released v.history staged.history staged.count → IsStage v staged → staged.leaving ≡ false
        → v.disabled ≡ None → staged.disabled ≡ None → HasAnswered staged later sessions now s n u u.answer → TurnDone built o kept v lists s later lists now false
    said_turn kept staged later now keeps r stage free none still a =
        subst (λ ss. TurnDone built o kept v lists s later lists ss false) (sym a.later_is)
        (answered_turn laws built o was v lists sessions f s n u inside is stands_there its_running kept staged later u.answer keeps r stage free
        (tells_said v.disabled staged.disabled staged.write_faults u.answer none still (its_fine laws built o was v lists sessions f s n u inside is stands_there its_running)) (λ c front. front_goes_on v.logging c u.answer front) a.view)

    pub waiting_turn : (kept : Type 0) (later : MountView) → kept → Released v.history later.history later.count → v.count < later.count → IsStage v later → later.leaving ≡ false → later.disabled ≡ None
        → TurnDone built o kept v lists s later lists sessions false
    waiting_turn kept later keeps r works stage free enabled = staged_turn laws built o was v lists sessions f s stands_there its_running kept later keeps r (inl works) stage free enabled
