-- A turn that begins a session's line.
use Rattle.std.proofs.Common.{◌≡◌, ℕ, ◌+◌, ◌<◌, ◌&&◌, ◌||◌, not, set, List, [], ◌∷◌, ◌++◌, length, length-append, Bool, true, false, Option, Some, None, refl, sym, ap, subst, ◌∙◌, append_assoc, arith, inl, inr}
use Rattle.std.specs.Prelude.{All, IsSome, IfSome, slice_get}
use Rattle.std.proofs.lemmas.Bool.{cases_eq}
use Rattle.std.proofs.lemmas.List.{length-set}
use Rattle.std.proofs.lemmas.List.Elements.{All-cons, All-nil}
use Rattle.std.proofs.lemmas.Option.{slice_get_within}
use Rattle.std.specs.Option.{option_and_then}
use Rattle.vx_base.specs.declared.call.Call.{Call}
use Rattle.vx_base.specs.declared.call.Call.TheVariants as call
use Rattle.vx_base.specs.declared.event.Event.{Event}
use Rattle.vx_base.specs.declared.event.Event.TheVariants as event
use Rattle.vx_base.specs.declared.mode.Logging.{Logging}
use Rattle.vx_base.specs.declared.mode.Logging.TheVariants as logging
use Rattle.vx_base.specs.declared.reply.Reply.{Reply}
use Rattle.vx_base.specs.Lines.{lines_of, line_after}
use Rattle.vx_model.specs.Allowed.{call_of, call_at, has_front, is_refusal}
use Rattle.vx_model.specs.Legal.{World, in_use, after_all}
use Rattle.vx_mount.specs.GrowthLaws.{GrowthLaws}
use Rattle.vx_mount.specs.Faults.{EventTellsFault}
use Rattle.vx_mount.specs.Pieces.{is_quiet}
use Rattle.vx_mount.specs.Sessions.{begun, answered, standing, ready}
use Rattle.vx_core.specs.declared.session.Session.{Session}
use Rattle.vx_core.specs.declared.session.UnderWay.{UnderWay}
use Rattle.vx_core.specs.Facts.{Facts, ends_run, HasAnswered}
use Rattle.vx_core.specs.Lines.{script_lines}
use Rattle.vx_core.specs.Mounts.{MountView, IsStage, HasDone, HasMadeRoom, MayBegin, MayAnswer, MayStop, IsBuilt, noted}
use Rattle.vx_core.specs.Tracks.{session_at, under_way_at, calls_under_way, IsUnderWay, Tracks, WaitsForFront, WaitForFronts, IsRunning}
use Rattle.vx_core.proofs.ScriptLines.{script_do, script_other, script_ret}
use Rattle.vx_core.proofs.Pushing.{at_same, at_other}
use Rattle.vx_core.proofs.Standings.{idle, ret_allowed}
use Rattle.vx_core.proofs.Courses.{fronts_more, fronts_set, front_here}
use Rattle.vx_core.proofs.Goings.{Going, going_begins, going_later, going_do, going_ret, going_stop, going_turn, stopping_turn, stopping_phase}
use Rattle.vx_core.proofs.Deciding.{run_goes_on, same_line}
use Rattle.vx_core.proofs.Turning.{so_many, none_left}
use Rattle.vx_core.proofs.Ending.{TurnDone, Tells, noted_stage, facts_later, goes_later, staged_turn, tells_refusal, line_limit}

both_true : (a b : Bool) → (a && not b) ≡ true → (a ≡ true) × (b ≡ false)
both_true true true e = absurd (cc)
both_true true false e = (refl, refl)
both_true false b e = absurd (cc)

not_both : (a b : Bool) → (a && not b) ≡ false → b ≡ false → a ≡ false
not_both true true e f = absurd (cc)
not_both true false e f = absurd (cc)
not_both false b e f = refl

alone : (b : Bool) → (b || false) ≡ true → b ≡ true
alone true e = refl
alone false e = e

-- a call that waits for no commit need not be committed
quiet_no_front : (mode : Logging) (c : Call) → is_quiet mode c ≡ true → has_front mode c ≡ false
quiet_no_front logging.DelayLog (call.Rename old new) e = absurd (cc)
quiet_no_front logging.DelayLog (call.Fsync handle) e = absurd (cc)
quiet_no_front logging.DelayLog call.Sync e = absurd (cc)
quiet_no_front logging.DelayLog call.Tick e = absurd (cc)
quiet_no_front logging.DelayLog _ e = refl
quiet_no_front logging.Log c e = absurd (cc)
quiet_no_front logging.TmpLog c e = absurd (cc)

module _ (laws : GrowthLaws) (built : Call → Type 0) (o : World) (was : Type 0) (v : MountView) (lists : List (List Call)) (sessions : List Session) (f : Facts built o was v lists sessions false) (s n : ℕ)
    (inside : s < length sessions) (is : session_at sessions s ≡ record { answered = n; under_way = None }) (stands : standing (script_lines lists v.history) v.history s ≡ ready) where
  script_line : (c : Call) → line_after lists s n ≡ Some c → line_after (script_lines lists v.history) s n ≡ Some c
  script_line c line =
      subst (λ m. line_after (script_lines lists v.history) s m ≡ line_after lists s m) (ap (λ (z : Session). z.answered) is) (same_line built o was v lists sessions laws f s (ap (λ (z : Session). z.under_way) is)) ∙ line

  runs_by : (c : Call) → line_after lists s n ≡ Some c → IsRunning (after_all o v.history) v.history
  runs_by c line = run_goes_on built o was v lists sessions f s c (ap (λ (z : Session). line_after (script_lines lists v.history) s z.answered) is ∙ script_line c line)

  its_line : (w : Option Call) → line_after lists s n ≡ w → IsSome w → (c : Call) × (line_after lists s n ≡ Some c)
  its_line None e some = absurd (let no_way : false ≡ true = some in cc)
  its_line (Some c) e some = (c, e)

  module _ (some : IsSome (line_after lists s n)) where
    first_call : (c : Call) × (line_after lists s n ≡ Some c)
    first_call = its_line (line_after lists s n) refl some

    pub begin_runs : IsRunning (after_all o v.history) v.history
    begin_runs = runs_by first_call.0 first_call.1

    pub may_begin : MayBegin o v s (n + 1)
    may_begin = record {
      mounted = begin_runs.phase;
      numbered = omega arith;
      idle = idle (script_lines lists v.history) (after_all o v.history) v.history sessions f.tracks s (ap (λ (z : Session). z.under_way) is);
    }

    pub begin_built : IsBuilt built (line_after lists s n)
    begin_built = subst (IsBuilt built) (sym first_call.1) (f.script.each s n first_call.0 (script_line first_call.0 first_call.1))

    pub begin_inside : n < length (lines_of (script_lines lists v.history) s)
    unfolding line_after
    begin_inside = slice_get_within (lines_of (script_lines lists v.history) s) n first_call.0 (script_line first_call.0 first_call.1)

    pub begin_limit : n < 65536
    begin_limit = line_limit (script_lines lists v.history) s n first_call.0 (f.script.short s) (script_line first_call.0 first_call.1)

    -- the mount made room first
    pub room_turn : (kept : Type 0) (later : MountView) → kept → HasMadeRoom v later → IsStage v later → later.leaving ≡ false → TurnDone built o kept v lists s later lists sessions false
    room_turn kept later keeps made stage free = staged_turn laws built o was v lists sessions f s stands begin_runs kept later keeps made.history made.works stage free made.still

  -- ---- the call was done

  module _ (later : MountView) (left : List (List Call)) (place : ℕ) (answer : Reply) (commits : Bool) (d : HasDone v later lists left s n place answer commits) (stage : IsStage v later) (free : later.leaving ≡ false) where
    abbrev pub call_done : UnderWay
    call_done = record { place = place; answer = answer }

    abbrev pub with_call : List Session
    with_call = set sessions s (record { answered = n; under_way = Some (record { place = place; answer = answer }) })

    abbrev lines : List (List Call)
    lines = script_lines lists v.history

    with_call_at : session_at with_call s ≡ record { answered = n; under_way = Some call_done }
    with_call_at = at_same sessions s (record { answered = n; under_way = Some call_done }) inside

    with_call_inside : s < length with_call
    with_call_inside = let long : length with_call ≡ length sessions = length-set sessions s (record { answered = n; under_way = Some call_done }) in omega arith

    done_going : Going o lines s v.history v.count with_call later.history later.count
    done_going =
        subst (λ h. Going o lines s v.history v.count with_call h later.count) (sym d.history)
        (subst (λ p. Going o lines s v.history v.count (set sessions s (record { answered = n; under_way = Some (record { place = p; answer = answer }) })) (v.history ++ event.Do later.count s (n + 1) d.done answer ∷ []) later.count) (sym d.place_is)
        (going_do laws o lines s v.history v.count sessions v.history later.count
        (going_later laws o lines s v.history v.count sessions v.history v.count (going_begins laws o lines s v.history v.count sessions f.tracks (runs_by d.done d.line)) later.count stage.later)
        n d.done answer inside is (script_line d.done d.line)))

    done_script : script_lines left later.history ≡ lines
    done_script =
        let started : begun s v.history ≡ n = f.tracks.begun_is s ∙ ap (λ (z : Session). z.answered + calls_under_way z.under_way) is ∙ omega arith in
        let inside_lists : s < length lists = omega (arith, f.counts) in
        let first : line_after lists s (begun s v.history) ≡ Some d.done = ap (line_after lists s) started ∙ d.line in
        let moved : script_lines (set lists s (set (lines_of lists s) n call.Sync)) (v.history ++ event.Do later.count s (n + 1) d.done answer ∷ []) ≡ lines =
        subst (λ m. script_lines (set lists s (set (lines_of lists s) m call.Sync)) (v.history ++ event.Do later.count s (n + 1) d.done answer ∷ []) ≡ lines) started
        (script_do laws lists v.history later.count s (n + 1) d.done answer (omega arith) first inside_lists) in
        ap (λ l. script_lines l later.history) d.moved ∙ ap (script_lines (set lists s (set (lines_of lists s) n call.Sync))) d.history ∙ moved

    left_long : length left ≡ length lists
    left_long = ap length d.moved ∙ length-set lists s (set (lines_of lists s) n call.Sync)

    grown_longer : later.history ≡ v.history → ⊥
    grown_longer same =
        let a : length later.history ≡ length v.history + length (event.Do later.count s (n + 1) d.done answer ∷ []) = ap length d.history ∙ length-append v.history (event.Do later.count s (n + 1) d.done answer ∷ []) in
        let b : length later.history ≡ length v.history = ap length same in
        absurd (omega arith)

    call_there : slice_get later.history place ≡ Some (event.Do later.count s (n + 1) d.done answer)
    call_there = ap (λ (h : List Event). slice_get h place) d.history ∙ ap (slice_get (v.history ++ event.Do later.count s (n + 1) d.done answer ∷ [])) d.place_is ∙ laws.here v.history (event.Do later.count s (n + 1) d.done answer)

    longer_fronts : WaitForFronts later.logging later.history sessions
    longer_fronts = subst (λ m. WaitForFronts m later.history sessions) (sym stage.logging)
        (subst (λ h. WaitForFronts v.logging h sessions) (sym d.history) (fronts_more laws v.logging v.history (event.Do later.count s (n + 1) d.done answer ∷ []) sessions f.fronts))

    -- it waits to be committed
    one_tells : (e : Event) → EventTellsFault v.disabled later.disabled later.write_faults e → All (EventTellsFault v.disabled later.disabled later.write_faults) (e ∷ [])
    one_tells e told = All-cons (EventTellsFault v.disabled later.disabled later.write_faults) e [] told (All-nil (EventTellsFault v.disabled later.disabled later.write_faults))

    tells_waiting : commits ≡ true → is_refusal answer ≡ false → Tells v s later
    tells_waiting front fine = record {
      events = event.Do later.count s (n + 1) d.done answer ∷ [];
      is = d.history;
      tells = one_tells (event.Do later.count s (n + 1) d.done answer) d.tells;
      answers = λ some. absurd (let refused : is_refusal answer ≡ true = tells_refusal v.disabled later.disabled later.write_faults answer d.tells some in cc);
      in_memory = λ _ same. d.quiet same;
      quiet = λ some. absurd (
          let waits : has_front v.logging d.done ≡ true = sym d.commits_is ∙ front in
          let none : has_front v.logging d.done ≡ false = quiet_no_front v.logging d.done (alone (is_quiet v.logging d.done) some) in
          cc
          );
    }

    pub waits_turn : (kept : Type 0) → kept → (commits && not (is_refusal answer)) ≡ true → TurnDone built o kept v lists s later left with_call false
    waits_turn kept keeps waits =
        let w = both_true commits (is_refusal answer) waits in
        let here : WaitsForFront later.logging later.history (Some call_done) = subst (λ m. WaitsForFront m later.history (Some call_done)) (sym stage.logging)
        (subst (λ h. WaitsForFront v.logging h (Some call_done)) (sym d.history)
        (subst (λ p. WaitsForFront v.logging (v.history ++ event.Do later.count s (n + 1) d.done answer ∷ []) (Some (record { place = p; answer = answer }))) (sym d.place_is)
        (front_here laws v.logging v.history later.count s (n + 1) d.done answer (sym d.commits_is ∙ w.0) w.1))) in
        let g = done_going in
        record {
          facts = facts_later laws built o was v lists sessions f s kept later left with_call false keeps done_script g.tracks
              (fronts_set later.logging later.history sessions s (record { answered = n; under_way = Some call_done }) inside here longer_fronts) (inl g.running)
              (length-set sessions s (record { answered = n; under_way = Some call_done }) ∙ f.counts ∙ sym left_long) left_long free;
          goes = goes_later laws built o was v lists sessions f s kept later left with_call false keeps done_script stands
              (going_turn laws o lines s v.history v.count with_call later.history later.count g (λ same _. absurd (grown_longer same))) stage (tells_waiting w.0 w.1);
        }

    -- it is answered at once
    pub done_used : (after_all o later.history).phase ≡ in_use
    done_used = done_going.running.phase

    pub may_answer_done : (commits && not (is_refusal answer)) ≡ false → MayAnswer o later place answer
    may_answer_done goes = record {
      mounted = done_used;
      allowed = ret_allowed lines (after_all o later.history) later.history with_call done_going.tracks s n call_done answer with_call_at (inl refl);
      earned = λ fine.
          let none : has_front later.logging d.done ≡ false = ap (λ m. has_front m d.done) stage.logging ∙ sym d.commits_is ∙ not_both commits (is_refusal answer) goes fine in
          let there : call_at later.history place ≡ Some d.done = ap (λ (e : Option Event). option_and_then call_of e) call_there in
          subst (λ (w : Option Call). IfSome w (λ c. has_front later.logging c ≡ true → place < later.committed)) (sym there) (λ front. absurd (cc));
      refused = tells_refusal v.disabled later.disabled later.write_faults answer d.tells;
    }

    its_call : (x : IsUnderWay lines (after_all o later.history) later.history s n call_done) → d.done ≡ x.call
    its_call x = let same : Some d.done ≡ Some x.call = sym (script_line d.done d.line) ∙ x.line in cc

    two_sets : (y : Session) (h : List Event) (mode : Logging) → WaitForFronts mode h sessions → WaitsForFront mode h y.under_way → WaitForFronts mode h (set with_call s y)
    two_sets y h mode all here t = elim (cases_eq s t) [
      | inl same ↦ subst (λ r. WaitsForFront mode h (under_way_at (set with_call s y) r)) same (subst (λ (z : Session). WaitsForFront mode h z.under_way) (sym (at_same with_call s y with_call_inside)) here)
      | inr other ↦ subst (λ (z : Session). WaitsForFront mode h z.under_way)
          (sym (at_other with_call s t y (λ e. other (sym e)) ∙ at_other sessions s t (record { answered = n; under_way = Some call_done }) (λ e. other (sym e)))) (all t)
    ]

    abbrev with_answer : List Session
    with_answer = set with_call s (record { answered = n + 1; under_way = None })

    with_answer_long : length with_answer ≡ length left
    with_answer_long =
        length-set with_call s (record { answered = n + 1; under_way = None }) ∙ length-set sessions s (record { answered = n; under_way = Some call_done }) ∙ f.counts ∙ sym left_long

    answer_longer : (h : List Event) → h ≡ later.history ++ event.Ret later.count place answer ∷ [] → h ≡ v.history → ⊥
    answer_longer h is_h same =
        let a : length h ≡ length later.history + length (event.Ret later.count place answer ∷ []) = ap length is_h ∙ length-append later.history (event.Ret later.count place answer ∷ []) in
        let b : length later.history ≡ length v.history + length (event.Do later.count s (n + 1) d.done answer ∷ []) = ap length d.history ∙ length-append v.history (event.Do later.count s (n + 1) d.done answer ∷ []) in
        let e : length h ≡ length v.history = ap length same in
        absurd (omega arith)

    with_answer_at : session_at with_answer s ≡ record { answered = n + 1; under_way = None }
    with_answer_at = at_same with_call s (record { answered = n + 1; under_way = None }) with_call_inside

    answered_before : answered s v.history ≡ n
    answered_before = f.tracks.answered_is s ∙ ap (λ (z : Session). z.answered) is

    tells_answered_done : Tracks lines (after_all o (later.history ++ event.Ret later.count place answer ∷ [])) (later.history ++ event.Ret later.count place answer ∷ []) with_answer → Tells v s (noted later (event.Ret later.count place answer))
    tells_answered_done t =
        let x = noted later (event.Ret later.count place answer) in
        let here = event.Do later.count s (n + 1) d.done answer in
        let ret = event.Ret later.count place answer in
        record {
          events = here ∷ ret ∷ [];
          is = ap (λ (k : List Event). k ++ ret ∷ []) d.history ∙ append_assoc v.history (here ∷ []) (ret ∷ []);
          tells = All-cons (EventTellsFault v.disabled later.disabled later.write_faults) here (ret ∷ []) d.tells (one_tells ret d.tells);
          answers = λ _. (so_many lines (after_all o x.history) x.history with_answer t s (n + 1) with_answer_at ∙ ap (λ k. k + 1) (sym answered_before), none_left lines (after_all o x.history) x.history with_answer t s (n + 1) with_answer_at);
          in_memory = λ _ same. d.quiet same;
          quiet = λ _. none_left lines (after_all o x.history) x.history with_answer t s (n + 1) with_answer_at;
        }

    tells_stopped : Tracks lines (after_all o ((later.history ++ event.Ret later.count place answer ∷ []) ++ event.Stopped later.count ∷ [])) ((later.history ++ event.Ret later.count place answer ∷ []) ++ event.Stopped later.count ∷ []) with_answer
        → Tells v s (noted (noted later (event.Ret later.count place answer)) (event.Stopped later.count))
    tells_stopped t =
        let x = noted (noted later (event.Ret later.count place answer)) (event.Stopped later.count) in
        let here = event.Do later.count s (n + 1) d.done answer in
        let ret = event.Ret later.count place answer in
        let end = event.Stopped later.count in
        record {
          events = here ∷ ret ∷ end ∷ [];
          is = ap (λ (k : List Event). (k ++ ret ∷ []) ++ end ∷ []) d.history ∙ ap (λ (k : List Event). k ++ end ∷ []) (append_assoc v.history (here ∷ []) (ret ∷ [])) ∙ append_assoc v.history (here ∷ ret ∷ []) (end ∷ []);
          tells = All-cons (EventTellsFault v.disabled later.disabled later.write_faults) here (ret ∷ end ∷ []) d.tells
              (All-cons (EventTellsFault v.disabled later.disabled later.write_faults) ret (end ∷ []) d.tells (one_tells end tt));
          answers = λ _. (so_many lines (after_all o x.history) x.history with_answer t s (n + 1) with_answer_at ∙ ap (λ k. k + 1) (sym answered_before), none_left lines (after_all o x.history) x.history with_answer t s (n + 1) with_answer_at);
          in_memory = λ _ same. d.quiet same;
          quiet = λ _. none_left lines (after_all o x.history) x.history with_answer t s (n + 1) with_answer_at;
        }

    pub answered_done_turn : (kept : Type 0) (last : MountView) (now : List Session) → kept → ends_run d.done answer ≡ false → HasAnswered later last with_call now s n call_done answer
        → TurnDone built o kept v lists s last left now false
    answered_done_turn kept last now keeps goes a =
        subst (λ x. TurnDone built o kept v lists s x left now false) (sym a.view)
        (subst (λ ss. TurnDone built o kept v lists s (noted later (event.Ret later.count place answer)) left ss false) (sym a.later_is)
        (
        let x = noted later (event.Ret later.count place answer) in
        let g = going_ret laws o lines s v.history v.count with_call later.history later.count done_going n call_done answer with_call_inside with_call_at (λ y. subst (λ c. ends_run c answer ≡ false) (its_call y) goes) in
        let same : script_lines left x.history ≡ lines = script_ret laws left later.history later.count place answer ∙ done_script in
        let fronts = two_sets (record { answered = n + 1; under_way = None }) x.history later.logging (fronts_more laws later.logging later.history (event.Ret later.count place answer ∷ []) sessions longer_fronts) tt in
        record {
          facts = facts_later laws built o was v lists sessions f s kept x left with_answer false keeps same g.tracks fronts (inl g.running) with_answer_long left_long free;
          goes = goes_later laws built o was v lists sessions f s kept x left with_answer false keeps same stands
              (going_turn laws o lines s v.history v.count with_answer x.history later.count g (λ same_h _. absurd (answer_longer x.history refl same_h)))
              (noted_stage v later (event.Ret later.count place answer) stage)
              (tells_answered_done g.tracks);
        }))

    -- the answer of a Stop, and the end of the run
    pub may_stop : (last : MountView) → ends_run d.done answer ≡ true → last ≡ noted later (event.Ret later.count place answer) → MayStop o last
    may_stop last ends is_last =
        ap (λ (x : MountView). (after_all o x.history).phase) is_last
        ∙ stopping_phase laws o lines s v.history v.count with_call later.history later.count done_going n call_done answer with_call_inside with_call_at (λ y. subst (λ c. ends_run c answer ≡ true) (its_call y) ends)

    pub stopped_turn : (kept : Type 0) (last end : MountView) (now : List Session) → kept → ends_run d.done answer ≡ true → HasAnswered later last with_call now s n call_done answer → end ≡ noted last (event.Stopped last.count)
        → TurnDone built o kept v lists s end left now true
    stopped_turn kept last end now keeps ends a is_end =
        let x = noted (noted later (event.Ret later.count place answer)) (event.Stopped later.count) in
        let end_is : end ≡ x = is_end ∙ ap (λ (y : MountView). noted y (event.Stopped y.count)) a.view in
        subst (λ y. TurnDone built o kept v lists s y left now true) (sym end_is)
        (subst (λ ss. TurnDone built o kept v lists s x left ss true) (sym a.later_is)
        (
        let k = later.history ++ event.Ret later.count place answer ∷ [] in
        let g = going_stop laws o lines s v.history v.count with_call later.history later.count done_going n call_done answer with_call_inside with_call_at (λ y. subst (λ c. ends_run c answer ≡ true) (its_call y) ends) in
        let same : script_lines left x.history ≡ lines = script_other laws left k (event.Stopped later.count) refl ∙ script_ret laws left later.history later.count place answer ∙ done_script in
        let fronts = two_sets (record { answered = n + 1; under_way = None }) x.history later.logging
        (fronts_more laws later.logging k (event.Stopped later.count ∷ []) sessions (fronts_more laws later.logging later.history (event.Ret later.count place answer ∷ []) sessions longer_fronts)) tt in
        record {
          facts = facts_later laws built o was v lists sessions f s kept x left with_answer true keeps same g.tracks fronts g.stopped with_answer_long left_long free;
          goes = goes_later laws built o was v lists sessions f s kept x left with_answer true keeps same stands
              (stopping_turn laws o lines s v.history v.count with_answer x.history later.count g (λ same_h _. absurd (stop_longer same_h)))
              (noted_stage v (noted later (event.Ret later.count place answer)) (event.Stopped later.count) (noted_stage v later (event.Ret later.count place answer) stage))
              (tells_stopped g.tracks);
        }))
      where
        stop_longer : (later.history ++ event.Ret later.count place answer ∷ []) ++ event.Stopped later.count ∷ [] ≡ v.history → ⊥
        stop_longer same_h =
            let k = later.history ++ event.Ret later.count place answer ∷ [] in
            let a : length (k ++ event.Stopped later.count ∷ []) ≡ length k + length (event.Stopped later.count ∷ []) = length-append k (event.Stopped later.count ∷ []) in
            let b : length k ≡ length later.history + length (event.Ret later.count place answer ∷ []) = length-append later.history (event.Ret later.count place answer ∷ []) in
            let e : length later.history ≡ length v.history + length (event.Do later.count s (n + 1) d.done answer ∷ []) = ap length d.history ∙ length-append v.history (event.Do later.count s (n + 1) d.done answer ∷ []) in
            let z : length (k ++ event.Stopped later.count ∷ []) ≡ length v.history = ap length same_h in
            absurd (omega arith)
