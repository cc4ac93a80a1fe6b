-- Turns one after another.
use Rattle.std.proofs.Common.{◌≡◌, ℕ, ◌≤◌, suc, List, [], ◌∷◌, ◌++◌, length, true, false, Option, Some, None, refl, sym, ap, subst, ◌∙◌, append_assoc, append-nil, arith}
use Rattle.std.proofs.lemmas.List.Elements.{All-append}
use Rattle.vx_base.specs.declared.call.Call.{Call}
use Rattle.vx_base.specs.declared.event.Event.{Event}
use Rattle.vx_base.specs.declared.waits.WaitsFor.TheVariants.{Lock, After}
use Rattle.vx_base.specs.Faults.{Rose}
use Rattle.vx_model.specs.Legal.{at_of}
use Rattle.vx_mount.specs.declared.turns.Turn.{Turn}
use Rattle.vx_mount.specs.declared.turns.Turn.TheVariants.{Turned, Finished, Blocked}
use Rattle.vx_mount.specs.Faults.{HasFailed}
use Rattle.vx_mount.specs.Sessions.{Standing, finished, waiting, standing}
use Rattle.vx_mount.specs.Views.{CoreView, AllFinished}
use Rattle.vx_mount.specs.Pieces.{is_ready, may_rest, IsTurn, Steps}
use Rattle.vx_grammar.specs.Orders.{below}
use Rattle.vx_mount.specs.Schedules.{rounds}
use Rattle.vx_mount.specs.Cores.{TakesTurn, TakesTurns, IsDriven, has_ended, AreUnmountEvents, UnmountsOn, IsUnmountTurn, TakesUnmountTurn, IsUnmounted}

-- ---- failed writes

pub never_failed : (disabled : Option ℕ) (count write_faults : ℕ) → HasFailed disabled disabled count count write_faults write_faults
never_failed None count write_faults = refl
never_failed (Some faults) count write_faults = (refl, (refl, refl))

-- a first failed write, or none, and then none
failing_join : (a b c : Option ℕ) (k l m f g h : ℕ) → HasFailed a b k l f g → HasFailed b c l m g h → HasFailed a c k m f h
failing_join None None None k l m f g h s t = t ∙ s
failing_join None None (Some n) k l m f g h s t = (subst (λ x. Rose x h) s t.0, t.1)
failing_join None (Some n) None k l m f g h s t = absurd (let no_way : None ≡ Some n = t.0 in cc)
failing_join None (Some n) (Some o) k l m f g h s t = (subst (Rose f) (sym t.1.1) s.0, (let same : Some o ≡ Some n = t.0 in let equal : o ≡ n = cc in equal ∙ s.1 ∙ sym t.1.1))
failing_join (Some n) b c k l m f g h s t = later b c s.0 t
  where
    later : (b c : Option ℕ) → b ≡ Some n → HasFailed b c l m g h → HasFailed (Some n) c k m f h
    later None c e u = absurd (cc)
    later (Some o) c e u = (u.0 ∙ e, (u.1.0 ∙ s.1.0, u.1.1 ∙ s.1.1))

-- ---- turns

-- a turn that does nothing
resting : (v : CoreView) (actor : ℕ) → may_rest v.lines v.history actor ≡ true → IsTurn v actor v
resting v actor h = record {
  piece = [];
  grown = sym (append-nil v.history);
  own = tt;
  onward = omega arith;
  few = omega arith;
  inside = λ i d lt. absurd (omega arith);
  rests = λ _ _. h;
  whole = λ some. absurd (some refl);
  still = λ _. refl;
  same_lines = refl;
  same_logging = refl;
  failing = never_failed v.disabled v.count v.write_faults;
  tells = λ i d lt. absurd (omega arith);
  answers = λ _ other. absurd (other refl);
  in_memory = λ _ _. refl;
  quiet = λ some. absurd (let no_way : false ≡ true = some in cc);
}

not_ready : (lines : List (List Call)) (history : List Event) (actor : ℕ) (s : Standing) → is_ready s ≡ false → standing lines history actor ≡ s → may_rest lines history actor ≡ true
unfolding may_rest
not_ready lines history actor s h e = rw (e, h) refl

still_there : (old new : CoreView) (actor : ℕ) → new ≡ old → may_rest old.lines old.history actor ≡ true → IsTurn old actor new
still_there old new actor e h = subst (IsTurn old actor) (sym e) (resting old actor h)

-- whatever a turn answers, it is one turn of the session
pub one_turn : (old : CoreView) (actor : ℕ) (answer : Turn) (new : CoreView) → TakesTurn old actor answer new → IsTurn old actor new
one_turn old actor Turned new t = t.turn
one_turn old actor Finished new t = still_there old new actor t.0 (not_ready old.lines old.history actor finished refl t.1)
one_turn old actor (Blocked (After session lines)) new t = still_there old new actor t.0 (not_ready old.lines old.history actor (waiting session lines) refl t.1)
one_turn old actor (Blocked (Lock ino holder)) new t = still_there old new actor t.0 t.1.1.may_wait

pub steps_join : (front back : List ℕ) (old between new : CoreView) → Steps old front between → Steps between back new → Steps old (front ++ back) new
steps_join [] back old between new s t = subst (λ v. Steps v back new) s t
steps_join (a ∷ front) back old between new s t = (s.0, (s.1.0, steps_join front back s.0 between new s.1.1 t))

pub no_turns : (v : CoreView) → TakesTurns v [] v
no_turns v = record { steps = refl; same_lines = refl }

-- some turns, and then others
pub turns_join : (old between new : CoreView) (front back : List ℕ) → TakesTurns old front between → TakesTurns between back new → TakesTurns old (front ++ back) new
turns_join old between new front back s t = record {
  steps = steps_join front back old between new s.steps t.steps;
  same_lines = t.same_lines ∙ s.same_lines;
}

-- one turn more
pub turns_more : (old between new : CoreView) (front : List ℕ) (actor : ℕ) (answer : Turn) → TakesTurns old front between → TakesTurn between actor answer new → TakesTurns old (front ++ actor ∷ []) new
turns_more old between new front actor answer s t =
    let one = one_turn between actor answer new t in
    turns_join old between new front (actor ∷ []) s (record { steps = (new, (one, refl)); same_lines = one.same_lines })

-- some rounds
pub record TakesRounds (old new : CoreView) : Type 0 where
  pub taken : ℕ
  pub turns : TakesTurns old (rounds (length old.lines) taken) new

pub no_rounds : (v : CoreView) → TakesRounds v v
no_rounds v = record { taken = 0; turns = no_turns v }

-- one round more
pub rounds_more : (old between new : CoreView) → TakesRounds old between → TakesTurns between (below (length between.lines)) new → TakesRounds old new
rounds_more old between new r t =
    let same : length between.lines ≡ length old.lines = ap length r.turns.same_lines in
    record {
      taken = suc r.taken;
      turns = turns_join old between new (rounds (length old.lines) r.taken) (below (length old.lines)) r.turns (subst (λ n. TakesTurns between (below n) new) same t);
    }

-- a schedule, and then rounds until all are finished
pub driven : (old between new : CoreView) (schedule : List ℕ) → TakesTurns old schedule between → TakesRounds between new → AllFinished new → IsDriven old schedule new
driven old between new schedule s r ended =
    let same : length between.lines ≡ length old.lines = ap length s.same_lines in
    record {
      rounds_taken = r.taken;
      turns = turns_join old between new schedule (rounds (length old.lines) r.taken) s (subst (λ n. TakesTurns between (rounds n r.taken) new) same r.turns);
      ended = ended;
    }

-- ---- the unmount

pub no_unmounting : (v : CoreView) → AllFinished v → UnmountsOn v v
no_unmounting v ended = record {
  events = [];
  grown = sym (append-nil v.history);
  own = tt;
  onward = omega arith;
  inside = λ i d lt. absurd (omega arith);
  same_lines = refl;
  same_logging = refl;
  failing = never_failed v.disabled v.count v.write_faults;
  still = ended;
}

unmount_events-append : (h front more : List Event) → AreUnmountEvents h front → AreUnmountEvents (h ++ front) more → AreUnmountEvents h (front ++ more)
unmount_events-append h [] more s t = subst (λ x. AreUnmountEvents x more) (append-nil h) t
unmount_events-append h (e ∷ front) more s t =
    (s.0, unmount_events-append (h ++ e ∷ []) front more s.1 (subst (λ x. AreUnmountEvents x more) (sym (append_assoc h (e ∷ []) front)) t))

-- one turn of the unmount after others
pub unmounts_more : (old between new : CoreView) → UnmountsOn old between → UnmountsOn between new → UnmountsOn old new
unmounts_more old between new s t = record {
  events = s.events ++ t.events;
  grown = t.grown ∙ ap (λ (h : List Event). h ++ t.events) s.grown ∙ append_assoc old.history s.events t.events;
  own = unmount_events-append old.history s.events t.events s.own (subst (λ x. AreUnmountEvents x t.events) s.grown t.own);
  onward = omega (arith, s.onward, t.onward);
  inside = All-append (λ e. (old.count ≤ at_of e) × (at_of e ≤ new.count)) s.events t.events
      (λ i d lt. let h = s.inside i d lt in (h.0, omega (arith, h.1, t.onward)))
      (λ i d lt. let h = t.inside i d lt in (omega (arith, h.0, s.onward), h.1));
  same_lines = t.same_lines ∙ s.same_lines;
  same_logging = t.same_logging ∙ s.same_logging;
  failing = failing_join old.disabled between.disabled new.disabled old.count between.count new.count old.write_faults between.write_faults new.write_faults s.failing t.failing;
  still = t.still;
}

-- the unmount's turns so far
pub record UnmountsSoFar (old new : CoreView) : Type 0 where
  pub on : UnmountsOn old new
  pub nothing : has_ended old ≡ true → new ≡ old

pub unmount_begins : (v : CoreView) → AllFinished v → UnmountsSoFar v v
unmount_begins v ended = record { on = no_unmounting v ended; nothing = λ _. refl }

pub unmount_goes_on : (old between new : CoreView) → UnmountsSoFar old between → IsUnmountTurn between new → UnmountsSoFar old new
unmount_goes_on old between new s t = record {
  on = unmounts_more old between new s.on t.on;
  nothing = λ e. absurd (let over : has_ended between ≡ true = ap has_ended (s.nothing e) ∙ e in let goes_on = t.goes_on in cc);
}

pub unmount_ends : (old between new : CoreView) → UnmountsSoFar old between → TakesUnmountTurn between Finished new → IsUnmounted old new
unmount_ends old between new s t =
    subst (IsUnmounted old) (sym t.1) (record { on = s.on; ended = t.0; nothing = s.nothing })
