-- Some session's turn does something until all are finished.
use Rattle.std.proofs.Common.{◌≡◌, ◌≢◌, ◌⊎◌, inl, inr, ℕ, ◌+◌, ◌<◌, List, [], ◌∷◌, ◌++◌, length, Bool, true, false, not, ◌||◌, add-one, Option, Some, None, refl, sym, ap, subst, ◌∙◌, arith}
use Rattle.std.proofs.lemmas.Bool.{cases_lt}
use Rattle.std.proofs.lemmas.Bool.Decides.{nat_tests}
use Rattle.std.specs.Prelude.{slice_get}
use Rattle.vx_base.specs.declared.call.Call.{Call}
use Rattle.vx_base.specs.declared.call.Call.TheVariants as call
use Rattle.vx_base.specs.declared.event.Event.{Event}
use Rattle.vx_base.specs.declared.waits.WaitsFor.TheVariants.{Lock, After}
use Rattle.vx_base.specs.Lines.{line_after}
use Rattle.vx_grammar.specs.Orders.{is_met_by, below}
use Rattle.vx_grammar.specs.NextLines.{AlwaysHasNextLine}
use Rattle.vx_mount.specs.declared.turns.Turn.{Turn}
use Rattle.vx_mount.specs.declared.turns.Turn.TheVariants.{Turned, Finished, Blocked}
use Rattle.vx_mount.specs.Sessions.{answered, is_stopped, Standing, finished, waiting, ready, standing_at, standing}
use Rattle.vx_mount.specs.Cores.{is_finished, IsStuck, WaitsForLock, CanGoOn, TakesTurn, TakesTurns}
use Rattle.vx_mount.specs.Views.{CoreView, standing_in, AllFinished}
use Rattle.vx_mount.proofs.Stepping.{no_turns, turns_more}

-- ---- where sessions stand

met_ready : (history : List Event) (line : Option Call) → is_met_by (λ s. answered s history) line ≡ true → standing_at history line ≡ ready
met_ready history None m = absurd (cc)
met_ready history (Some (call.After session lines)) m = grind (arith, nat_tests)
met_ready history (Some _) m = refl

there_unless_finished : (history : List Event) (line : Option Call) → standing_at history line ≢ finished → (c : Call) × (line ≡ Some c)
there_unless_finished history None h = absurd (h refl)
there_unless_finished history (Some c) h = (c, refl)

pub standing_running : (lines : List (List Call)) (history : List Event) (s : ℕ) → is_stopped history ≡ false → standing lines history s ≡ standing_at history (line_after lines s (answered s history))
unfolding standing
standing_running lines history s h = rw h refl

pub standing_stopped : (lines : List (List Call)) (history : List Event) (s : ℕ) → is_stopped history ≡ true → standing lines history s ≡ finished
unfolding standing
standing_stopped lines history s h = rw h refl

-- ---- nobody waits for ever

-- each session below a number did nothing at its turn
pub record AreStuck (v : CoreView) (n : ℕ) : Type 0 where
  pub why : (s : ℕ) → s < n → (answer : Turn) × IsStuck v s answer

-- a session that could go on is kept back by a lock
record IsLockedOut (v : CoreView) (s : ℕ) : Type 0 where
  ino : ℕ
  holder : ℕ
  waits : WaitsForLock v s ino holder

locked_out : (v : CoreView) (s : ℕ) (answer : Turn) → IsStuck v s answer → standing_in v s ≡ ready → IsLockedOut v s
locked_out v s Turned stuck e = absurd stuck
locked_out v s Finished stuck e = absurd (cc)
locked_out v s (Blocked (After session lines)) stuck e = absurd (cc)
locked_out v s (Blocked (Lock ino holder)) stuck e = record { ino = ino; holder = holder; waits = stuck.1 }

-- only lock 0 can be held by a session that holds no file's lock
lock_0 : (v : CoreView) (holder ino : ℕ) → slice_get v.locks ino ≡ Some (Some holder) → ((i : ℕ) → 0 < i → slice_get v.locks i ≢ Some (Some holder)) → ino ≡ 0
lock_0 v holder ino held none = elim (cases_lt 0 ino) [ inl lt ↦ absurd (none ino lt held) | inr ge ↦ omega arith ]

-- a session that could go on is never kept back by sessions that are all kept back: the second holder on the way holds no file's lock, so all of them wait for lock 0, which has one holder
nobody_ready : (v : CoreView) → is_stopped v.history ≡ false → CanGoOn v → AreStuck v (length v.lines) → (s : ℕ) → s < length v.lines → standing_in v s ≡ ready → ⊥
nobody_ready v running keeps all s lt e =
    let a = locked_out v s (all.why s lt).0 (all.why s lt).1 e in
    let h = keeps.holders running a.ino a.holder a.waits.held in
    let b = locked_out v a.holder (all.why a.holder h.0).0 (all.why a.holder h.0).1 h.1 in
    let k = keeps.holders running b.ino b.holder b.waits.held in
    let c = locked_out v b.holder (all.why b.holder k.0).0 (all.why b.holder k.0).1 k.1 in
    let first : a.ino ≡ 0 = lock_0 v a.holder a.ino a.waits.held b.waits.holds_none in
    let second : b.ino ≡ 0 = lock_0 v b.holder b.ino b.waits.held c.waits.holds_none in
    let one : Some (Some a.holder) ≡ Some (Some b.holder) = sym a.waits.held ∙ ap (slice_get v.locks) (first ∙ sym second) ∙ b.waits.held in
    let same : b.holder ≡ a.holder = cc in
    b.waits.other same

apart_waiting : (t n : ℕ) → waiting t n ≢ finished
apart_waiting t n h = cc

apart_ready : ready ≢ finished
apart_ready h = cc

-- a session with a line left makes some session ready, which none is
left_over : (v : CoreView) → CanGoOn v → AlwaysHasNextLine v.lines → AreStuck v (length v.lines) → (s : ℕ) → is_stopped v.history ≡ false → standing_in v s ≢ finished → ⊥
left_over v keeps follows all s e h =
    let so_far = λ (t : ℕ). answered t v.history in
    let is = standing_running v.lines v.history s e in
    let line = there_unless_finished v.history (line_after v.lines s (so_far s)) (λ f. h (is ∙ f)) in
    let next = follows so_far s line.0 line.1 in
    nobody_ready v e keeps all next.session next.among
    (standing_running v.lines v.history next.session e ∙ met_ready v.history (line_after v.lines next.session (so_far next.session)) next.met)

finished_unless : (v : CoreView) → CanGoOn v → AlwaysHasNextLine v.lines → AreStuck v (length v.lines) → (s : ℕ) → is_stopped v.history ≡ false → (x : Standing) → standing_in v s ≡ x → standing_in v s ≡ finished
finished_unless v keeps follows all s e finished h = h
finished_unless v keeps follows all s e (waiting t n) h = absurd (left_over v keeps follows all s e (λ f. apart_waiting t n (sym h ∙ f)))
finished_unless v keeps follows all s e ready h = absurd (left_over v keeps follows all s e (λ f. apart_ready (sym h ∙ f)))

-- if every session's turn does nothing, all are finished
pub all_finished : (v : CoreView) → CanGoOn v → AlwaysHasNextLine v.lines → AreStuck v (length v.lines) → AllFinished v
all_finished v keeps follows all s lt =
    elim (is_stopped v.history) as (λ b. is_stopped v.history ≡ b → standing_in v s ≡ finished) [
      | true ↦ λ e. standing_stopped v.lines v.history s e
      | false ↦ λ e. finished_unless v keeps follows all s e (standing_in v s) refl
    ] refl

or_false : (b : Bool) → b ≡ (b || false)
or_false true = refl
or_false false = refl

or_true : (b : Bool) → true ≡ (b || true)
or_true true = refl
or_true false = refl

or_true_not : (b : Bool) → (b || true) ≡ false → ⊥
or_true_not true e = cc
or_true_not false e = cc

or_left : (a b : Bool) → (a || b) ≡ false → a ≡ false
or_left true b e = e
or_left false b e = refl

below-more : (n : ℕ) → below n ++ n ∷ [] ≡ below (n + 1)
below-more n = rw (add-one n) refl

-- the turns of the sessions below a number did nothing; `busy` says whether one of them is not finished
pub record RoundSoFar (v : CoreView) (n : ℕ) (busy : Bool) : Type 0 where
  pub stuck : AreStuck v n
  pub ended : busy ≡ false → (s : ℕ) → s < n → standing_in v s ≡ finished
  pub kept_back : busy ≡ true → (s : ℕ) × ((s < n) × (standing_in v s ≢ finished))

no_round : (v : CoreView) → RoundSoFar v 0 false
no_round v = record {
  stuck = record { why = λ s lt. absurd (omega arith) };
  ended = λ e s lt. absurd (omega arith);
  kept_back = λ e. absurd (cc);
}

-- one session more
stuck_more : (v : CoreView) (n : ℕ) (answer : Turn) → AreStuck v n → IsStuck v n answer → AreStuck v (n + 1)
stuck_more v n answer all here = record {
  why = λ s lt. elim (cases_lt s n) [
    | inl less ↦ all.why s less
    | inr ge ↦ let same : n ≡ s = omega arith in subst (λ t. (x : Turn) × IsStuck v t x) same (answer, here)
  ];
}

round_kept_back : (v : CoreView) (n : ℕ) (busy : Bool) (answer : Turn) → RoundSoFar v n busy → IsStuck v n answer → standing_in v n ≢ finished → RoundSoFar v (n + 1) true
round_kept_back v n busy answer r h apart = record {
  stuck = stuck_more v n answer r.stuck h;
  ended = λ e. absurd (cc);
  kept_back = λ e. (n, (omega arith, apart));
}

round_finished : (v : CoreView) (n : ℕ) (busy : Bool) → RoundSoFar v n busy → standing_in v n ≡ finished → RoundSoFar v (n + 1) busy
round_finished v n busy r h = record {
  stuck = stuck_more v n Finished r.stuck h;
  ended = λ e s lt. elim (cases_lt s n) [
    | inl less ↦ r.ended e s less
    | inr ge ↦ let same : n ≡ s = omega arith in subst (λ t. standing_in v t ≡ finished) same h
  ];
  kept_back = λ e. let some = r.kept_back e in (some.0, (omega (arith, some.1.0), some.1.1));
}

-- a session's turn in a round that has done nothing so far
round_more : (v : CoreView) (n : ℕ) (busy : Bool) (answer : Turn) → RoundSoFar v n busy → IsStuck v n answer → RoundSoFar v (n + 1) (busy || not (is_finished answer))
round_more v n busy Turned r h = absurd h
round_more v n busy Finished r h = subst (RoundSoFar v (n + 1)) (or_false busy) (round_finished v n busy r h)
round_more v n busy (Blocked (After t k)) r h = subst (RoundSoFar v (n + 1)) (or_true busy) (round_kept_back v n busy (Blocked (After t k)) r h (λ f. apart_waiting t k (sym h ∙ f)))
round_more v n busy (Blocked (Lock ino holder)) r h = subst (RoundSoFar v (n + 1)) (or_true busy) (round_kept_back v n busy (Blocked (Lock ino holder)) r h (λ f. apart_ready (sym h.0 ∙ f)))

nobody_works : (v : CoreView) (n : ℕ) → n ≡ length v.lines → CanGoOn v → AlwaysHasNextLine v.lines → RoundSoFar v n true → ⊥
nobody_works v n all keeps follows r =
    let stuck = subst (AreStuck v) all r.stuck in
    let some = r.kept_back refl in
    some.1.1 (all_finished v keeps follows stuck some.0 (omega (arith, some.1.0)))

-- a round so far, from a first state to the present one
pub record Round {S : Type 0} (view : S → CoreView) (work : S → ℕ) (first now : S) (n : ℕ) (busy : Bool) : Type 0 where
  pub turns : TakesTurns (view first) (below n) (view now)
  pub so_far : (work now < work first) ⊎ ((now ≡ first) × RoundSoFar (view now) n busy)
  pub idle : busy ≡ false → (now ≡ first) × RoundSoFar (view now) n busy

pub round_begins : {S : Type 0} (view : S → CoreView) (work : S → ℕ) (first : S) → Round view work first first 0 false
round_begins view work first = record {
  turns = no_turns (view first);
  so_far = inr (refl, no_round (view first));
  idle = λ _. (refl, no_round (view first));
}

-- a turn that did something
round_turned : {S : Type 0} (view : S → CoreView) (work : S → ℕ) (first before now : S) (n : ℕ) (busy : Bool) → TakesTurn (view before) n Turned (view now) → work now < work before
    → Round view work first before n busy → Round view work first now (n + 1) (busy || true)
round_turned view work first before now n busy t less r = record {
  turns = subst (λ l. TakesTurns (view first) l (view now)) (below-more n) (turns_more (view first) (view before) (view now) (below n) n Turned r.turns t);
  so_far = inl (elim r.so_far [ inl lt ↦ omega arith | inr same ↦ subst (λ s. work now < work s) same.0 less ]);
  idle = λ e. absurd (or_true_not busy e);
}

-- a turn that did nothing
round_stuck : {S : Type 0} (view : S → CoreView) (work : S → ℕ) (first before now : S) (n : ℕ) (busy : Bool) (answer : Turn) → TakesTurn (view before) n answer (view now) → IsStuck (view before) n answer → now ≡ before
    → Round view work first before n busy → Round view work first now (n + 1) (busy || not (is_finished answer))
round_stuck view work first before now n busy answer t h same r = record {
  turns = subst (λ l. TakesTurns (view first) l (view now)) (below-more n) (turns_more (view first) (view before) (view now) (below n) n answer r.turns t);
  so_far = elim r.so_far [
    | inl lt ↦ inl (subst (λ s. work s < work first) (sym same) lt)
    | inr here ↦ inr (same ∙ here.0, subst (λ s. RoundSoFar (view s) (n + 1) (busy || not (is_finished answer))) (sym same) (round_more (view before) n busy answer here.1 h))
  ];
  idle = λ e.
      let here = r.idle (or_left busy (not (is_finished answer)) e) in
      (same ∙ here.0, subst (λ s. RoundSoFar (view s) (n + 1) (busy || not (is_finished answer))) (sym same) (round_more (view before) n busy answer here.1 h));
}

pub round_goes_on : {S : Type 0} (view : S → CoreView) (work : S → ℕ) (first before now : S) (n : ℕ) (busy : Bool) (answer : Turn) → TakesTurn (view before) n answer (view now)
    → (answer ≡ Turned → work now < work before) → (answer ≢ Turned → now ≡ before) → Round view work first before n busy → Round view work first now (n + 1) (busy || not (is_finished answer))
round_goes_on view work first before now n busy Turned t less same r = round_turned view work first before now n busy t (less refl) r
round_goes_on view work first before now n busy Finished t less same r = round_stuck view work first before now n busy Finished t t.1 (same (λ e. absurd (cc))) r
round_goes_on view work first before now n busy (Blocked (After s k)) t less same r = round_stuck view work first before now n busy (Blocked (After s k)) t t.1 (same (λ e. absurd (cc))) r
round_goes_on view work first before now n busy (Blocked (Lock ino holder)) t less same r = round_stuck view work first before now n busy (Blocked (Lock ino holder)) t t.1 (same (λ e. absurd (cc))) r

-- a whole round in which some session was not finished did something
pub round_works : {S : Type 0} (view : S → CoreView) (work : S → ℕ) (first now : S) (n : ℕ) → n ≡ length (view first).lines → CanGoOn (view first) → AlwaysHasNextLine (view first).lines → Round view work first now n true → work now < work first
round_works view work first now n all keeps follows r = elim r.so_far [
  | inl lt ↦ lt
  | inr here ↦ absurd (nobody_works (view first) n all keeps follows (subst (λ s. RoundSoFar (view s) n true) here.0 here.1))
]
