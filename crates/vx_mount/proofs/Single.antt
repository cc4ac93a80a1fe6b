-- A core of one session with one line meets what is asked of a core.
use Rattle.std.proofs.Common.{◌≡◌, ℕ, zero, suc, ◌<◌, ◌≤◌, ◌==◌, cond, [], ◌∷◌, ◌++◌, length, Bool, true, false, Option, Some, None, refl, ap, subst, length-append, arith}
use Rattle.std.proofs.lemmas.List.Elements.{All-cons}
use Rattle.std.proofs.lemmas.Bool.Decides.{nat_tests}
use Rattle.std.proofs.lemmas.List.Sums.{sum_by-cons}
use Rattle.vx_base.specs.declared.call.Call.TheVariants as call
use Rattle.vx_base.specs.declared.event.Event.TheVariants as event
use Rattle.vx_base.specs.declared.reply.Reply.TheVariants as say
use Rattle.vx_base.specs.Lines.{lines_of, line_after}
use Rattle.vx_grammar.specs.Orders.{lines_in, CanFollow, IsOrder}
use Rattle.vx_model.specs.Legal.{at_of}
use Rattle.vx_mount.specs.declared.turns.Turn.TheVariants.{Turned, Finished}
use Rattle.vx_mount.specs.Sessions.{begun, answered, is_stopped, standing, finished, ready}
use Rattle.vx_mount.specs.Pieces.{is_stopping}
use Rattle.vx_mount.specs.Cores.{CanGoOn, TakesTurn, TakesUnmountTurn, has_ended}
use Rattle.vx_mount.specs.Faults.{EventTellsFault}
use Rattle.vx_mount.specs.Views.{AllFinished}
use Rattle.vx_mount.specs.Singles.{one_line, events_of, view_of}

pub answers_line : (actor : ℕ) → actor < 1 → TakesTurn (view_of None) actor Turned (view_of (Some false))
unfolding standing is_stopped begun answered line_after lines_of is_stopping
answers_line zero lt = record {
  was_ready = refl;
  turn = record {
    piece = events_of (Some false);
    grown = refl;
    own = ((refl, (refl, (refl, refl))), (((refl, refl), refl), tt));
    onward = omega arith;
    few = omega arith;
    inside = All-cons (λ e. (0 ≤ at_of e) × (at_of e ≤ 0)) (event.Do 0 0 1 call.Tick say.Fine) (event.Ret 0 0 say.Fine ∷ []) (omega arith, omega arith)
        (All-cons (λ e. (0 ≤ at_of e) × (at_of e ≤ 0)) (event.Ret 0 0 say.Fine) [] (omega arith, omega arith) (λ i d lt. absurd (omega arith)));
    rests = λ e _. absurd (cc);
    whole = λ _. refl;
    still = λ e. absurd (cc);
    same_lines = refl;
    same_logging = refl;
    failing = refl;
    tells = All-cons (EventTellsFault None None 0) (event.Do 0 0 1 call.Tick say.Fine) (event.Ret 0 0 say.Fine ∷ []) tt
        (All-cons (EventTellsFault None None 0) (event.Ret 0 0 say.Fine) [] tt (λ i d lt. absurd (omega arith)));
    answers = λ some. absurd (let no_way : false ≡ true = some in cc);
    in_memory = λ _ _. refl;
    quiet = λ some. absurd (let no_way : false ≡ true = some in cc);
  };
}
answers_line (suc n) lt = absurd (omega arith)

line_over : (unmounted : Bool) → standing one_line (events_of (Some unmounted)) 0 ≡ finished
unfolding standing is_stopped answered line_after lines_of
line_over true = refl
line_over false = refl

pub is_over : (unmounted : Bool) (actor : ℕ) → actor < 1 → standing one_line (events_of (Some unmounted)) actor ≡ finished
is_over unmounted zero lt = line_over unmounted
is_over unmounted (suc n) lt = absurd (omega arith)

pub not_over : AllFinished (view_of None) → ⊥
unfolding standing is_stopped answered line_after lines_of
not_over f = let e : ready ≡ finished = f 0 (omega arith) in absurd (cc)

pub unmounts : TakesUnmountTurn (view_of (Some false)) Turned (view_of (Some true))
unfolding has_ended
unmounts = record {
  goes_on = refl;
  on = record {
    events = event.Unmounted 0 ∷ [];
    grown = refl;
    own = (tt, tt);
    onward = omega arith;
    inside = All-cons (λ e. (0 ≤ at_of e) × (at_of e ≤ 0)) (event.Unmounted 0) [] (omega arith, omega arith) (λ i d lt. absurd (omega arith));
    same_lines = refl;
    same_logging = refl;
    failing = refl;
    still = is_over true;
  };
  few = omega arith;
}

pub is_unmounted : TakesUnmountTurn (view_of (Some true)) Finished (view_of (Some true))
unfolding has_ended
is_unmounted = (refl, refl)

-- ---- the order of its one line

first_line : CanFollow one_line [] 0
unfolding lines_in line_after lines_of
first_line = tt

ordered : IsOrder one_line (0 ∷ [])
ordered [] rest session e = let same : 0 ≡ session = cc in subst (CanFollow one_line []) same first_line
ordered (x ∷ front) rest session e =
    let left : [] ≡ front ++ session ∷ rest = cc in
    let long : 0 ≡ length (front ++ session ∷ rest) = ap length left in
    absurd (omega (arith, length-append front (session ∷ rest)))

whole : (session : ℕ) → lines_in session (0 ∷ []) ≡ length (lines_of one_line session)
unfolding lines_in lines_of
whole zero = refl
whole (suc n) = grind (arith, nat_tests, sum_by-cons (λ s. cond (s == suc n) 1 0) 0 [])

pub goes_on : (unmounted : Option Bool) → CanGoOn (view_of unmounted)
goes_on unmounted = record {
  order = record { order = 0 ∷ []; each = ordered; all = whole };
  holders = λ _ ino holder e. absurd (cc);
}
