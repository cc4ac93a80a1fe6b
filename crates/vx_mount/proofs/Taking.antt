-- Turns and the unmount keep what a history has of its script.
use Rattle.std.proofs.Common.{◌≡◌, ℕ, ◌+◌, ◌≤◌, ◌<◌, ◌==◌, ◌&&◌, nat_lt, cond, drop, List, [], ◌∷◌, ◌++◌, length, Bool, true, false, Option, Some, None, refl, sym, ap, subst, ◌∙◌, append_assoc, append-nil, length-append, arith, inl, inr}
use Rattle.std.specs.Prelude.{slice_get, unwrap_or, if◌then◌else◌}
use Rattle.std.specs.List.{filter_map}
use Rattle.std.proofs.lemmas.Bool.{cases_lt, eqb-true}
use Rattle.std.proofs.lemmas.Bool.Decides.{nat_tests}
use Rattle.std.proofs.lemmas.List.Elements.{filter_map-append}
use Rattle.std.proofs.lemmas.List.Sums.{sum_by-cons}
use Rattle.std.proofs.lemmas.Option.{slice_get_within, slice_get_past, slice_get_cases}
use Rattle.vx_base.specs.declared.call.Call.{Call}
use Rattle.vx_base.specs.declared.call.Call.TheVariants as call
use Rattle.vx_base.specs.declared.event.Event.{Event}
use Rattle.vx_base.specs.declared.event.Event.TheVariants as event
use Rattle.vx_base.specs.declared.reply.Reply.{Reply}
use Rattle.vx_base.specs.Lines.{lines_of, line_after}
use Rattle.vx_mount.specs.Sessions.{is_line, is_line_there, is_call_of, IsDoOf, begun, answered, is_stopped, standing_at, finished}
use Rattle.vx_mount.specs.Pieces.{IsOwn, IsPiece, IsTurn, Steps}
use Rattle.vx_mount.specs.Schedules.{continued}
use Rattle.vx_mount.specs.Cores.{IsDriven, IsUnmountEvent, AreUnmountEvents, UnmountsOn}
use Rattle.vx_mount.specs.Views.{CoreView, AllFinished}
use Rattle.vx_mount.specs.Runs.{line_call, calls_begun, BeginsLines, HasNextNumber, AreNumbered, HasAnswer, IsPlacedBelow, TakesLines, AnswersLines}
use Rattle.vx_mount.proofs.Growing.{slice_get-longer, slice_get-here, placed-more, begun-more, begun-do, answered-do, begun-ret, answered-ret, begun-other, answered-other}
use Rattle.vx_mount.proofs.Going.{standing_running}

-- ---- what an event must keep to

-- a line's Do is its session's next line, with its number, where no call of the session is under way; a Ret answers the line that
-- its session began last
abbrev pub KeepsLines : List (List Call) → List Event → Event → Type 0
KeepsLines lines h (event.Do at s line c reply) = 0 < line → (line ≡ begun s h + 1) × ((line_after lines s (begun s h) ≡ Some c) × (answered s h ≡ begun s h))
KeepsLines lines h (event.Ret at place answer) = (a : ℕ) × (IsDoOf a (begun a h) (slice_get h place) × (begun a h ≡ answered a h + 1))
KeepsLines lines h _ = Unit {0}

own_keeps : (lines : List (List Call)) (a : ℕ) (h : List Event) (e : Event) → IsOwn lines a h e → KeepsLines lines h e
own_keeps lines a h (event.Do at s line c reply) own = λ _.
    subst (λ t. (line ≡ begun t h + 1) × ((line_after lines t (begun t h) ≡ Some c) × (answered t h ≡ begun t h))) (sym own.0) own.1
own_keeps lines a h (event.Ret at place answer) own = (a, own)
own_keeps lines a h _ own = tt

unmount_keeps : (lines : List (List Call)) (h : List Event) (e : Event) → IsUnmountEvent h e → KeepsLines lines h e
unmount_keeps lines h (event.Do at s line (call.Close handle) reply) own = λ lt. absurd (omega (arith, own.0))
unmount_keeps lines h (event.Do at s line c reply) own = absurd own
unmount_keeps lines h (event.Ret at place answer) own = absurd own
unmount_keeps lines h _ own = tt

-- ---- the lines that are begun

calls_begun-append : (t : ℕ) (h more : List Event) → calls_begun t (h ++ more) ≡ calls_begun t h ++ calls_begun t more
unfolding calls_begun
calls_begun-append t h more = filter_map-append (line_call t) h more

by_choice : (b : Bool) (c : Call) → filter_map (λ (x : Bool). if x then Some c else None) (b ∷ []) ≡ (if b then c ∷ [] else [])
by_choice true c = refl
by_choice false c = refl

by_test : (b : Bool) (c : Call) → length (filter_map (λ (x : Bool). if x then Some c else None) (b ∷ [])) ≡ cond {A = ℕ} b 1 0
by_test true c = refl
by_test false c = refl

-- what one event begins
one_length : (t : ℕ) (e : Event) → length (calls_begun t (e ∷ [])) ≡ cond {A = ℕ} (is_line t e) 1 0
unfolding calls_begun
one_length t (event.Do at s line c reply) = by_test (s == t && nat_lt 0 line) c
one_length t _ = refl

pub calls_counted : (t : ℕ) (h : List Event) → length (calls_begun t h) ≡ begun t h
unfolding calls_begun begun
calls_counted t [] = refl
calls_counted t (e ∷ h) =
    let split : length (calls_begun t (e ∷ h)) ≡ length (calls_begun t (e ∷ [])) + length (calls_begun t h) = ap length (calls_begun-append t (e ∷ []) h) ∙ length-append (calls_begun t (e ∷ [])) (calls_begun t h) in
    let one : length (calls_begun t (e ∷ [])) ≡ cond {A = ℕ} (is_line t e) 1 0 = one_length t e in
    let rest : length (calls_begun t h) ≡ begun t h = calls_counted t h in
    let counts : begun t (e ∷ h) ≡ cond {A = ℕ} (is_line t e) 1 0 + begun t h = sum_by-cons (λ x. cond (is_line t x) 1 0) e h in
    omega arith

-- the first of what is left
head_is : (front left : List Call) (c : Call) → slice_get (front ++ left) (length front) ≡ Some c → left ≡ c ∷ drop 1 left
head_is front [] c e =
    let inside : length front < length (front ++ []) = slice_get_within (front ++ []) (length front) c e in
    let long : length (front ++ []) ≡ length front = ap length (append-nil front) in
    absurd (omega arith)
head_is front (d ∷ left) c e =
    let there : slice_get (front ++ d ∷ left) (length front) ≡ Some d = slice_get-here front d left in
    let same : d ≡ c = cc in
    ap (λ x. x ∷ left) same

-- what is left once these are begun
after_these : (front new left all : List Call) → all ≡ front ++ left → left ≡ new ++ drop (length new) left → all ≡ (front ++ new) ++ drop (length new) left
after_these front new left all e f = e ∙ ap (λ l. front ++ l) f ∙ sym (append_assoc front new (drop (length new) left))

begun_by_test : (b : Bool) (c : Call) (left : List Call) → (b ≡ true → left ≡ c ∷ drop 1 left)
    → left ≡ (if b then c ∷ [] else []) ++ drop (length (if b then c ∷ [] else [])) left
begun_by_test true c left h = h refl
begun_by_test false c left h = refl

first_test : (b c : Bool) → (b && c) ≡ true → b ≡ true
first_test true c h = refl
first_test false c h = absurd (cc)

second_test : (b c : Bool) → (b && c) ≡ true → c ≡ true
second_test true c h = h
second_test false c h = absurd (cc)

above_0 : (n : ℕ) → nat_lt 0 n ≡ true → 0 < n
above_0 n h = grind (arith, nat_tests)

left_begins : (lines : List (List Call)) (h : List Event) (e : Event) → KeepsLines lines h e → (b : BeginsLines lines h) → (t : ℕ)
    → b.left t ≡ calls_begun t (e ∷ []) ++ drop (length (calls_begun t (e ∷ []))) (b.left t)
unfolding line_after calls_begun
left_begins lines h (event.Do at s line c reply) keeps b t =
    subst (λ (x : List Call). b.left t ≡ x ++ drop (length x) (b.left t)) (sym (by_choice (s == t && nat_lt 0 line) c))
    (begun_by_test (s == t && nat_lt 0 line) c (b.left t) (λ f.
    let mine : s ≡ t = eqb-true s t (first_test (s == t) (nat_lt 0 line) f) in
    let next = keeps (above_0 line (second_test (s == t) (nat_lt 0 line) f)) in
    let there : slice_get (lines_of lines t) (begun t h) ≡ Some c = subst (λ x. slice_get (lines_of lines x) (begun x h) ≡ Some c) mine next.1.0 in
    head_is (filter_map (line_call t) h) (b.left t) c
    (subst (λ (l : List Call). slice_get l (length (filter_map (line_call t) h)) ≡ Some c) (b.in_order t)
    (subst (λ n. slice_get (lines_of lines t) n ≡ Some c) (sym (b.counted t)) there))))
left_begins lines h _ keeps b t = refl

begins_more : (lines : List (List Call)) (h : List Event) (e : Event) → KeepsLines lines h e → BeginsLines lines h → BeginsLines lines (h ++ e ∷ [])
begins_more lines h e keeps b = record {
  left = λ t. drop (length (calls_begun t (e ∷ []))) (b.left t);
  in_order = λ t.
      after_these (calls_begun t h) (calls_begun t (e ∷ [])) (b.left t) (lines_of lines t) (b.in_order t) (left_begins lines h e keeps b t)
      ∙ ap (λ (l : List Call). l ++ drop (length (calls_begun t (e ∷ []))) (b.left t)) (sym (calls_begun-append t h (e ∷ [])));
  counted = λ t.
      let long : length (calls_begun t (h ++ e ∷ [])) ≡ length (calls_begun t h) + length (calls_begun t (e ∷ [])) = ap length (calls_begun-append t h (e ∷ [])) ∙ length-append (calls_begun t h) (calls_begun t (e ∷ [])) in
      let counts = begun-more t h e in
      let one = one_length t e in
      let so_far = b.counted t in
      omega arith;
}

-- ---- numbers

numbered_more : (before events : List Event) (e : Event) → AreNumbered before events → HasNextNumber (before ++ events) e → AreNumbered before (events ++ e ∷ [])
numbered_more before [] e n next = (subst (λ h. HasNextNumber h e) (append-nil before) next, tt)
numbered_more before (d ∷ events) e n next =
    (n.0, numbered_more (before ++ d ∷ []) events e n.1 (subst (λ h. HasNextNumber h e) (sym (append_assoc before (d ∷ []) events)) next))

next_number : (lines : List (List Call)) (h : List Event) (e : Event) → KeepsLines lines h e → HasNextNumber h e
next_number lines h (event.Do at s line c reply) keeps = λ lt. (keeps lt).0
next_number lines h _ keeps = tt

-- ---- answers

do_there : (s line : ℕ) (o : Option Event) → IsDoOf s line o → (e : Event) × (o ≡ Some e)
do_there s line None d = absurd d
do_there s line (Some e) d = (e, refl)

do_within : (h : List Event) (place s line : ℕ) → IsDoOf s line (slice_get h place) → place < length h
do_within h place s line d =
    let there = do_there s line (slice_get h place) d in
    slice_get_within h place there.0 there.1

do_longer : (h more : List Event) (place s line : ℕ) → IsDoOf s line (slice_get h place) → IsDoOf s line (slice_get (h ++ more) place)
do_longer h more place s line d =
    let there = do_there s line (slice_get h place) d in
    subst (IsDoOf s line) (there.1 ∙ sym (slice_get-longer h more place there.0 there.1)) d

-- the call of a line is its session's alone
both : (b : Bool) → b ≡ (b && true)
both true = refl
both false = refl

call_of_line : (t s line : ℕ) (o : Option Event) → 0 < line → IsDoOf s line o → is_line_there t o ≡ (s == t)
call_of_line t s line None lt d = absurd d
call_of_line t s line (Some (event.Do at s2 l c reply)) lt d =
    let numbered : nat_lt 0 l ≡ true = grind (arith, nat_tests, d.1) in
    ap (λ b. (s2 == t) && b) numbered ∙ sym (both (s2 == t)) ∙ ap (λ x. x == t) d.0
call_of_line t s line (Some _) lt d = absurd d

answer_longer : (s line : ℕ) (h more : List Event) → HasAnswer s line h → HasAnswer s line (h ++ more)
answer_longer s line h more a = record {
  place = a.place;
  begins = do_longer h more a.place s line a.begins;
  later_place = a.later_place;
  at = a.at;
  answer = a.answer;
  answers = slice_get-longer h more a.later_place (event.Ret a.at a.place a.answer) a.answers;
}

answer_here : (s line : ℕ) (h : List Event) (at place : ℕ) (answer : Reply) → IsDoOf s line (slice_get h place) → HasAnswer s line (h ++ event.Ret at place answer ∷ [])
answer_here s line h at place answer d = record {
  place = place;
  begins = do_longer h (event.Ret at place answer ∷ []) place s line d;
  later_place = length h;
  at = at;
  answer = answer;
  answers = slice_get-here h (event.Ret at place answer) [];
}

-- at most one line is under way, before and after an event
abbrev IsPaced : ℕ → List Event → Type 0
IsPaced t h = (answered t h ≤ begun t h) × (begun t h ≤ answered t h + 1)

begun_one : (t : ℕ) (b c : ℕ) (h : List Event) (x : Bool) → IsPaced t h → (x ≡ true → answered t h ≡ begun t h) → b ≡ begun t h + cond {A = ℕ} x 1 0 → c ≡ answered t h → (c ≤ b) × (b ≤ c + 1)
begun_one t b c h true p same e f = (omega (arith, p.0), omega (arith, same refl))
begun_one t b c h false p same e f = (omega (arith, p.0), omega (arith, p.1))

answered_one : (t : ℕ) (b c : ℕ) (h : List Event) (x : Bool) → IsPaced t h → (x ≡ true → begun t h ≡ answered t h + 1) → b ≡ begun t h → c ≡ answered t h + cond {A = ℕ} x 1 0 → (c ≤ b) × (b ≤ c + 1)
answered_one t b c h true p same e f = (omega (arith, same refl), omega (arith, same refl))
answered_one t b c h false p same e f = (omega (arith, p.0), omega (arith, p.1))

paced_same : (t : ℕ) (b c : ℕ) (h : List Event) → IsPaced t h → b ≡ begun t h → c ≡ answered t h → (c ≤ b) × (b ≤ c + 1)
paced_same t b c h p e f = (omega (arith, p.0), omega (arith, p.1))

-- the call that a Ret names, of this session
ret_call : (t a place : ℕ) (h : List Event) → IsDoOf a (begun a h) (slice_get h place) → begun a h ≡ answered a h + 1 → is_call_of t h place ≡ (a == t)
ret_call t a place h d last = call_of_line t a (begun a h) (slice_get h place) (omega arith) d

paced_more : (lines : List (List Call)) (h : List Event) (e : Event) → KeepsLines lines h e → TakesLines lines h → (t : ℕ) → IsPaced t (h ++ e ∷ [])
paced_more lines h (event.Do at s line c reply) keeps k t =
    begun_one t (begun t (h ++ event.Do at s line c reply ∷ [])) (answered t (h ++ event.Do at s line c reply ∷ [])) h (s == t && nat_lt 0 line) (k.at_most_last t)
    (λ f.
    let mine : s ≡ t = eqb-true s t (first_test (s == t) (nat_lt 0 line) f) in
    subst (λ x. answered x h ≡ begun x h) mine (keeps (above_0 line (second_test (s == t) (nat_lt 0 line) f))).1.1)
    (begun-do t h at s line c reply) (answered-do t h at s line c reply k.placed)
paced_more lines h (event.Ret at place answer) keeps k t =
    let inside : place < length h = do_within h place keeps.0 (begun keeps.0 h) keeps.1.0 in
    answered_one t (begun t (h ++ event.Ret at place answer ∷ [])) (answered t (h ++ event.Ret at place answer ∷ [])) h (keeps.0 == t) (k.at_most_last t)
    (λ f. subst (λ x. begun x h ≡ answered x h + 1) (eqb-true keeps.0 t f) keeps.1.1)
    (begun-ret t h at place answer)
    (answered-ret t h at place answer k.placed inside ∙ ap (λ b. answered t h + cond {A = ℕ} b 1 0) (ret_call t keeps.0 place h keeps.1.0 keeps.1.1))
paced_more lines h e keeps k t =
    paced_same t (begun t (h ++ e ∷ [])) (answered t (h ++ e ∷ [])) h (k.at_most_last t) (begun-other t h e refl) (answered-other t h e k.placed refl)

place_below : (lines : List (List Call)) (h : List Event) (e : Event) → KeepsLines lines h e → IsPlacedBelow (length h) e
place_below lines h (event.Ret at place answer) keeps = do_within h place keeps.0 (begun keeps.0 h) keeps.1.0
place_below lines h _ keeps = tt

answers_ret : (a t line : ℕ) (h : List Event) (at place : ℕ) (answer : Reply) (x : Bool) → (a == t) ≡ x → IsDoOf a (begun a h) (slice_get h place) → begun a h ≡ answered a h + 1
    → ((s l : ℕ) → 0 < l → l ≤ answered s h → HasAnswer s l h) → 0 < line → line ≤ answered t h + cond {A = ℕ} x 1 0 → HasAnswer t line (h ++ event.Ret at place answer ∷ [])
answers_ret a t line h at place answer true e d last all lt le = elim (cases_lt (answered t h) line) [
  | inr ge ↦ answer_longer t line h (event.Ret at place answer ∷ []) (all t line lt ge)
  | inl more ↦
      let mine : a ≡ t = eqb-true a t e in
      let same : begun a h ≡ line = omega (arith, ap (λ s. answered s h) mine) in
      subst (λ s. HasAnswer s line (h ++ event.Ret at place answer ∷ [])) mine (answer_here a line h at place answer (subst (λ n. IsDoOf a n (slice_get h place)) same d))
]
answers_ret a t line h at place answer false e d last all lt le = answer_longer t line h (event.Ret at place answer ∷ []) (all t line lt (omega arith))

answers_more : (lines : List (List Call)) (h : List Event) (e : Event) → KeepsLines lines h e → TakesLines lines h → (t line : ℕ) → 0 < line → line ≤ answered t (h ++ e ∷ []) → HasAnswer t line (h ++ e ∷ [])
answers_more lines h (event.Do at s l c reply) keeps k t line lt le =
    answer_longer t line h (event.Do at s l c reply ∷ []) (k.answers t line lt (subst (λ n. line ≤ n) (answered-do t h at s l c reply k.placed) le))
answers_more lines h (event.Ret at place answer) keeps k t line lt le =
    let inside : place < length h = do_within h place keeps.0 (begun keeps.0 h) keeps.1.0 in
    let grown : answered t (h ++ event.Ret at place answer ∷ []) ≡ answered t h + cond {A = ℕ} (keeps.0 == t) 1 0 =
    answered-ret t h at place answer k.placed inside ∙ ap (λ b. answered t h + cond {A = ℕ} b 1 0) (ret_call t keeps.0 place h keeps.1.0 keeps.1.1) in
    answers_ret keeps.0 t line h at place answer (keeps.0 == t) refl keeps.1.0 keeps.1.1 k.answers lt (subst (λ n. line ≤ n) grown le)
answers_more lines h e keeps k t line lt le =
    answer_longer t line h (e ∷ []) (k.answers t line lt (subst (λ n. line ≤ n) (answered-other t h e k.placed refl) le))

-- ---- histories that grow by such events

pub takes_more : (lines : List (List Call)) (h : List Event) (e : Event) → KeepsLines lines h e → TakesLines lines h → TakesLines lines (h ++ e ∷ [])
takes_more lines h e keeps k = record {
  begins = begins_more lines h e keeps k.begins;
  numbered = numbered_more [] h e k.numbered (next_number lines h e keeps);
  placed = placed-more h e k.placed (place_below lines h e keeps);
  at_most_last = paced_more lines h e keeps k;
  answers = answers_more lines h e keeps k;
}

-- a turn's events
pub takes_piece : (lines : List (List Call)) (a : ℕ) (h events : List Event) → IsPiece lines a h events → TakesLines lines h → TakesLines lines (h ++ events)
takes_piece lines a h [] own k = subst (TakesLines lines) (sym (append-nil h)) k
takes_piece lines a h (e ∷ events) own k =
    subst (TakesLines lines) (append_assoc h (e ∷ []) events) (takes_piece lines a (h ++ e ∷ []) events own.1 (takes_more lines h e (own_keeps lines a h e own.0) k))

pub takes_turn : (old : CoreView) (actor : ℕ) (new : CoreView) → IsTurn old actor new → TakesLines old.lines old.history → TakesLines old.lines new.history
takes_turn old actor new t k = subst (TakesLines old.lines) (sym t.grown) (takes_piece old.lines actor old.history t.piece t.own k)

-- whoever takes turns
pub takes_steps : (actors : List ℕ) (old new : CoreView) → Steps old actors new → TakesLines old.lines old.history → TakesLines old.lines new.history
takes_steps [] old new s k = subst (λ (v : CoreView). TakesLines old.lines v.history) (sym s) k
takes_steps (a ∷ actors) old new s k =
    let same : s.0.lines ≡ old.lines = s.1.0.same_lines in
    subst (λ l. TakesLines l new.history) same
    (takes_steps actors s.0 new s.1.1 (subst (λ l. TakesLines l s.0.history) (sym same) (takes_turn old a s.0 s.1.0 k)))

-- before the first turn
pub takes_none : (lines : List (List Call)) → TakesLines lines []
unfolding calls_begun begun answered
takes_none lines = record {
  begins = record { left = λ t. lines_of lines t; in_order = λ t. refl; counted = λ t. refl };
  numbered = tt;
  placed = λ i d lt. absurd (omega arith);
  at_most_last = λ t. (omega arith, omega arith);
  answers = λ t line lt le. absurd (omega arith);
}

-- ---- at the end

no_line_left : (h : List Event) (line : Option Call) → standing_at h line ≡ finished → line ≡ None
no_line_left h None e = refl
no_line_left h (Some (call.After session lines)) e = absurd (grind (arith, nat_tests))
no_line_left h (Some _) e = absurd (cc)

past_length : (l : List Call) (n : ℕ) → slice_get l n ≡ None → length l ≤ n
past_length l n e = elim (slice_get_cases l n).1 [
  | inl there ↦ absurd (cc)
  | inr past ↦ past.0
]

no_lines : (lines : List (List Call)) (s : ℕ) → length lines ≤ s → length (lines_of lines s) ≡ 0
unfolding lines_of
no_lines lines s ge = ap (λ (o : Option (List Call)). length (unwrap_or o [])) (slice_get_past lines s ge)

all_answered_of : (v : CoreView) (lines : List (List Call)) → lines ≡ v.lines → AllFinished v → TakesLines lines v.history → is_stopped v.history ≡ false → (s : ℕ) → length (lines_of lines s) ≤ answered s v.history
unfolding line_after
all_answered_of v lines same ended k running s = elim (cases_lt s (length lines)) [
  | inr ge ↦ omega (arith, no_lines lines s ge)
  | inl lt ↦
      let stands = ended s (omega (arith, ap length same)) in
      let none = no_line_left v.history (line_after v.lines s (answered s v.history)) (sym (standing_running v.lines v.history s running) ∙ stands) in
      past_length (lines_of lines s) (answered s v.history) (ap (λ (l : List (List Call)). slice_get (lines_of l s) (answered s v.history)) same ∙ none)
]

pub answers_all : (v : CoreView) (lines : List (List Call)) → lines ≡ v.lines → AllFinished v → TakesLines lines v.history → AnswersLines lines v.history
answers_all v lines same ended k = record {
  takes = k;
  all = λ running s.
      let most : length (lines_of lines s) ≤ answered s v.history = all_answered_of v lines same ended k running s in
      let long : length (lines_of lines s) ≡ length (calls_begun s v.history) + length (k.begins.left s) = ap length (k.begins.in_order s) ∙ length-append (calls_begun s v.history) (k.begins.left s) in
      let counted = k.begins.counted s in
      let paced = (k.at_most_last s).0 in
      omega arith;
}

pub answers_driven : (old : CoreView) (schedule : List ℕ) (new : CoreView) → IsDriven old schedule new → TakesLines old.lines old.history → AnswersLines old.lines new.history
answers_driven old schedule new d k =
    answers_all new old.lines (sym d.turns.same_lines) d.ended
    (takes_steps (continued schedule (length old.lines) d.rounds_taken) old new d.turns.steps k)

-- ---- the unmount

takes_unmounted : (lines : List (List Call)) (h events : List Event) → AreUnmountEvents h events → TakesLines lines h → TakesLines lines (h ++ events)
takes_unmounted lines h [] own k = subst (TakesLines lines) (sym (append-nil h)) k
takes_unmounted lines h (e ∷ events) own k =
    subst (TakesLines lines) (append_assoc h (e ∷ []) events) (takes_unmounted lines (h ++ e ∷ []) events own.1 (takes_more lines h e (unmount_keeps lines h e own.0) k))

pub takes_unmount : (old new : CoreView) → UnmountsOn old new → TakesLines old.lines old.history → TakesLines old.lines new.history
takes_unmount old new u k = subst (TakesLines old.lines) (sym u.grown) (takes_unmounted old.lines old.history u.events u.own k)

pub answers_unmounted : (old new : CoreView) → UnmountsOn old new → AnswersLines old.lines old.history → AnswersLines old.lines new.history
answers_unmounted old new u a =
    answers_all new old.lines (sym u.same_lines) u.still (takes_unmount old new u a.takes)
