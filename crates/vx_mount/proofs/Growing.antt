-- Histories that grow: what an event adds to the lines that are begun and answered.
use Rattle.std.proofs.Common.{◌≡◌, ℕ, ◌+◌, ◌-◌, ◌<◌, ◌≤◌, ◌==◌, ◌&&◌, nat_lt, Bool, true, false, cond, List, [], ◌∷◌, ◌++◌, length, Some, refl, sym, ap, ◌∙◌, length-append, arith, inl, inr}
use Rattle.std.specs.Prelude.{All, count_by, slice_get}
use Rattle.std.proofs.lemmas.Option.{slice_get_cases, slice_get-get_or, slice_get_within}
use Rattle.std.proofs.Math.ListN.{get_or-append}
use Rattle.std.proofs.Math.Seq.{get_or-append_seam}
use Rattle.std.proofs.lemmas.List.Sums.{sum_by-append, sum_by-cons}
use Rattle.std.proofs.lemmas.List.Elements.{All-append, All-cons, All-tail}
use Rattle.vx_base.specs.declared.call.Call.{Call}
use Rattle.vx_base.specs.declared.event.Event.{Event}
use Rattle.vx_base.specs.declared.event.Event.TheVariants as event
use Rattle.vx_base.specs.declared.reply.Reply.{Reply}
use Rattle.vx_mount.specs.Sessions.{is_line, is_line_there, is_call_of, is_answer, begun, answered}
use Rattle.vx_mount.specs.Pieces.{answers_stop, answers_stop_there, is_stopping}
use Rattle.vx_mount.specs.Runs.{IsPlacedBelow}
use Rattle.vx_mount.specs.GrowthLaws.{is_other}

-- ---- what stands in a list stands there when it grows

slice_get_front_at : {X : Type 0} (xs ys : List X) (i : ℕ) (d : X) → i < length xs → slice_get (xs ++ ys) i ≡ slice_get xs i
slice_get_front_at xs ys i d lt =
    let long : length (xs ++ ys) ≡ length xs + length ys = length-append xs ys in
    slice_get-get_or (xs ++ ys) i d (omega arith) ∙ ap Some (get_or-append xs ys d i lt) ∙ sym (slice_get-get_or xs i d lt)

pub slice_get-front : {X : Type 0} (xs ys : List X) (i : ℕ) → i < length xs → slice_get (xs ++ ys) i ≡ slice_get xs i
slice_get-front {X} xs ys i lt = elim (slice_get_cases xs i).1 [
  | inl there ↦ slice_get_front_at xs ys i there.0 lt
  | inr past ↦ absurd (omega (arith, past.0))
]

pub slice_get-longer : {X : Type 0} (xs ys : List X) (i : ℕ) (x : X) → slice_get xs i ≡ Some x → slice_get (xs ++ ys) i ≡ Some x
slice_get-longer xs ys i x e = slice_get-front xs ys i (slice_get_within xs i x e) ∙ e

pub slice_get-here : {X : Type 0} (xs : List X) (y : X) (ys : List X) → slice_get (xs ++ y ∷ ys) (length xs) ≡ Some y
slice_get-here xs y ys =
    let long : length (xs ++ y ∷ ys) ≡ length xs + length (y ∷ ys) = length-append xs (y ∷ ys) in
    slice_get-get_or (xs ++ y ∷ ys) (length xs) y (omega arith) ∙ ap Some (get_or-append_seam xs y ys y)

-- the last event
pub slice_get-last : {X : Type 0} (xs : List X) (y : X) → slice_get (xs ++ y ∷ []) (length (xs ++ y ∷ []) - 1) ≡ Some y
slice_get-last xs y =
    let long : length (xs ++ y ∷ []) ≡ length xs + length (y ∷ []) = length-append xs (y ∷ []) in
    let last : length (xs ++ y ∷ []) - 1 ≡ length xs = omega arith in
    ap (slice_get (xs ++ y ∷ [])) last ∙ slice_get-here xs y []

-- whether a history waits for a Stopped is its last event's to say
pub stopping-more : (history : List Event) (e : Event) → is_stopping (history ++ e ∷ []) ≡ answers_stop (history ++ e ∷ []) e
unfolding is_stopping
stopping-more history e = ap (answers_stop_there (history ++ e ∷ [])) (slice_get-last history e)

-- ---- the place of a Ret

longer : (n m : ℕ) → n ≤ m → (e : Event) → IsPlacedBelow n e → IsPlacedBelow m e
longer n m le (event.Ret at place answer) h = omega arith
longer n m le _ h = tt

pub placed-longer : (n m : ℕ) → n ≤ m → (events : List Event) → All (IsPlacedBelow n) events → All (IsPlacedBelow m) events
placed-longer n m le events all = λ i d lt. longer n m le _ (all i d lt)

pub placed-more : (history : List Event) (e : Event) → All (IsPlacedBelow (length history)) history → IsPlacedBelow (length history) e → All (IsPlacedBelow (length (history ++ e ∷ []))) (history ++ e ∷ [])
placed-more history e all here =
    let long : length (history ++ e ∷ []) ≡ length history + length (e ∷ []) = length-append history (e ∷ []) in
    let le : length history ≤ length (history ++ e ∷ []) = omega arith in
    All-append (IsPlacedBelow (length (history ++ e ∷ []))) history (e ∷ []) (placed-longer (length history) (length (history ++ e ∷ [])) le history all)
    (All-cons (IsPlacedBelow (length (history ++ e ∷ []))) e [] (longer (length history) (length (history ++ e ∷ [])) le e here) (λ i d lt. absurd (omega arith)))

-- ---- lines begun and answered

pub begun-append : (session : ℕ) (history more : List Event) → begun session (history ++ more) ≡ begun session history + count_by (is_line session) more
unfolding begun
begun-append session history more = sum_by-append (λ x. cond (is_line session x) 1 0) history more

same_answer : (session : ℕ) (history more : List Event) (e : Event) → IsPlacedBelow (length history) e → is_answer session (history ++ more) e ≡ is_answer session history e
same_answer session history more (event.Ret at place answer) h = ap (is_line_there session) (slice_get-front history more place h)
same_answer session history more _ h = refl

-- a count of events, of which each counts alike
count_alike : (p q : Event → Bool) (P : Event → Type 0) (events : List Event) → All P events → ((e : Event) → P e → p e ≡ q e) → count_by p events ≡ count_by q events
count_alike p q P [] all same = refl
count_alike p q P (e ∷ events) all same =
    let rest : count_by p events ≡ count_by q events = count_alike p q P events (All-tail P e events all) same in
    let first : p e ≡ q e = same e (all 0 e (omega arith)) in
    sum_by-cons (λ x. cond (p x) 1 0) e events ∙ ap (λ b. cond b 1 0 + count_by p events) first ∙ ap (λ n. cond (q e) 1 0 + n) rest ∙ sym (sum_by-cons (λ x. cond (q x) 1 0) e events)

pub answered-append : (session : ℕ) (history more : List Event) → All (IsPlacedBelow (length history)) history
    → answered session (history ++ more) ≡ answered session history + count_by (is_answer session (history ++ more)) more
unfolding answered
answered-append session history more placed =
    sum_by-append (λ x. cond (is_answer session (history ++ more) x) 1 0) history more
    ∙ ap (λ n. n + count_by (is_answer session (history ++ more)) more)
    (count_alike (is_answer session (history ++ more)) (is_answer session history) (IsPlacedBelow (length history)) history placed (same_answer session history more))

-- one event more
pub begun-more : (session : ℕ) (history : List Event) (e : Event) → begun session (history ++ e ∷ []) ≡ begun session history + cond {A = ℕ} (is_line session e) 1 0
begun-more session history e =
    let one : count_by (is_line session) (e ∷ []) ≡ cond {A = ℕ} (is_line session e) 1 0 + 0 = sum_by-cons (λ x. cond (is_line session x) 1 0) e [] in
    let more = begun-append session history (e ∷ []) in
    omega arith

pub answered-more : (session : ℕ) (history : List Event) (e : Event) → All (IsPlacedBelow (length history)) history
    → answered session (history ++ e ∷ []) ≡ answered session history + cond {A = ℕ} (is_answer session (history ++ e ∷ []) e) 1 0
answered-more session history e placed =
    let one : count_by (is_answer session (history ++ e ∷ [])) (e ∷ []) ≡ cond {A = ℕ} (is_answer session (history ++ e ∷ []) e) 1 0 + 0 = sum_by-cons (λ x. cond (is_answer session (history ++ e ∷ []) x) 1 0) e [] in
    let more = answered-append session history (e ∷ []) placed in
    omega arith

-- a Do begins a line of its own session, if its number is above 0, and answers none
pub begun-do : (t : ℕ) (history : List Event) (at session line : ℕ) (c : Call) (reply : Reply)
    → begun t (history ++ event.Do at session line c reply ∷ []) ≡ begun t history + cond {A = ℕ} (session == t && nat_lt 0 line) 1 0
begun-do t history at session line c reply = begun-more t history (event.Do at session line c reply)

pub answered-do : (t : ℕ) (history : List Event) (at session line : ℕ) (c : Call) (reply : Reply) → All (IsPlacedBelow (length history)) history
    → answered t (history ++ event.Do at session line c reply ∷ []) ≡ answered t history
answered-do t history at session line c reply placed =
    let more = answered-more t history (event.Do at session line c reply) placed in
    omega arith

-- a Ret answers a line of the session whose call it names, and begins none
pub begun-ret : (t : ℕ) (history : List Event) (at place : ℕ) (answer : Reply) → begun t (history ++ event.Ret at place answer ∷ []) ≡ begun t history
begun-ret t history at place answer =
    let more = begun-more t history (event.Ret at place answer) in
    omega arith

pub answered-ret : (t : ℕ) (history : List Event) (at place : ℕ) (answer : Reply) → All (IsPlacedBelow (length history)) history → place < length history
    → answered t (history ++ event.Ret at place answer ∷ []) ≡ answered t history + cond {A = ℕ} (is_call_of t history place) 1 0
answered-ret t history at place answer placed inside =
    answered-more t history (event.Ret at place answer) placed
    ∙ ap (λ o. answered t history + cond {A = ℕ} (is_line_there t o) 1 0) (slice_get-front history (event.Ret at place answer ∷ []) place inside)

-- any other event begins and answers none
other_line : (s : ℕ) (e : Event) → is_other e ≡ true → is_line s e ≡ false
other_line s (event.Do at session line c reply) h = absurd (cc)
other_line s _ h = refl

other_answer : (s : ℕ) (history : List Event) (e : Event) → is_other e ≡ true → is_answer s history e ≡ false
other_answer s history (event.Ret at place answer) h = absurd (cc)
other_answer s history _ h = refl

pub other-placed : (n : ℕ) (e : Event) → is_other e ≡ true → IsPlacedBelow n e
other-placed n (event.Ret at place answer) h = absurd (cc)
other-placed n _ h = tt

pub begun-other : (session : ℕ) (history : List Event) (e : Event) → is_other e ≡ true → begun session (history ++ e ∷ []) ≡ begun session history
begun-other session history e h =
    let more = begun-more session history e in
    let none : cond {A = ℕ} (is_line session e) 1 0 ≡ 0 = rw (other_line session e h) refl in
    omega arith

pub answered-other : (session : ℕ) (history : List Event) (e : Event) → All (IsPlacedBelow (length history)) history → is_other e ≡ true → answered session (history ++ e ∷ []) ≡ answered session history
answered-other session history e placed h =
    let more = answered-more session history e placed in
    let none : cond {A = ℕ} (is_answer session (history ++ e ∷ []) e) 1 0 ≡ 0 = rw (other_answer session (history ++ e ∷ []) e h) refl in
    omega arith
