-- The lines of a script by their sessions.
use Rattle.std.proofs.Common.{◌≡◌, ℕ, ◌+◌, ◌≤◌, ◌==◌, nat_le, Bool, true, false, not, cond, zero, suc, List, [], ◌∷◌, ◌++◌, length, refl, sym, ap, ◌∙◌, arith, inl, inr, add-one, length-append}
use Rattle.std.specs.Prelude.{map, filter, slice_get, unwrap_or}
use Rattle.std.proofs.lemmas.Bool.{cases_lt}
use Rattle.std.proofs.lemmas.Bool.Decides.{nat_tests}
use Rattle.std.proofs.lemmas.List.{map-append}
use Rattle.vx_base.specs.declared.call.Call.{Call}
use Rattle.vx_grammar.specs.Orders.{HasOrder, IsLowestStuck}
use Rattle.vx_grammar.specs.Orders.{below}
use Rattle.vx_grammar.specs.declared.reader.Command.{Command}
use Rattle.vx_grammar.specs.Readings.{Reading, RisesTo, IsWhole}
use Rattle.vx_grammar.specs.Scripts.{is_of, calls_of, numbers_of, lines_read, numbers_read, number_at, AreLinesNumbered, IsScript, IsScriptOf}
use Rattle.vx_grammar.specs.declared.script.Script.{Script}
use Rattle.vx_grammar.proofs.SumLaws.{calls_formed, calls_few, reads_few, writes_few, lists_few}

-- the lines of this session and of those after it
abbrev pub is_from : ℕ → Command → Bool
is_from session c = nat_le session c.session

pub all_from : (cs : List Command) → filter (is_from 0) cs ≡ cs
all_from [] = refl
all_from (c ∷ cs) = let here : is_from 0 c ≡ true = grind (arith, nat_tests) in rw here (ap (λ l. c ∷ l) (all_from cs))

own_lines : (s : ℕ) (cs : List Command) → filter (is_of s) (filter (is_from s) cs) ≡ filter (is_of s) cs
own_lines s [] = refl
own_lines s (c ∷ cs) = elim (cases_lt c.session s) [
  | inl lt ↦
      let before : is_from s c ≡ false = grind (arith, nat_tests) in
      let other : is_of s c ≡ false = grind (arith, nat_tests) in
      rw (before, other) (own_lines s cs)
  | inr ge ↦
      let here : is_from s c ≡ true = grind (arith, nat_tests) in
      rw here (ap (λ (l : List Command). cond (is_of s c) (c ∷ l) l) (own_lines s cs))
]

not_same : (n s : ℕ) → s ≤ n → not (n == s) ≡ nat_le (s + 1) n
not_same n s h = grind (arith, nat_tests)

later_lines : (s : ℕ) (cs : List Command) → filter (λ c. not (is_of s c)) (filter (is_from s) cs) ≡ filter (is_from (s + 1)) cs
later_lines s [] = refl
later_lines s (c ∷ cs) = elim (cases_lt c.session s) [
  | inl lt ↦
      let before : is_from s c ≡ false = grind (arith, nat_tests) in
      let also : is_from (s + 1) c ≡ false = grind (arith, nat_tests) in
      rw (before, also) (later_lines s cs)
  | inr ge ↦
      let here : is_from s c ≡ true = grind (arith, nat_tests) in
      let same : not (is_of s c) ≡ is_from (s + 1) c = not_same c.session s ge in
      rw here (ap (λ (b : Bool). cond b (c ∷ filter (λ d. not (is_of s d)) (filter (is_from s) cs)) (filter (λ d. not (is_of s d)) (filter (is_from s) cs))) same
      ∙ ap (λ (l : List Command). cond (is_from (s + 1) c) (c ∷ l) l) (later_lines s cs))
]

-- one session more
pub more_lines : (all rest mine : List Command) (s : ℕ) (lines : List (List Call)) (calls : List Call) → rest ≡ filter (is_from s) all → mine ≡ filter (is_of s) rest → calls ≡ map (λ c. c.call) mine
    → lines ≡ map (calls_of all) (below s) → lines ++ calls ∷ [] ≡ map (calls_of all) (below (s + 1))
unfolding calls_of
more_lines all rest mine s lines calls r m e l =
    let own : mine ≡ filter (is_of s) all = m ∙ ap (filter (is_of s)) r ∙ own_lines s all in
    let here : calls ≡ calls_of all s = e ∙ ap (map (λ (c : Command). c.call)) own in
    rw add-one (ap (λ (x : List (List Call)). x ++ calls ∷ []) l ∙ ap (λ (x : List Call). map (calls_of all) (below s) ++ x ∷ []) here ∙ sym (map-append (calls_of all) (below s) (s ∷ [])))

pub more_numbers : (all rest mine : List Command) (s : ℕ) (lists : List (List ℕ)) (numbers : List ℕ) → rest ≡ filter (is_from s) all → mine ≡ filter (is_of s) rest → numbers ≡ map (λ c. c.number) mine
    → lists ≡ map (numbers_of all) (below s) → lists ++ numbers ∷ [] ≡ map (numbers_of all) (below (s + 1))
unfolding numbers_of
more_numbers all rest mine s lists numbers r m e l =
    let own : mine ≡ filter (is_of s) all = m ∙ ap (filter (is_of s)) r ∙ own_lines s all in
    let here : numbers ≡ numbers_of all s = e ∙ ap (map (λ (c : Command). c.number)) own in
    rw add-one (ap (λ (x : List (List ℕ)). x ++ numbers ∷ []) l ∙ ap (λ (x : List ℕ). map (numbers_of all) (below s) ++ x ∷ []) here ∙ sym (map-append (numbers_of all) (below s) (s ∷ [])))

pub more_rest : (all rest others : List Command) (s : ℕ) → rest ≡ filter (is_from s) all → others ≡ filter (λ c. not (is_of s c)) rest → others ≡ filter (is_from (s + 1)) all
more_rest all rest others s r o = o ∙ ap (filter (λ c. not (is_of s c))) r ∙ later_lines s all

-- ---- numbers and lengths

rises_from : (low least greatest : ℕ) (ns : List ℕ) → low ≤ least → RisesTo least greatest ns → RisesTo low greatest ns
rises_from low least greatest [] h r = omega arith
rises_from low least greatest (n ∷ ns) h r = (omega (arith, r.0), r.1)

rises_filtered : (p : Command → Bool) (least greatest : ℕ) (cs : List Command) → RisesTo least greatest (map (λ c. c.number) cs) → RisesTo least greatest (map (λ c. c.number) (filter p cs))
rises_filtered p least greatest [] r = r
rises_filtered p least greatest (c ∷ cs) r =
    let after = rises_filtered p c.number greatest cs r.1 in
    elim (p c) as (λ b. RisesTo least greatest (map (λ d. d.number) (cond b (c ∷ filter p cs) (filter p cs)))) [
      | true ↦ (r.0, after)
      | false ↦ rises_from least c.number greatest (map (λ d. d.number) (filter p cs)) r.0 after
    ]

length-map : {X Y : Type 0} (f : X → Y) (xs : List X) → length (map f xs) ≡ length xs
length-map f [] = refl
length-map f (x ∷ xs) = ap suc (length-map f xs)

same_lengths : (cs : List Command) (xs : List ℕ) (s : ℕ) → length (unwrap_or (slice_get (map (numbers_of cs) xs) s) []) ≡ length (unwrap_or (slice_get (map (calls_of cs) xs) s) [])
unfolding calls_of numbers_of
same_lengths cs [] s = refl
same_lengths cs (x ∷ xs) zero = length-map (λ (c : Command). c.number) (filter (is_of x) cs) ∙ sym (length-map (λ (c : Command). c.call) (filter (is_of x) cs))
same_lengths cs (x ∷ xs) (suc s) = same_lengths cs xs s

all_rise : (cs : List Command) (xs : List ℕ) (s : ℕ) → RisesTo 0 65537 (map (λ c. c.number) cs) → RisesTo 0 65537 (unwrap_or (slice_get (map (numbers_of cs) xs) s) [])
unfolding numbers_of
all_rise cs [] s r = omega arith
all_rise cs (x ∷ xs) zero r = rises_filtered (is_of x) 0 65537 cs r
all_rise cs (x ∷ xs) (suc s) r = all_rise cs xs s r

pub lines_numbered : (r : Reading) → IsWhole r → AreLinesNumbered (map (calls_of r.commands) (below r.sessions)) (map (numbers_of r.commands) (below r.sessions))
lines_numbered r w = record { same = same_lengths r.commands (below r.sessions); rising = λ s. all_rise r.commands (below r.sessions) s w.rising }

length-below : (n : ℕ) → length (below n) ≡ n
length-below zero = refl
length-below (suc n) = let one = length-append (below n) (n ∷ []) in let before = length-below n in omega arith

pub line_count : (r : Reading) → length (map (calls_of r.commands) (below r.sessions)) ≡ r.sessions
line_count r = length-map (calls_of r.commands) (below r.sessions) ∙ length-below r.sessions

-- ---- what was read, as the program keeps it

pub lines_are : (r : Reading) (commands : List Command) (sessions : ℕ) (lines : List (List Call)) → commands ≡ r.commands → sessions ≡ r.sessions → lines ≡ map (calls_of commands) (below sessions) → lines ≡ lines_read r
unfolding lines_read
lines_are r commands sessions lines e f l = l ∙ ap (λ (c : List Command). map (calls_of c) (below sessions)) e ∙ ap (λ (n : ℕ). map (calls_of r.commands) (below n)) f

pub numbers_are : (r : Reading) (commands : List Command) (sessions : ℕ) (numbers : List (List ℕ)) → commands ≡ r.commands → sessions ≡ r.sessions → numbers ≡ map (numbers_of commands) (below sessions) → numbers ≡ numbers_read r
unfolding numbers_read
numbers_are r commands sessions numbers e f l = l ∙ ap (λ (c : List Command). map (numbers_of c) (below sessions)) e ∙ ap (λ (n : ℕ). map (numbers_of r.commands) (below n)) f

count_read : (r : Reading) → length (lines_read r) ≡ r.sessions
unfolding lines_read
count_read r = line_count r

numbered_read : (r : Reading) → IsWhole r → AreLinesNumbered (lines_read r) (numbers_read r)
unfolding lines_read numbers_read
numbered_read r w = lines_numbered r w

pub count_of : (r : Reading) (lines : List (List Call)) → lines ≡ lines_read r → length lines ≡ r.sessions
count_of r lines e = ap length e ∙ count_read r

pub numbered_of : (r : Reading) (lines : List (List Call)) (numbers : List (List ℕ)) → IsWhole r → lines ≡ lines_read r → numbers ≡ numbers_read r → AreLinesNumbered lines numbers
numbered_of r lines numbers w e f = rw (e, f) (numbered_read r w)

pub stuck_of : (r : Reading) (lines : List (List Call)) (numbers : List (List ℕ)) (n : ℕ) → lines ≡ lines_read r → numbers ≡ numbers_read r → IsLowestStuck lines (number_at numbers) n
    → IsLowestStuck (lines_read r) (number_at (numbers_read r)) n
stuck_of r lines numbers n e f s = rw (← e, ← f) s

-- what was read is a script, if its lines have an order
script_read : (r : Reading) (script : Script) → IsWhole r → script.sessions ≡ r.sessions → script.schedule ≡ r.schedule → script.lines ≡ lines_read r → HasOrder script.lines → IsScript script
script_read r script w e f l o = record {
  some = omega (arith, e, w.some);
  few_sessions = omega (arith, e, w.within.few_sessions);
  actors = rw (e, f) w.within.actors;
  count = count_of r script.lines l ∙ sym e;
  each = rw (e, l) (calls_formed r w);
  few_calls = rw l (calls_few r w);
  read_few = rw l (reads_few r w);
  wrote_few = rw l (writes_few r w);
  few_lists = rw l (lists_few r w);
  ordered = o;
}

pub script_is : (r : Reading) (script : Script) → IsWhole r → script.sessions ≡ r.sessions → script.schedule ≡ r.schedule → script.lines ≡ lines_read r → HasOrder script.lines → IsScriptOf r script
script_is r script w e f l o = record { sessions = e; schedule = f; lines = l; form = script_read r script w e f l o }
