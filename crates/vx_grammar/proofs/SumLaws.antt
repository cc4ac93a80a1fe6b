-- The calls of all sessions, and those of all lines.
use Rattle.std.proofs.Common.{◌≡◌, ℕ, ◌+◌, ◌≤◌, ◌==◌, nat_lt, Bool, true, false, cond, zero, suc, List, [], ◌∷◌, ◌++◌, length, refl, sym, ap, ◌∙◌, arith, inl, inr, add-one}
use Rattle.std.specs.Prelude.{All, map, filter, sum_by}
use Rattle.std.proofs.lemmas.Bool.{cases_lt}
use Rattle.std.proofs.lemmas.Bool.Decides.{nat_tests}
use Rattle.std.proofs.lemmas.List.{map-append}
use Rattle.std.proofs.lemmas.List.Elements.{All-map, All-filter}
use Rattle.std.proofs.lemmas.List.Sums.{sum_by-cons, sum_by_push, sum_by-le-sum_by}
use Rattle.vx_base.specs.declared.call.Call.{Call}
use Rattle.vx_grammar.specs.Forms.{IsScriptCall}
use Rattle.vx_grammar.specs.Orders.{below}
use Rattle.vx_grammar.specs.declared.reader.Command.{Command}
use Rattle.vx_grammar.specs.Readings.{Reading, IsWhole, most_read, most_written, most_lists, read_bytes, written_bytes, list_count}
use Rattle.vx_grammar.specs.Scripts.{is_of, calls_of, lines_read, sum_over}

-- ---- sums

-- what a line adds, where its session is below a number
below_term : (Call → ℕ) → ℕ → Command → ℕ
below_term f n c = cond {A = ℕ} (nat_lt c.session n) (f c.call) 0

cond_most : (b : Bool) (n : ℕ) → cond {A = ℕ} b n 0 ≤ n
cond_most true n = omega arith
cond_most false n = omega arith

term_most : (f : Call → ℕ) (n : ℕ) (c : Command) → below_term f n c ≤ f c.call
unfolding below_term
term_most f n c = cond_most (nat_lt c.session n) (f c.call)

no_term : (f : Call → ℕ) (cs : List Command) → sum_by (below_term f 0) cs ≡ 0
unfolding below_term
no_term f [] = refl
no_term f (c ∷ cs) =
    let none : nat_lt c.session 0 ≡ false = grind (arith, nat_tests) in
    let here : below_term f 0 c ≡ 0 = rw none refl in
    omega (arith, sum_by-cons (below_term f 0) c cs, no_term f cs)

-- a session's terms
own_term : (Call → ℕ) → ℕ → Command → ℕ
own_term f n c = cond {A = ℕ} (c.session == n) (f c.call) 0

kept : (f : Call → ℕ) (b : Bool) (c : Command) (cs : List Command) → sum_by f (map (λ d. d.call) (cond b (c ∷ cs) cs)) ≡ cond {A = ℕ} b (f c.call) 0 + sum_by f (map (λ d. d.call) cs)
kept f true c cs = sum_by-cons f c.call (map (λ d. d.call) cs)
kept f false c cs = omega arith

own_sum : (f : Call → ℕ) (n : ℕ) (c : Command) (cs : List Command) → sum_by f (map (λ d. d.call) (filter (is_of n) (c ∷ cs))) ≡ own_term f n c + sum_by f (map (λ d. d.call) (filter (is_of n) cs))
unfolding own_term
own_sum f n c cs = kept f (c.session == n) c (filter (is_of n) cs)

next_term : (f : Call → ℕ) (n : ℕ) (c : Command) → below_term f n c + own_term f n c ≡ below_term f (n + 1) c
unfolding below_term own_term
next_term f n c = elim (cases_lt c.session n) [
  | inl lt ↦
      let a : nat_lt c.session n ≡ true = grind (arith, nat_tests) in
      let b : (c.session == n) ≡ false = grind (arith, nat_tests) in
      let d : nat_lt c.session (n + 1) ≡ true = grind (arith, nat_tests) in
      rw (a, b, d) (omega arith)
  | inr ge ↦ elim (cases_lt n c.session) [
    | inl more ↦
        let a : nat_lt c.session n ≡ false = grind (arith, nat_tests) in
        let b : (c.session == n) ≡ false = grind (arith, nat_tests) in
        let d : nat_lt c.session (n + 1) ≡ false = grind (arith, nat_tests) in
        rw (a, b, d) (omega arith)
    | inr same ↦
        let a : nat_lt c.session n ≡ false = grind (arith, nat_tests) in
        let b : (c.session == n) ≡ true = grind (arith, nat_tests) in
        let d : nat_lt c.session (n + 1) ≡ true = grind (arith, nat_tests) in
        rw (a, b, d) (omega arith)
  ]
]

next_session : (f : Call → ℕ) (n : ℕ) (cs : List Command) → sum_by (below_term f n) cs + sum_by f (map (λ c. c.call) (filter (is_of n) cs)) ≡ sum_by (below_term f (n + 1)) cs
next_session f n [] = refl
next_session f n (c ∷ cs) =
    let own : sum_by f (map (λ d. d.call) (filter (is_of n) (c ∷ cs))) ≡ own_term f n c + sum_by f (map (λ d. d.call) (filter (is_of n) cs)) = own_sum f n c cs in
    omega (arith, sum_by-cons (below_term f n) c cs, sum_by-cons (below_term f (n + 1)) c cs, own, next_term f n c, next_session f n cs)

sums_below : (f : Call → ℕ) (cs : List Command) (n : ℕ) → sum_over f (map (calls_of cs) (below n)) ≡ sum_by (below_term f n) cs
unfolding calls_of
sums_below f cs zero = sym (no_term f cs)
sums_below f cs (suc n) =
    let split : sum_over f (map (calls_of cs) (below n ++ n ∷ [])) ≡ sum_over f (map (calls_of cs) (below n) ++ calls_of cs n ∷ []) = ap (sum_over f) (map-append (calls_of cs) (below n) (n ∷ [])) in
    let last : sum_over f (map (calls_of cs) (below n) ++ calls_of cs n ∷ []) ≡ sum_over f (map (calls_of cs) (below n)) + sum_by f (calls_of cs n) = sum_by_push (λ calls. sum_by f calls) (map (calls_of cs) (below n)) (calls_of cs n) in
    rw (← add-one) (split ∙ last ∙ ap (λ (k : ℕ). k + sum_by f (calls_of cs n)) (sums_below f cs n) ∙ next_session f n cs)

-- the sum over the calls of all sessions is at most that of all lines
sums_most : (f : Call → ℕ) (cs : List Command) (n : ℕ) → sum_over f (map (calls_of cs) (below n)) ≤ sum_by (λ c. f c.call) cs
sums_most f cs n = omega (arith, sums_below f cs n, sum_by-le-sum_by (below_term f n) (λ c. f c.call) cs (term_most f n))

-- ---- counts

counted : {X : Type 0} (xs : List X) → sum_by (λ x. 1) xs ≡ length xs
counted [] = refl
counted (x ∷ xs) = omega (arith, sum_by-cons (λ y. 1) x xs, counted xs)

counts : (lists : List (List Call)) → sum_by (λ calls. length calls) lists ≡ sum_over (λ c. 1) lists
counts [] = refl
counts (calls ∷ lists) =
    omega (arith, sum_by-cons (λ (l : List Call). length l) calls lists, sum_by-cons (λ (l : List Call). sum_by (λ c. 1) l) calls lists, counted calls, counts lists)

-- ---- what was read

pub calls_few : (r : Reading) → IsWhole r → sum_by (λ calls. length calls) (lines_read r) ≤ 65535
unfolding lines_read
calls_few r w =
    let lines = map (calls_of r.commands) (below r.sessions) in
    omega (arith, counts lines, sums_most (λ c. 1) r.commands r.sessions, counted r.commands, w.few_calls)

pub reads_few : (r : Reading) → IsWhole r → sum_over read_bytes (lines_read r) ≤ most_read
unfolding lines_read
reads_few r w = omega (arith, sums_most read_bytes r.commands r.sessions, w.counted.read, w.within.read_few)

pub writes_few : (r : Reading) → IsWhole r → sum_over written_bytes (lines_read r) ≤ most_written
unfolding lines_read
writes_few r w = omega (arith, sums_most written_bytes r.commands r.sessions, w.counted.written, w.within.wrote_few)

pub lists_few : (r : Reading) → IsWhole r → sum_over list_count (lines_read r) ≤ most_lists
unfolding lines_read
lists_few r w = omega (arith, sums_most list_count r.commands r.sessions, w.counted.lists, w.within.few_lists)

-- ---- forms

session_form : (P : Call → Type 0) (cs : List Command) (n : ℕ) → All (λ c. P c.call) cs → All P (calls_of cs n)
unfolding calls_of
session_form P cs n h = All-map P (λ (c : Command). c.call) (filter (is_of n) cs) (All-filter (is_of n) (λ c. P c.call) cs h)

pub calls_formed : (r : Reading) → IsWhole r → All (λ calls. All (IsScriptCall r.sessions) calls) (lines_read r)
unfolding lines_read
calls_formed r w = All-map (λ calls. All (IsScriptCall r.sessions) calls) (calls_of r.commands) (below r.sessions) (λ k d lt. session_form (IsScriptCall r.sessions) r.commands _ w.counted.each)
