-- What holds of every reading.
use Rattle.std.proofs.Common.{◌≡◌, ℕ, ◌+◌, ◌-◌, ◌<◌, ◌≤◌, ◌==◌, ◌&&◌, nat_lt, Bool, true, false, List, [], ◌∷◌, ◌++◌, length, Option, Some, None, Result, Ok, Err, refl, sym, ap, subst, ◌∙◌, length-append, zero, suc, arith}
use Rattle.std.specs.Prelude.{All, IfOk, map, sum_by, codes, unwrap_or, if◌then◌else◌}
use Rattle.std.proofs.lemmas.Bool.{eqb-true, eqb-false}
use Rattle.std.proofs.lemmas.Bool.Decides.{nat_tests}
use Rattle.std.proofs.lemmas.List.{map-append}
use Rattle.std.proofs.lemmas.List.Elements.{All-cons, All-append}
use Rattle.std.proofs.lemmas.List.Sums.{sum_by_push}
use Rattle.vx_base.specs.declared.call.Call.{Call}
use Rattle.vx_base.specs.declared.call.Call.TheVariants as call
use Rattle.vx_grammar.specs.declared.why.Why.{Why}
use Rattle.vx_grammar.specs.declared.why.Why.TheVariants as why
use Rattle.vx_grammar.specs.declared.why.ScriptRefusal.{ScriptRefusal}
use Rattle.vx_grammar.specs.declared.why.ScriptRefusal.TheVariants.{BadLine, TooLong}
use Rattle.vx_grammar.specs.Lines.{lines_of}
use Rattle.vx_grammar.specs.declared.reader.Command.{Command}
use Rattle.vx_grammar.specs.Orders.{most_sessions}
use Rattle.vx_grammar.specs.Words.{Word, is_word, is_skipped, words_of, number_of}
use Rattle.vx_grammar.specs.Commands.{need, command_call}
use Rattle.vx_grammar.specs.Readings.{Reading, Read, unless_bad, sessions_of, with_sessions, with_actor, actors_of, joined, with_schedule, with_command, with_call, with_line, with_words, with_any, after_line, after_lines, at_end, go_on, few_lines, reading_of, most_bytes, IsWhole, nothing_read, most_lines, most_read, most_written, most_lists, read_bytes, written_bytes, list_count, no_commands, command_words, RisesTo, AreBelow, IsCounted, first_call_line, IsSound}
use Rattle.vx_grammar.specs.Forms.{IsInRange, IsScriptCall}
use Rattle.vx_grammar.proofs.FormLaws.{number_small, command_form, held}

-- ---- numbers that rise

pub rises_further : (least n m : ℕ) (ns : List ℕ) → n ≤ m → RisesTo least n ns → RisesTo least m ns
rises_further least n m [] h r = omega arith
rises_further least n m (x ∷ ns) h r = (r.0, rises_further x n m ns h r.1)

rises_with : (least n : ℕ) (ns : List ℕ) → RisesTo least n ns → RisesTo least n (ns ++ n ∷ [])
rises_with least n [] r = (r, omega arith)
rises_with least n (x ∷ ns) r = (r.0, rises_with x n ns r.1)

-- ---- a reading that stays sound

-- what is read of a line is sound before the next one
record Good (number : ℕ) (read : Read) : Type 0 where
  good : IfOk read (λ r. IsSound r (number + 1))

sound_later : (r : Reading) (number : ℕ) → IsSound r number → IsSound r (number + 1)
sound_later r number s = record {
  within = s.within;
  counted = s.counted;
  few = omega (arith, s.few);
  rising = rises_further 0 number (number + 1) (map (λ c. c.number) r.commands) (omega arith) s.rising;
}

bad_good : (number : ℕ) (w : Why) → Good number (Err w)
bad_good number w = record { good = tt }

need_good : {X : Type 0} (number : ℕ) (w : Why) (o : Option X) (later : X → Read) → ((x : X) → o ≡ Some x → Good number (later x)) → Good number (need w o later)
need_good number w None later h = bad_good number w
need_good number w (Some x) later h = h x refl

unless_good : {X : Type 0} (number : ℕ) (o : Result X Why) (later : X → Read) → ((x : X) → o ≡ Ok x → Good number (later x)) → Good number (unless_bad o later)
unless_good number (Err w) later h = bad_good number w
unless_good number (Ok x) later h = h x refl

either : (number : ℕ) (b : Bool) (x y : Read) → (b ≡ true → Good number x) → (b ≡ false → Good number y) → Good number (if b then x else y)
either number true x y h k = h refl
either number false x y h k = k refl

-- ---- sessions and schedules

sessions_few : (b : Bool) (number : Word) (n : ℕ) → (if b then number_of 1 most_sessions number else None) ≡ Some n → (1 ≤ n) × (n ≤ most_sessions)
sessions_few true number n h = number_small 1 most_sessions number n h
sessions_few false number n h = absurd (cc)

sessions_small : (words : List Word) (n : ℕ) → sessions_of words ≡ Some n → (1 ≤ n) × (n ≤ most_sessions)
sessions_small [] n h = absurd (cc)
sessions_small (name ∷ []) n h = absurd (cc)
sessions_small (name ∷ number ∷ []) n h = sessions_few (is_word name (codes "sessions")) number n h
sessions_small (name ∷ number ∷ other ∷ rest) n h = absurd (cc)

more_sessions : (n m : ℕ) (schedule : Option (List ℕ)) → n ≤ m → AreBelow n schedule → AreBelow m schedule
more_sessions n m None h k = tt
more_sessions n m (Some actors) h k = λ i d lt. omega (arith, k i d lt)

all_cons : (bound x : ℕ) (xs : List ℕ) → x < bound → All (λ y. y < bound) xs → All (λ y. y < bound) (x ∷ xs)
all_cons bound x xs h k = All-cons (λ y. y < bound) x xs h k

with_actor_below : (bound : ℕ) (o : Option ℕ) (os : Option (List ℕ)) (all : List ℕ) → ((x : ℕ) → o ≡ Some x → x < bound) → ((xs : List ℕ) → os ≡ Some xs → All (λ y. y < bound) xs)
    → with_actor o os ≡ Some all → All (λ y. y < bound) all
with_actor_below bound None os all h k e = absurd (cc)
with_actor_below bound (Some x) None all h k e = absurd (cc)
with_actor_below bound (Some x) (Some xs) all h k e =
    let same : x ∷ xs ≡ all = cc in
    subst (λ ys. All (λ y. y < bound) ys) same (all_cons bound x xs (h x refl) (k xs refl))

actors_below : (sessions : ℕ) (words : List Word) (all : List ℕ) → 1 ≤ sessions → actors_of sessions words ≡ Some all → All (λ y. y < sessions) all
actors_below sessions [] all some e =
    let none : [] ≡ all = cc in
    subst (λ ys. All (λ y. y < sessions) ys) none (λ i d lt. absurd (omega arith))
actors_below sessions (word ∷ words) all some e =
    with_actor_below sessions (number_of 0 (sessions - 1) word) (actors_of sessions words) all
    (λ x f. let small = number_small 0 (sessions - 1) word x f in omega arith)
    (λ xs f. actors_below sessions words xs some f) e

joined_below : (bound : ℕ) (schedule : Option (List ℕ)) (o : Option (List ℕ)) (all : List ℕ) → AreBelow bound schedule → ((xs : List ℕ) → o ≡ Some xs → All (λ y. y < bound) xs)
    → joined (unwrap_or schedule []) o ≡ Some all → All (λ y. y < bound) all
joined_below bound schedule None all h k e = absurd (cc)
joined_below bound None (Some xs) all h k e =
    let same : xs ≡ all = cc in
    subst (λ ys. All (λ y. y < bound) ys) same (k xs refl)
joined_below bound (Some earlier) (Some xs) all h k e =
    let same : earlier ++ xs ≡ all = cc in
    subst (λ ys. All (λ y. y < bound) ys) same (All-append (λ y. y < bound) earlier xs h (k xs refl))

-- ---- the lines

more_calls : (n m : ℕ) (c : Call) → n ≤ m → IsInRange n c → IsInRange m c
more_calls n m (call.After session lines) h r = omega (arith, r)
more_calls n m _ h r = r

more_counted : (r : Reading) (n : ℕ) → r.sessions ≤ n → IsCounted r → IsCounted (record r { sessions = n })
more_counted r n h k = record {
  owned = λ i d lt. omega (arith, k.owned i d lt);
  each = λ i d lt. record { built = (k.each i d lt).built; range = more_calls r.sessions n _ h (k.each i d lt).range };
  read = k.read;
  written = k.written;
  lists = k.lists;
}

second_line : (n : ℕ) → first_call_line n ≤ 2
second_line zero = omega arith
second_line (suc n) = omega arith

pub calls_begin : (n : ℕ) → 1 ≤ n → first_call_line n ≡ 2
calls_begin zero h = absurd (omega arith)
calls_begin (suc n) h = refl

first_line : (n : ℕ) → n ≡ 0 → first_call_line n ≡ 1
first_line n e = ap first_call_line e

with_sessions_good : (r : Reading) (number : ℕ) (words : List Word) → r.sessions ≡ 0 → IsSound r number → Good number (with_sessions r words)
with_sessions_good r number words none s = need_good number why.Sessions (sessions_of words) _ (λ n e.
    let small = sessions_small words n e in
    record {
      good = record {
        within = record { few_sessions = small.1; read_few = s.within.read_few; wrote_few = s.within.wrote_few; few_lists = s.within.few_lists; actors = more_sessions r.sessions n r.schedule (omega arith) s.within.actors };
        counted = more_counted r n (omega arith) s.counted;
        few = omega (arith, s.few, second_line n, first_line r.sessions none);
        rising = rises_further 0 number (number + 1) (map (λ c. c.number) r.commands) (omega arith) s.rising;
      };
    })

with_schedule_good : (r : Reading) (number : ℕ) (words : List Word) → 1 ≤ r.sessions → IsSound r number → Good number (with_schedule r words)
with_schedule_good r number words some s = either number (length words == 0) _ _ (λ e. bad_good number why.Words) (λ e.
    need_good number why.Number (joined (unwrap_or r.schedule []) (actors_of r.sessions words)) _ (λ all f.
    record {
      good = record {
        within = record {
          few_sessions = s.within.few_sessions;
          read_few = s.within.read_few;
          wrote_few = s.within.wrote_few;
          few_lists = s.within.few_lists;
          actors = joined_below r.sessions r.schedule (actors_of r.sessions words) all s.within.actors (λ xs g. actors_below r.sessions words xs some g) f;
        };
        counted = record { owned = s.counted.owned; each = s.counted.each; read = s.counted.read; written = s.counted.written; lists = s.counted.lists };
        few = omega (arith, s.few);
        rising = rises_further 0 number (number + 1) (map (λ c. c.number) r.commands) (omega arith) s.rising;
      };
    }))

alone : {X : Type 0} (P : X → Type 0) (x : X) → P x → All P (x ∷ [])
alone P x h = All-cons P x [] h (λ i d lt. absurd (omega arith))

summed : (f : Command → ℕ) (cs : List Command) (c : Command) (sum : ℕ) → sum ≡ sum_by f cs → sum + f c ≡ sum_by f (cs ++ c ∷ [])
summed f cs c sum e = sym (sum_by_push f cs c ∙ ap (λ n. n + f c) (sym e))

not_above : (most sum : ℕ) → nat_lt most sum ≡ false → sum ≤ most
not_above most sum h = grind (arith, nat_tests)

with_command_good : (r : Reading) (c : Command) → c.session < r.sessions → IsScriptCall r.sessions c.call → IsSound r c.number → Good c.number (with_command r c)
with_command_good r c own form s =
    either c.number (nat_lt most_lines c.number) _ _ (λ e. bad_good c.number why.TooManyLines) (λ e0.
    either c.number (nat_lt most_read (r.read_sum + read_bytes c.call)) _ _ (λ e. bad_good c.number why.ReadSum) (λ e1.
    either c.number (nat_lt most_written (r.write_sum + written_bytes c.call)) _ _ (λ e. bad_good c.number why.WriteSum) (λ e2.
    either c.number (nat_lt most_lists (r.lists + list_count c.call)) _ _ (λ e. bad_good c.number why.Lists) (λ e3.
    let more = subst (RisesTo 0 c.number) (sym (map-append (λ d. d.number) r.commands (c ∷ []))) (rises_with 0 c.number (map (λ d. d.number) r.commands) s.rising) in
    record {
      good = record {
        within = record {
          few_sessions = s.within.few_sessions;
          actors = s.within.actors;
          read_few = not_above most_read (r.read_sum + read_bytes c.call) e1;
          wrote_few = not_above most_written (r.write_sum + written_bytes c.call) e2;
          few_lists = not_above most_lists (r.lists + list_count c.call) e3;
        };
        counted = record {
          owned = All-append (λ (d : Command). d.session < r.sessions) r.commands (c ∷ []) s.counted.owned (alone (λ (d : Command). d.session < r.sessions) c own);
          each = All-append (λ (d : Command). IsScriptCall r.sessions d.call) r.commands (c ∷ []) s.counted.each (alone (λ (d : Command). IsScriptCall r.sessions d.call) c form);
          read = summed (λ d. read_bytes d.call) r.commands c r.read_sum s.counted.read;
          written = summed (λ d. written_bytes d.call) r.commands c r.write_sum s.counted.written;
          lists = summed (λ d. list_count d.call) r.commands c r.lists s.counted.lists;
        };
        few = omega (arith, s.few, length-append r.commands (c ∷ []));
        rising = rises_further 0 c.number (c.number + 1) (map (λ d. d.number) (r.commands ++ c ∷ [])) (omega arith) more;
      };
    }))))

with_call_good : (r : Reading) (number : ℕ) (first : Word) (words : List Word) → 1 ≤ r.sessions → IsSound r number → Good number (with_call r number first words)
with_call_good r number first words some s =
    need_good number why.Sessions (number_of 0 (r.sessions - 1) first) _ (λ session e. need_good number why.Unknown (command_words words) _ (λ w f.
    unless_good number (command_call r.sessions w.0 w.1) _ (λ c g.
    with_command_good r (record { session = session; number = number; call = c })
    (omega (arith, number_small 0 (r.sessions - 1) first session e)) (held (IsScriptCall r.sessions) (command_call r.sessions w.0 w.1) c g (command_form r.sessions w.0 w.1 some)) s)))

with_line_good : (r : Reading) (number : ℕ) (words : List Word) → 1 ≤ r.sessions → IsSound r number → Good number (with_line r number words)
with_line_good r number [] some s = record { good = sound_later r number s }
with_line_good r number (first ∷ words) some s =
    either number (is_word first (codes "schedule") && no_commands r) _ _ (λ e. with_schedule_good r number words some s) (λ e. with_call_good r number first words some s)

with_words_good : (r : Reading) (number : ℕ) (words : List Word) → IsSound r number → Good number (with_words r number words)
with_words_good r number words s =
    either number (r.sessions == 0) _ _ (λ e. with_sessions_good r number words (eqb-true r.sessions 0 e) s) (λ e. let other = eqb-false r.sessions 0 e in with_line_good r number words (omega arith) s)

with_any_good : (r : Reading) (number : ℕ) (line : List ℕ) → IsSound r number → Good number (with_any r number line)
with_any_good r number line s = either number (is_skipped line) _ _ (λ e. record { good = sound_later r number s }) (λ e. with_words_good r number (words_of line) s)

after_good : (r : Reading) (number : ℕ) (line : List ℕ) → IsSound r number → Good number (after_line r number line)
unfolding after_line
after_good r number line s = unless_good number (with_any r number line) _ (λ next e.
    let good = with_any_good r number line s in
    let sound : IsSound next (number + 1) = subst (λ (o : Read). IfOk o (λ r. IsSound r (number + 1))) e good.good in
    either number (nat_lt most_lines number) _ _ (λ f. bad_good number why.TooManyLines) (λ f. record { good = sound }))

-- a line more
pub after_sound : (r : Reading) (number : ℕ) (line : List ℕ) (next : Reading) → after_line r number line ≡ Ok next → IsSound r number → IsSound next (number + 1)
after_sound r number line next e s =
    let good = after_good r number line s in
    subst (λ (o : Read). IfOk o (λ r. IsSound r (number + 1))) e good.good

-- ---- one line after another

pub line_read : (r : Reading) (number : ℕ) (line : List ℕ) (lines : List (List ℕ)) (next : Reading) → after_line r number line ≡ Ok next → after_lines r number (line ∷ lines) ≡ after_lines next (number + 1) lines
line_read r number line lines next e = rw e refl

pub line_refused : (r : Reading) (number : ℕ) (line : List ℕ) (lines : List (List ℕ)) (w : Why) → after_line r number line ≡ Err w → after_lines r number (line ∷ lines) ≡ Err (BadLine number w)
line_refused r number line lines w e = rw e refl

pub nothing_sound : IsSound nothing_read 1
nothing_sound = record {
  within = record { few_sessions = omega arith; read_few = omega arith; wrote_few = omega arith; few_lists = omega arith; actors = tt };
  counted = record { owned = λ i d lt. absurd (omega arith); each = λ i d lt. absurd (omega arith); read = refl; written = refl; lists = refl };
  few = omega arith;
  rising = omega arith;
}

-- ---- the whole script

choice_whole : (b : Bool) (x y : Result Reading ScriptRefusal) → (b ≡ true → IfOk x IsWhole) → (b ≡ false → IfOk y IsWhole) → IfOk (if b then x else y) IsWhole
choice_whole true x y h k = h refl
choice_whole false x y h k = k refl

-- at the end, after at most 65,536 lines
end_whole : (r : Reading) (number : ℕ) → number ≤ 65537 → IsSound r number → IfOk (at_end r number) IsWhole
end_whole r number few s = choice_whole (r.sessions == 0) (Err (BadLine number why.Sessions)) (Ok r) (λ e. tt) (λ e.
    let other = eqb-false r.sessions 0 e in
    record {
      within = s.within;
      counted = s.counted;
      few_calls = omega (arith, few, s.few, calls_begin r.sessions (omega arith));
      some = omega arith;
      rising = rises_further 0 number 65537 (map (λ c. c.number) r.commands) few s.rising;
    })

-- a line that is read has number 65,536 at most
few_numbers : (b : Bool) (r next : Reading) → (if b then Err why.TooManyLines else Ok r) ≡ Ok next → b ≡ false
few_numbers true r next e = absurd (cc)
few_numbers false r next e = refl

few_after : (o : Read) (number : ℕ) (next : Reading) → unless_bad o (few_lines number) ≡ Ok next → number ≤ 65536
few_after (Err w) number next e = absurd (cc)
few_after (Ok r) number next e = let f = few_numbers (nat_lt most_lines number) r next e in not_above most_lines number f

few_read : (r : Reading) (number : ℕ) (line : List ℕ) (next : Reading) → after_line r number line ≡ Ok next → number ≤ 65536
unfolding after_line
few_read r number line next e = few_after (with_any r number line) number next e

go_whole : (read : Read) (number : ℕ) (later : Reading → Result Reading ScriptRefusal) → ((next : Reading) → read ≡ Ok next → IfOk (later next) IsWhole) → IfOk (go_on read number later) IsWhole
go_whole (Err w) number later h = tt
go_whole (Ok r) number later h = h r refl

lines_whole : (r : Reading) (number : ℕ) (lines : List (List ℕ)) → number ≤ 65537 → IsSound r number → IfOk (after_lines r number lines) IsWhole
lines_whole r number [] few s = end_whole r number few s
lines_whole r number (line ∷ lines) few s = go_whole (after_line r number line) number (λ next. after_lines next (number + 1) lines) (λ next e.
    lines_whole next (number + 1) lines (omega (arith, few_read r number line next e)) (after_sound r number line next e s))

pub reading_whole : (bytes : List ℕ) → IfOk (reading_of bytes) IsWhole
unfolding reading_of
reading_whole bytes = choice_whole (nat_lt most_bytes (length bytes)) (Err TooLong) (after_lines nothing_read 1 (lines_of bytes)) (λ e. tt) (λ e. lines_whole nothing_read 1 (lines_of bytes) (omega arith) nothing_sound)
