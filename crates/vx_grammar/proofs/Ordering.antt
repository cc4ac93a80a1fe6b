-- Orders of lines.
use Rattle.std.proofs.Common.{◌≡◌, ◌≢◌, inl, inr, ℕ, ◌+◌, ◌-◌, ◌≤◌, ◌<◌, ◌==◌, cond, List, [], ◌∷◌, ◌++◌, length, true, false, Option, Some, None, refl, sym, ap, subst, ◌∙◌, append_assoc, append-nil, arith, get_or, get_or-set_same, get_or-set_other}
use Rattle.std.proofs.lemmas.List.{get_or_past}
use Rattle.std.proofs.lemmas.Option.{slice_get_past}
use Rattle.std.proofs.lemmas.Bool.{cases_lt, eqb-true, eqb-false}
use Rattle.std.proofs.lemmas.Bool.Decides.{nat_tests}
use Rattle.std.specs.Prelude.{slice_get, slice_index, slice_set}
use Rattle.vx_base.specs.declared.call.Call.{Call}
use Rattle.vx_base.specs.declared.call.Call.TheVariants as call
use Rattle.vx_base.specs.Lines.{lines_of, line_after}
use Rattle.vx_grammar.specs.NextLines.{AlwaysHasNextLine}
use Rattle.vx_grammar.specs.Orders.{lines_in, IsMet, CanFollow, IsOrder, HasOrder, CanBegin, is_met_by, so_far, IsFurthest, SaysWhatBegins, IsLowestStuck}
use Rattle.vx_grammar.proofs.Going.{IsMetBy, met_by, lines_in-more, lines_in-none, next_after, met_there, there_below}

-- the test of a line, and what it says
test_met : (f : ℕ → ℕ) (line : Option Call) → IsMetBy f line → is_met_by f line ≡ true
test_met f None m = absurd m
test_met f (Some (call.After session lines)) m = grind (arith, nat_tests)
test_met f (Some _) m = refl

met_test : (f : ℕ → ℕ) (line : Option Call) → is_met_by f line ≡ true → IsMetBy f line
met_test f None m = absurd (cc)
met_test f (Some (call.After session lines)) m = grind (arith, nat_tests)
met_test f (Some _) m = tt

-- what an order meets, if it has answered as many lines
met_in : (order : List ℕ) (f : ℕ → ℕ) (line : Option Call) → ((s : ℕ) → f s ≤ lines_in s order) → IsMetBy f line → IsMet order line
met_in order f None most m = m
met_in order f (Some (call.After session lines)) most m = omega (arith, most session)
met_in order f (Some _) most m = tt

-- ---- one entry more

nothing_after : (front : List ℕ) (s : ℕ) (rest : List ℕ) → front ++ s ∷ rest ≡ [] → ⊥
nothing_after [] s rest e = cc
nothing_after (b ∷ front) s rest e = cc

-- where a list with one entry at its end is cut
data Cut (front rest order : List ℕ) (s a : ℕ) : Type 0 where
  last : front ≡ order → s ≡ a → Cut front rest order s a
  earlier : (less : List ℕ) → order ≡ front ++ s ∷ less → Cut front rest order s a

cut : (front rest order : List ℕ) (s a : ℕ) → order ++ a ∷ [] ≡ front ++ s ∷ rest → Cut front rest order s a
cut [] rest [] s a e = last refl (cc)
cut [] rest (b ∷ order) s a e = earlier order (let h : b ≡ s = cc in rw h refl)
cut (c ∷ front) rest [] s a e = absurd (nothing_after front s rest (cc))
cut (c ∷ front) rest (b ∷ order) s a e =
    let tail : order ++ a ∷ [] ≡ front ++ s ∷ rest = cc in
    let head : b ≡ c = cc in
    elim (cut front rest order s a tail) [
      | last f g ↦ last (rw (f, head) refl) g
      | earlier less h ↦ earlier less (rw (h, head) refl)
    ]

order_more : (lines : List (List Call)) (order : List ℕ) (a : ℕ) → IsOrder lines order → CanFollow lines order a → IsOrder lines (order ++ a ∷ [])
order_more lines order a each next = λ front rest s e. elim (cut front rest order s a e) [
  | last f g ↦ subst (λ o. CanFollow lines o s) (sym f) (subst (CanFollow lines order) (sym g) next)
  | earlier less h ↦ each front less s h
]

-- ---- the furthest order

pub record SoFar (lines : List (List Call)) (left : List ℕ) : Type 0 where
  pub order : List ℕ
  pub each : IsOrder lines order
  pub counts : (session : ℕ) → lines_in session order + slice_index left session ≡ length (lines_of lines session)

pub nothing_yet : (lines : List (List Call)) (left : List ℕ) → ((s : ℕ) → slice_index left s ≡ length (lines_of lines s)) → SoFar lines left
nothing_yet lines left h = record {
  order = [];
  each = λ front rest s e. absurd (nothing_after front s rest (sym e));
  counts = λ s. omega (arith, lines_in-none s, h s);
}

so_far-is : (lines : List (List Call)) (left : List ℕ) (order : List ℕ) (s : ℕ) → lines_in s order + slice_index left s ≡ length (lines_of lines s) → so_far lines left s ≡ lines_in s order
unfolding so_far
so_far-is lines left order s h = omega arith

counted : (lines : List (List Call)) (left : List ℕ) (a t : ℕ) (order : List ℕ) → a < length left → lines_in t order + slice_index left t ≡ length (lines_of lines t)
    → lines_in a order + slice_index left a ≡ length (lines_of lines a) → 0 < slice_index left a
    → lines_in t (order ++ a ∷ []) + slice_index (slice_set left a (slice_index left a - 1)) t ≡ length (lines_of lines t)
counted lines left a t order inside h k some = elim (a == t) as (λ b. (a == t) ≡ b → lines_in t (order ++ a ∷ []) + slice_index (slice_set left a (slice_index left a - 1)) t ≡ length (lines_of lines t)) [
  | true ↦ λ e.
      let same : a ≡ t = eqb-true a t e in
      let more : lines_in t (order ++ a ∷ []) ≡ lines_in t order + cond {A = ℕ} (a == t) 1 0 = lines_in-more t a order in
      let one : cond {A = ℕ} (a == t) 1 0 ≡ 1 = rw e refl in
      let here : slice_index (slice_set left a (slice_index left a - 1)) t ≡ slice_index left a - 1 = subst (λ x. slice_index (slice_set left a (slice_index left a - 1)) x ≡ slice_index left a - 1) same (get_or-set_same left a (slice_index left a - 1) 0 inside) in
      let also : slice_index left t ≡ slice_index left a = ap (slice_index left) (sym same) in
      omega arith
  | false ↦ λ e.
      let other : t ≢ a = λ f. absurd (eqb-false a t e (sym f)) in
      let more : lines_in t (order ++ a ∷ []) ≡ lines_in t order + cond {A = ℕ} (a == t) 1 0 = lines_in-more t a order in
      let none : cond {A = ℕ} (a == t) 1 0 ≡ 0 = rw e refl in
      let here : slice_index (slice_set left a (slice_index left a - 1)) t ≡ slice_index left t = get_or-set_other left a t (slice_index left a - 1) 0 other in
      omega arith
] refl

pub some_left : (lines : List (List Call)) (left : List ℕ) (a : ℕ) → SoFar lines left → is_met_by (so_far lines left) (line_after lines a (so_far lines left a)) ≡ true → 0 < slice_index left a
some_left lines left a s met =
    let is = so_far-is lines left s.order a (s.counts a) in
    let m = met_test (so_far lines left) (line_after lines a (so_far lines left a)) met in
    let there = met_there (so_far lines left) (line_after lines a (so_far lines left a)) m in
    let room = (there_below lines a (so_far lines left a) there.0 there.1).1 in
    omega (arith, s.counts a)

pub some_inside : (left : List ℕ) (a : ℕ) → 0 < slice_index left a → a < length left
some_inside left a some = elim (cases_lt a (length left)) [
  | inl lt ↦ lt
  | inr ge ↦ let none : slice_index left a ≡ 0 = get_or_past left a 0 ge in absurd (omega arith)
]

pub one_answered : (lines : List (List Call)) (left : List ℕ) (a : ℕ) → SoFar lines left → is_met_by (so_far lines left) (line_after lines a (so_far lines left a)) ≡ true
    → SoFar lines (slice_set left a (slice_index left a - 1))
one_answered lines left a s met =
    let inside = some_inside left a (some_left lines left a s met) in
    let is = λ (t : ℕ). so_far-is lines left s.order t (s.counts t) in
    let m = met_test (so_far lines left) (line_after lines a (so_far lines left a)) met in
    let follow = subst (λ n. IsMet s.order (line_after lines a n)) (is a) (met_in s.order (so_far lines left) (line_after lines a (so_far lines left a)) (λ t. omega (arith, is t)) m) in
    let there = met_there (so_far lines left) (line_after lines a (so_far lines left a)) m in
    let room = (there_below lines a (so_far lines left a) there.0 there.1).1 in
    record {
      order = s.order ++ a ∷ [];
      each = order_more lines s.order a s.each follow;
      counts = λ t. counted lines left a t s.order inside (s.counts t) (s.counts a) (omega (arith, is a, s.counts a));
    }

-- no order leads further
pub furthest_most : (lines : List (List Call)) (left : List ℕ) → IsFurthest lines left → (order : List ℕ) → IsOrder lines order → (s : ℕ) → lines_in s order ≤ so_far lines left s
furthest_most lines left f order each s = elim (cases_lt (so_far lines left s) (lines_in s order)) [
  | inr ge ↦ ge
  | inl lt ↦
      let next = next_after lines (so_far lines left) [] order s each (λ t. omega (arith, lines_in-none t)) lt in
      let met = test_met (so_far lines left) (line_after lines next.session (so_far lines left next.session)) next.met in
      let stuck = f.stuck next.session in
      absurd (cc)
]

-- an order with a session's line in it begins with one that leads to this line
leads_to : (lines : List (List Call)) (front rest : List ℕ) (s before : ℕ) → IsOrder lines (front ++ rest) → lines_in s front ≤ before → before < lines_in s (front ++ rest) → CanBegin lines s before
leads_to lines front [] s before each low high =
    let e : lines_in s (front ++ []) ≡ lines_in s front = ap (lines_in s) (append-nil front) in absurd (omega arith)
leads_to lines front (a ∷ rest) s before each low high =
    let again : (front ++ a ∷ []) ++ rest ≡ front ++ a ∷ rest = append_assoc front (a ∷ []) rest in
    let more : lines_in s (front ++ a ∷ []) ≡ lines_in s front + cond {A = ℕ} (a == s) 1 0 = lines_in-more s a front in
    elim (cases_lt before (lines_in s (front ++ a ∷ []))) [
      | inr ge ↦ leads_to lines (front ++ a ∷ []) rest s before (subst (IsOrder lines) (sym again) each) ge (subst (λ (o : List ℕ). before < lines_in s o) (sym again) high)
      | inl lt ↦ elim (a == s) as (λ b. (a == s) ≡ b → CanBegin lines s before) [
        | true ↦ λ e.
            let one : cond {A = ℕ} (a == s) 1 0 ≡ 1 = rw e refl in
            record {
              order = front;
              each = λ f r t h. each f (r ++ a ∷ rest) t (ap (λ (o : List ℕ). o ++ a ∷ rest) h ∙ append_assoc f (t ∷ r) (a ∷ rest));
              here = omega arith;
              next = subst (CanFollow lines front) (eqb-true a s e) (each front rest a refl);
            }
        | false ↦ λ e.
            let none : cond {A = ℕ} (a == s) 1 0 ≡ 0 = rw e refl in
            absurd (omega arith)
      ] refl
    ]

pub says_what_begins : (lines : List (List Call)) (left : List ℕ) → IsFurthest lines left → SaysWhatBegins lines left
says_what_begins lines left f =
    let is = λ (t : ℕ). so_far-is lines left f.order t (f.counts t) in
    record {
      few = λ s. omega (arith, f.counts s);
      ordered = λ none. record { order = f.order; each = f.each; all = λ s. omega (arith, f.counts s, none s) };
      can = λ s before lt. leads_to lines [] f.order s before f.each (omega (arith, lines_in-none s)) (omega (arith, is s));
      cannot = λ s before ge can.
          let most = furthest_most lines left f can.order can.each in
          let same : before ≡ so_far lines left s = omega (arith, most s, can.here) in
          let met = met_by can.order (so_far lines left) (line_after lines s (lines_in s can.order)) most can.next in
          let test = test_met (so_far lines left) (line_after lines s (so_far lines left s)) (subst (λ n. IsMetBy (so_far lines left) (line_after lines s n)) (can.here ∙ same) met) in
          let stuck = f.stuck s in
          absurd (cc);
    }

-- ---- the lists of the program

past_lines : (lines : List (List Call)) (s n : ℕ) → length lines ≤ s → (lines_of lines s ≡ []) × (line_after lines s n ≡ None)
unfolding lines_of line_after
past_lines lines s n ge =
    let none : slice_get lines s ≡ None = slice_get_past lines s ge in
    (rw none refl, rw none refl)

pub left_more : (lines : List (List Call)) (left : List ℕ) (n x : ℕ) → n < length left → x ≡ length (lines_of lines n) → ((s : ℕ) → s < n → get_or left s 0 ≡ length (lines_of lines s))
    → (s : ℕ) → s < n + 1 → get_or (slice_set left n x) s 0 ≡ length (lines_of lines s)
left_more lines left n x inside here h s lt = elim (cases_lt s n) [
  | inl less ↦ let other : s ≢ n = omega arith in get_or-set_other left n s x 0 other ∙ h s less
  | inr ge ↦
      let same : n ≡ s = omega arith in
      subst (λ t. get_or (slice_set left n x) t 0 ≡ length (lines_of lines t)) same (get_or-set_same left n x 0 inside ∙ here)
]

pub all_of_them : (lines : List (List Call)) (left : List ℕ) (n : ℕ) → length left ≤ n → length lines ≤ n → ((s : ℕ) → s < n → get_or left s 0 ≡ length (lines_of lines s))
    → (s : ℕ) → get_or left s 0 ≡ length (lines_of lines s)
all_of_them lines left n short few h s = elim (cases_lt s n) [
  | inl lt ↦ h s lt
  | inr ge ↦
      let past : get_or left s 0 ≡ 0 = get_or_past left s 0 (omega arith) in
      past ∙ sym (ap length (past_lines lines s 0 (omega arith)).0)
]

pub furthest_is : (lines : List (List Call)) (left : List ℕ) → length lines ≤ 16 → SoFar lines left
    → ((s : ℕ) → s < 16 → is_met_by (so_far lines left) (line_after lines s (so_far lines left s)) ≡ false) → IsFurthest lines left
furthest_is lines left few s stuck = record {
  order = s.order;
  each = s.each;
  counts = s.counts;
  stuck = λ t. elim (cases_lt t 16) [
    | inl lt ↦ stuck t lt
    | inr ge ↦ ap (is_met_by (so_far lines left)) (past_lines lines t (so_far lines left t) (omega arith)).1
  ];
}

-- ---- the lowest line that can never begin

-- the numbers of a script's lines rise within each session, and each line has one
pub record AreNumbers (lines : List (List Call)) (number_of : (session before : ℕ) → Option ℕ) : Type 0 where
  pub rising : (s k l n m : ℕ) → k ≤ l → number_of s k ≡ Some n → number_of s l ≡ Some m → n ≤ m
  pub whole : (s k l n : ℕ) → k ≤ l → number_of s l ≡ Some n → (m : ℕ) × (number_of s k ≡ Some m)

-- the least number of a session's first line that is left is that of the lowest line that can never begin
pub lowest_stuck : (lines : List (List Call)) (left : List ℕ) (number_of : (session before : ℕ) → Option ℕ) (session number : ℕ) → SaysWhatBegins lines left → AreNumbers lines number_of
    → number_of session (so_far lines left session) ≡ Some number → ((s m : ℕ) → number_of s (so_far lines left s) ≡ Some m → number ≤ m) → IsLowestStuck lines number_of number
lowest_stuck lines left number_of session number says numbers here least = record {
  session = session;
  before = so_far lines left session;
  numbered = here;
  stuck = says.cannot session (so_far lines left session) (omega arith);
  lowest = λ s k n is less. elim (cases_lt k (so_far lines left s)) [
    | inl lt ↦ says.can s k lt
    | inr ge ↦
        let first = numbers.whole s (so_far lines left s) k n ge is in
        let up = numbers.rising s (so_far lines left s) k first.0 n ge first.1 is in
        let low = least s first.0 first.1 in
        absurd (omega arith)
  ];
}

-- ---- whoever takes turns

-- where a session has a line left, the order has a session whose next line can come
pub always_next : (lines : List (List Call)) → HasOrder lines → AlwaysHasNextLine lines
always_next lines ordered = λ answered session line is.
    let left = (there_below lines session (answered session) line is).1 in
    let all : lines_in session ordered.order ≡ length (lines_of lines session) = ordered.all session in
    let fewer : answered session < lines_in session ([] ++ ordered.order) = rw all left in
    let next = next_after lines answered [] ordered.order session ordered.each (λ t. omega (arith, lines_in-none t)) fewer in
    let there = met_there answered (line_after lines next.session (answered next.session)) next.met in
    record {
      session = next.session;
      among = (there_below lines next.session (answered next.session) there.0 there.1).0;
      met = test_met answered (line_after lines next.session (answered next.session)) next.met;
    }
