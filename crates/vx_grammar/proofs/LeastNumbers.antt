-- The lowest line that can never begin.
use Rattle.std.proofs.Common.{◌≡◌, ℕ, ◌+◌, ◌<◌, ◌≤◌, nat_lt, get_or, true, false, zero, suc, List, [], ◌∷◌, length, Option, Some, None, refl, subst, arith, inl, inr}
use Rattle.std.specs.Prelude.{MatchOption, slice_get, slice_index, unwrap_or, if◌then◌else◌}
use Rattle.std.proofs.lemmas.Bool.{cases_lt}
use Rattle.std.proofs.lemmas.Bool.Decides.{nat_tests}
use Rattle.std.proofs.lemmas.Option.{slice_get_past, slice_get_within, slice_get-get_or}
use Rattle.vx_base.specs.declared.call.Call.{Call}
use Rattle.vx_base.specs.Lines.{lines_of}
use Rattle.vx_grammar.specs.Orders.{so_far, SaysWhatBegins, HasOrder, IsLowestStuck}
use Rattle.vx_grammar.proofs.Ordering.{AreNumbers, lowest_stuck}
use Rattle.vx_grammar.specs.Readings.{RisesTo}
use Rattle.vx_grammar.specs.Scripts.{number_at, lower_of, IsLeastOf, AreLinesNumbered}

-- ---- the least of some numbers

lower_none : (value : ℕ → Option ℕ) (bound : ℕ) (o : Option ℕ) → value bound ≡ o → IsLeastOf value bound None → IsLeastOf value (bound + 1) o
lower_none value bound None e h = λ s lt. elim (cases_lt s bound) [
  | inl less ↦ h s less
  | inr ge ↦ let same : bound ≡ s = omega arith in subst (λ t. value t ≡ None) same e
]
lower_none value bound (Some m) e h = (
  (bound, e),
  λ s k lt f. elim (cases_lt s bound) [
    | inl less ↦ let none = h s less in absurd (cc)
    | inr ge ↦
        let same : bound ≡ s = omega arith in
        let found : value s ≡ Some m = subst (λ t. value t ≡ Some m) same e in
        let equal : m ≡ k = cc in
        omega arith
  ],
)

keeps_least : (value : ℕ → Option ℕ) (bound n : ℕ) → IsLeastOf value bound (Some n) → ((m : ℕ) → value bound ≡ Some m → n ≤ m) → IsLeastOf value (bound + 1) (Some n)
keeps_least value bound n h k = (
  h.0,
  λ s m lt f. elim (cases_lt s bound) [
    | inl less ↦ h.1 s m less f
    | inr ge ↦ let same : s ≡ bound = omega arith in k m (subst (λ t. value t ≡ Some m) same f)
  ],
)

lowers : (value : ℕ → Option ℕ) (bound n m : ℕ) → value bound ≡ Some m → m < n → IsLeastOf value bound (Some n) → IsLeastOf value (bound + 1) (Some m)
lowers value bound n m e less h = (
  (bound, e),
  λ s k lt f. elim (cases_lt s bound) [
    | inl below ↦ let high = h.1 s k below f in omega arith
    | inr ge ↦
        let same : bound ≡ s = omega arith in
        let found : value s ≡ Some m = subst (λ t. value t ≡ Some m) same e in
        let equal : m ≡ k = cc in
        omega arith
  ],
)

pub least_more : (value : ℕ → Option ℕ) (bound : ℕ) (least next : Option ℕ) → value bound ≡ next → IsLeastOf value bound least → IsLeastOf value (bound + 1) (lower_of least next)
least_more value bound None next e h = lower_none value bound next e h
least_more value bound (Some n) None e h = keeps_least value bound n h (λ m f. absurd (cc))
least_more value bound (Some n) (Some m) e h = elim (nat_lt m n) as (λ b. nat_lt m n ≡ b → IsLeastOf value (bound + 1) (if b then Some m else Some n)) [
  | true ↦ λ f. lowers value bound n m e (grind (arith, nat_tests)) h
  | false ↦ λ f. keeps_least value bound n h (λ k g. let equal : m ≡ k = cc in grind (arith, nat_tests))
] refl

-- ---- numbers of lines

rises_at : (least greatest : ℕ) (ns : List ℕ) (k n : ℕ) → RisesTo least greatest ns → slice_get ns k ≡ Some n → least ≤ n
rises_at least greatest [] k n r e = absurd (cc)
rises_at least greatest (m ∷ ns) zero n r e = let same : m ≡ n = cc in omega (arith, r.0)
rises_at least greatest (m ∷ ns) (suc k) n r e = let high = rises_at m greatest ns k n r.1 e in omega (arith, r.0)

rises_between : (least greatest : ℕ) (ns : List ℕ) (k l n m : ℕ) → RisesTo least greatest ns → k ≤ l → slice_get ns k ≡ Some n → slice_get ns l ≡ Some m → n ≤ m
rises_between least greatest [] k l n m r h e f = absurd (cc)
rises_between least greatest (x ∷ ns) zero zero n m r h e f = let same : n ≡ m = cc in omega arith
rises_between least greatest (x ∷ ns) zero (suc l) n m r h e f =
    let same : x ≡ n = cc in
    let high = rises_at x greatest ns l m r.1 f in
    omega arith
rises_between least greatest (x ∷ ns) (suc k) zero n m r h e f = absurd (omega arith)
rises_between least greatest (x ∷ ns) (suc k) (suc l) n m r h e f = rises_between x greatest ns k l n m r.1 (omega arith) e f

earlier_too : (ns : List ℕ) (k l n : ℕ) → k ≤ l → slice_get ns l ≡ Some n → (m : ℕ) × (slice_get ns k ≡ Some m)
earlier_too ns k l n h e =
    let inside = slice_get_within ns l n e in
    (get_or ns k 0, slice_get-get_or ns k 0 (omega arith))

are_numbers : (lines : List (List Call)) (numbers : List (List ℕ)) → AreLinesNumbered lines numbers → AreNumbers lines (number_at numbers)
unfolding number_at
are_numbers lines numbers a = record {
  rising = λ s k l n m h e f. rises_between 0 65537 (unwrap_or (slice_get numbers s) []) k l n m (a.rising s) h e f;
  whole = λ s k l n h e. earlier_too (unwrap_or (slice_get numbers s) []) k l n h e;
}

no_lines : (lines : List (List Call)) (s : ℕ) → length lines ≤ s → length (unwrap_or (slice_get lines s) []) ≡ 0
no_lines lines s ge = let none : slice_get lines s ≡ None = slice_get_past lines s ge in rw none refl

numbered_there : (lines : List (List Call)) (numbers : List (List ℕ)) (s k m : ℕ) → AreLinesNumbered lines numbers → length lines ≤ 16 → number_at numbers s k ≡ Some m → s < 16
unfolding number_at
numbered_there lines numbers s k m a few e = elim (cases_lt s 16) [
  | inl lt ↦ lt
  | inr ge ↦
      let inside = slice_get_within (unwrap_or (slice_get numbers s) []) k m e in
      let none = no_lines lines s (omega arith) in
      absurd (omega (arith, a.same s))
]

past_numbers : (lines : List (List Call)) (numbers : List (List ℕ)) (s k : ℕ) → AreLinesNumbered lines numbers → number_at numbers s k ≡ None → length (lines_of lines s) ≤ k
unfolding number_at lines_of
past_numbers lines numbers s k a e = elim (cases_lt k (length (unwrap_or (slice_get numbers s) []))) [
  | inl lt ↦ let some = slice_get-get_or (unwrap_or (slice_get numbers s) []) k 0 lt in absurd (cc)
  | inr ge ↦ omega (arith, a.same s)
]

lines_past : (lines : List (List Call)) (s : ℕ) → length lines ≤ s → length (lines_of lines s) ≡ 0
unfolding lines_of
lines_past lines s ge = no_lines lines s ge

left_none : (lines : List (List Call)) (left : List ℕ) (s : ℕ) → slice_index left s ≤ length (lines_of lines s) → length (lines_of lines s) ≤ so_far lines left s → slice_index left s ≡ 0
unfolding so_far
left_none lines left s few all = omega arith

pub nothing_left : (lines : List (List Call)) (numbers : List (List ℕ)) (left : List ℕ) → AreLinesNumbered lines numbers → length lines ≤ 16 → SaysWhatBegins lines left
    → IsLeastOf (λ s. number_at numbers s (so_far lines left s)) 16 None → HasOrder lines
nothing_left lines numbers left a few says least = says.ordered (λ s. elim (cases_lt s 16) [
  | inl lt ↦ left_none lines left s (says.few s) (past_numbers lines numbers s (so_far lines left s) a (least s lt))
  | inr ge ↦ let none = lines_past lines s (omega arith) in omega (arith, says.few s)
])

pub least_stuck : (lines : List (List Call)) (numbers : List (List ℕ)) (left : List ℕ) (n : ℕ) → AreLinesNumbered lines numbers → length lines ≤ 16 → SaysWhatBegins lines left
    → IsLeastOf (λ s. number_at numbers s (so_far lines left s)) 16 (Some n) → IsLowestStuck lines (number_at numbers) n
least_stuck lines numbers left n a few says least =
    lowest_stuck lines left (number_at numbers) least.0.0 n says (are_numbers lines numbers a) least.0.1
    (λ s m e. least.1 s m (numbered_there lines numbers s (so_far lines left s) m a few e) e)

pub says_lowest : (lines : List (List Call)) (numbers : List (List ℕ)) (left : List ℕ) (o : Option ℕ) → AreLinesNumbered lines numbers → length lines ≤ 16 → SaysWhatBegins lines left
    → IsLeastOf (λ s. number_at numbers s (so_far lines left s)) 16 o → MatchOption o (HasOrder lines) (λ n. IsLowestStuck lines (number_at numbers) n)
says_lowest lines numbers left None a few says least = nothing_left lines numbers left a few says least
says_lowest lines numbers left (Some n) a few says least = least_stuck lines numbers left n a few says least
