-- What a line waits for, and the lines that come next.
use Rattle.std.proofs.Common.{◌≡◌, inl, inr, ℕ, ◌+◌, ◌≤◌, ◌<◌, ◌==◌, cond, List, [], ◌∷◌, ◌++◌, length, true, false, Option, Some, None, refl, sym, ap, subst, append_assoc, append-nil, arith}
use Rattle.std.proofs.lemmas.Bool.{cases_lt, eqb-true}
use Rattle.std.proofs.lemmas.List.Sums.{sum_by-append, sum_by-cons}
use Rattle.std.proofs.lemmas.Option.{slice_get_within, slice_get_past}
use Rattle.std.specs.Prelude.{slice_get, unwrap_or}
use Rattle.vx_base.specs.declared.call.Call.{Call}
use Rattle.vx_base.specs.declared.call.Call.TheVariants as call
use Rattle.vx_base.specs.Lines.{lines_of, line_after}
use Rattle.vx_grammar.specs.Orders.{lines_in, IsMet, IsOrder}

-- the line is there, and it waits for no more lines than have been answered
abbrev pub IsMetBy : (ℕ → ℕ) → Option Call → Type 0
IsMetBy so_far None = ⊥
IsMetBy so_far (Some (call.After session lines)) = lines ≤ so_far session
IsMetBy so_far (Some _) = Unit {0}

pub met_by : (order : List ℕ) (so_far : ℕ → ℕ) (line : Option Call) → ((s : ℕ) → lines_in s order ≤ so_far s) → IsMet order line → IsMetBy so_far line
met_by order so_far None most m = m
met_by order so_far (Some (call.After session lines)) most m = omega (arith, most session)
met_by order so_far (Some _) most m = tt

-- one entry more in an order
pub lines_in-more : (session a : ℕ) (order : List ℕ) → lines_in session (order ++ a ∷ []) ≡ lines_in session order + cond (a == session) 1 0
unfolding lines_in
lines_in-more session a order = grind (arith, sum_by-append (λ s. cond (s == session) 1 0) order (a ∷ []), sum_by-cons (λ s. cond (s == session) 1 0) a [])

pub lines_in-none : (session : ℕ) → lines_in session [] ≡ 0
unfolding lines_in
lines_in-none session = refl

-- a session whose next line waits for nothing that is not answered
pub record HasNext (lines : List (List Call)) (so_far : ℕ → ℕ) : Type 0 where
  pub session : ℕ
  pub met : IsMetBy so_far (line_after lines session (so_far session))

-- the count of one session after an entry more
one_more : (t s : ℕ) (front : List ℕ) (so_far : ℕ → ℕ) → lines_in t front ≤ so_far t → lines_in s front ≤ so_far s → lines_in s front < so_far s → lines_in t (front ++ s ∷ []) ≤ so_far t
one_more t s front so_far h k lt = elim (s == t) as (λ b. (s == t) ≡ b → lines_in t (front ++ s ∷ []) ≤ so_far t) [
  | true ↦ λ e.
      let same : s ≡ t = eqb-true s t e in
      let grown : lines_in t (front ++ s ∷ []) ≡ lines_in t front + cond {A = ℕ} (s == t) 1 0 = lines_in-more t s front in
      let one : cond {A = ℕ} (s == t) 1 0 ≡ 1 = rw e refl in
      let here : lines_in t front < so_far t = subst (λ x. lines_in x front < so_far x) same lt in
      omega arith
  | false ↦ λ e.
      let grown : lines_in t (front ++ s ∷ []) ≡ lines_in t front + cond {A = ℕ} (s == t) 1 0 = lines_in-more t s front in
      let none : cond {A = ℕ} (s == t) 1 0 ≡ 0 = rw e refl in
      omega arith
] refl

-- a front of the order is answered, and the whole of it is not
pub next_after : (lines : List (List Call)) (so_far : ℕ → ℕ) (front rest : List ℕ) (a : ℕ)
    → IsOrder lines (front ++ rest) → ((s : ℕ) → lines_in s front ≤ so_far s) → so_far a < lines_in a (front ++ rest) → HasNext lines so_far
next_after lines so_far front [] a order most less =
    let e : lines_in a (front ++ []) ≡ lines_in a front = ap (lines_in a) (append-nil front) in
    absurd (omega (arith, most a))
next_after lines so_far front (s ∷ rest) a order most less =
    let again : (front ++ s ∷ []) ++ rest ≡ front ++ s ∷ rest = append_assoc front (s ∷ []) rest in
    elim (cases_lt (lines_in s front) (so_far s)) [
      | inl lt ↦
          let most2 : (t : ℕ) → lines_in t (front ++ s ∷ []) ≤ so_far t = λ t. one_more t s front so_far (most t) (most s) lt in
          next_after lines so_far (front ++ s ∷ []) rest a (subst (IsOrder lines) (sym again) order) most2
          (subst (λ (o : List ℕ). so_far a < lines_in a o) (sym again) less)
      | inr ge ↦
          let same : lines_in s front ≡ so_far s = omega (arith, most s) in
          record {
            session = s;
            met = met_by front so_far (line_after lines s (so_far s)) most
                (subst (λ n. IsMet front (line_after lines s n)) same (order front rest s refl));
          }
    ]

pub met_there : (so_far : ℕ → ℕ) (line : Option Call) → IsMetBy so_far line → (c : Call) × (line ≡ Some c)
met_there so_far None m = absurd m
met_there so_far (Some c) m = (c, refl)

-- a session with a line is one of the sessions
pub there_below : (lines : List (List Call)) (s n : ℕ) (c : Call) → line_after lines s n ≡ Some c → (s < length lines) × (n < length (lines_of lines s))
unfolding lines_of line_after
there_below lines s n c e =
    let inside : n < length (unwrap_or (slice_get lines s) []) = slice_get_within (unwrap_or (slice_get lines s) []) n c e in
    elim (cases_lt s (length lines)) [
      | inl lt ↦ (lt, inside)
      | inr ge ↦
          let none : slice_get lines s ≡ None = slice_get_past lines s ge in
          let empty : unwrap_or (slice_get lines s) [] ≡ [] = rw none refl in
          let zero_long : length (unwrap_or (slice_get lines s) []) ≡ 0 = ap length empty in
          absurd (omega arith)
    ]
