-- A turn that does something leaves less to do.
use Rattle.std.proofs.Common.{◌≡◌, ◌≢◌, ℕ, zero, suc, ◌+◌, ◌-◌, ◌*◌, ◌<◌, ◌≤◌, set, List, length, Some, None, refl, sym, ap, subst, arith, inl, inr}
use Rattle.std.proofs.lemmas.Bool.{cases_eq}
use Rattle.vx_base.specs.declared.call.Call.{Call}
use Rattle.vx_base.specs.Lines.{lines_of}
use Rattle.vx_core.specs.declared.session.Session.{Session}
use Rattle.vx_core.specs.declared.session.UnderWay.{UnderWay}
use Rattle.vx_core.specs.Tracks.{session_at, calls_under_way}
use Rattle.vx_core.specs.Works.{sum_below, left_of, work_of}
use Rattle.vx_core.proofs.Pushing.{at_same, at_other}

same_below : (f g : ℕ → ℕ) (n : ℕ) → ((t : ℕ) → t < n → g t ≡ f t) → sum_below g n ≡ sum_below f n
same_below f g zero each = refl
same_below f g (suc n) each =
    let rest : sum_below g n ≡ sum_below f n = same_below f g n (λ t lt. each t (omega arith)) in
    let here : g n ≡ f n = each n (omega arith) in
    omega arith

-- a sum of which one term falls by so much
less_below : (f g : ℕ → ℕ) (s k n : ℕ) → s < n → ((t : ℕ) → t ≢ s → g t ≡ f t) → g s + k ≤ f s → sum_below g n + k ≤ sum_below f n
less_below f g s k zero lt each here = absurd (omega arith)
less_below f g s k (suc n) lt each here = elim (cases_eq n s) [
  | inl same ↦
      let rest : sum_below g n ≡ sum_below f n = same_below f g n (λ t below. each t (λ e. omega arith)) in
      let last : g n + k ≤ f n = subst (λ x. g x + k ≤ f x) (sym same) here in
      omega arith
  | inr other ↦
      let rest : sum_below g n + k ≤ sum_below f n = less_below f g s k n (let apart : n ≢ s = other in omega arith) each here in
      let last : g n ≡ f n = each n other in
      omega arith
]

module _ (per_call : ℕ) (lines : List (List Call)) (sessions : List Session) (s n : ℕ) (inside : s < length sessions) (in_lines : s < length lines) where
  other_left : (x : Session) (t : ℕ) → t ≢ s → left_of per_call lines (set sessions s x) t ≡ left_of per_call lines sessions t
  other_left x t ne =
      ap (λ (z : Session). (length (lines_of lines t) - (z.answered + calls_under_way z.under_way)) * (per_call + 2) + calls_under_way z.under_way) (at_other sessions s t x ne)

  left_at : (ss : List Session) (z : Session) → session_at ss s ≡ z → left_of per_call lines ss s ≡ (length (lines_of lines s) - (z.answered + calls_under_way z.under_way)) * (per_call + 2) + calls_under_way z.under_way
  left_at ss z is = ap (λ (y : Session). (length (lines_of lines s) - (y.answered + calls_under_way y.under_way)) * (per_call + 2) + calls_under_way y.under_way) is

  less_by : (x : Session) (owed later k : ℕ) → left_of per_call lines (set sessions s x) s + k ≤ left_of per_call lines sessions s → later < owed + k → work_of per_call later lines (set sessions s x) < work_of per_call owed lines sessions
  unfolding work_of
  less_by x owed later k here fewer =
      let sums = less_below (left_of per_call lines sessions) (left_of per_call lines (set sessions s x)) s k (length lines) in_lines (other_left x) here in
      omega arith

  one_line : (a b : ℕ) → b + 1 ≡ a → b * (per_call + 2) + (per_call + 2) ≡ a * (per_call + 2)
  one_line a b e = subst (λ y. b * (per_call + 2) + (per_call + 2) ≡ y * (per_call + 2)) e (sym (mul-suc b (per_call + 2)))
    where
      mul-suc : (x y : ℕ) → (x + 1) * y ≡ x * y + y
      mul-suc x y = omega arith

  -- a line that begins
  pub work_begun : (u : UnderWay) (owed later : ℕ) → session_at sessions s ≡ record { answered = n; under_way = None } → n < length (lines_of lines s) → later ≤ owed + per_call
      → work_of per_call later lines (set sessions s (record { answered = n; under_way = Some u })) < work_of per_call owed lines sessions
  work_begun u owed later is lt most =
      let x : Session = record { answered = n; under_way = Some u } in
      let old = left_at sessions (record { answered = n; under_way = None }) is in
      let new = left_at (set sessions s x) x (at_same sessions s x inside) in
      let fewer = one_line (length (lines_of lines s) - (n + 0)) (length (lines_of lines s) - (n + 1)) (omega arith) in
      less_by x owed later (per_call + 1) (omega arith) (omega arith)

  -- a call that is answered
  pub work_answered : (u : UnderWay) (owed later : ℕ) → session_at sessions s ≡ record { answered = n; under_way = Some u } → later ≤ owed
      → work_of per_call later lines (set sessions s (record { answered = n + 1; under_way = None })) < work_of per_call owed lines sessions
  work_answered u owed later is most =
      let x : Session = record { answered = n + 1; under_way = None } in
      let old = left_at sessions (record { answered = n; under_way = Some u }) is in
      let new = left_at (set sessions s x) x (at_same sessions s x inside) in
      let same : (length (lines_of lines s) - (n + 1 + 0)) * (per_call + 2) ≡ (length (lines_of lines s) - (n + 1)) * (per_call + 2) = ap (λ k. (length (lines_of lines s) - k) * (per_call + 2)) (omega arith) in
      less_by x owed later 1 (omega arith) (omega arith)

-- a stage alone
pub work_staged : (per_call : ℕ) (lines : List (List Call)) (sessions : List Session) (owed later : ℕ) → later < owed → work_of per_call later lines sessions < work_of per_call owed lines sessions
unfolding work_of
work_staged per_call lines sessions owed later lt = omega arith
