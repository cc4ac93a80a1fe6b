use Rattle.std.proofs.Common.{◌≡◌, ◌+◌, ℕ, sym, subst}
use Rattle.std.specs.Prelude.{option_map}
use Rattle.vx_flush.specs.Entries.{Numbers, IsUpTo}
use Rattle.vx_flush.specs.Marks.{Marks, mark_at, marks_of, passed}
use Rattle.vx_flush.proofs.Marking.{marks_passed, marks_renewed, upto_zeroed}
use Rattle.vx_flush.proofs.flush.Flush.after_barrier.Goals as goal

abbrev Passes : Marks → Marks → Type 0
Passes old new = (i q : ℕ) → mark_at i q new ≡ option_map passed (mark_at i q old)

pub invariant_of-self : goal.invariant_of-self
invariant_of-self c = subst (λ (es : Numbers). IsUpTo 1 es) (sym c.zero.ensures) (upto_zeroed c.self.inside.numbers)

pub returns-then-self-clause-passed : goal.returns-then-self-clause-passed
returns-then-self-clause-passed c =
    let b = c.self.inside.barriers in let es = c.self.inside.numbers in
    subst (λ (m : Marks). Passes m (marks_of 1 c.zero.new.self)) c.self.view_is
    (subst (λ (now : Numbers). Passes (marks_of b es) (marks_of 1 now)) (sym c.zero.ensures) (marks_renewed b es))

pub returns-else-self-clause-passed : goal.returns-else-self-clause-passed
returns-else-self-clause-passed c =
    let b = c.self.inside.barriers in let es = c.self.inside.numbers in
    subst (λ (m : Marks). Passes m (marks_of (b + 1) es)) c.self.view_is (marks_passed b es c.self.invariant)
