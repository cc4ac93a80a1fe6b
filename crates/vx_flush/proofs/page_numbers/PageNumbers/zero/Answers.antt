use Rattle.std.proofs.Common.{ℕ, arith}
use Rattle.vx_flush.proofs.Marking.{rising_changed, length_changed}
use Rattle.vx_flush.proofs.page_numbers.PageNumbers.zero.Goals as goal

pub invariant_of-self : goal.invariant_of-self
invariant_of-self c =
    let es = c.self.inside.entries.items in (
      rw c.zero_each.ensures.items (rising_changed {V = ℕ} (λ (n : ℕ). 0) es c.self.invariant.0),
      rw c.zero_each.ensures.items (omega (arith, c.self.invariant.1, length_changed {V = ℕ} (λ (n : ℕ). 0) es)),
      omega (arith, c.self.invariant.2, c.zero_each.ensures.capacity),
    )
