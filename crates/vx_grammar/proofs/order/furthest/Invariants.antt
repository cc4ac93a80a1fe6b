use Rattle.std.specs.Prelude.{sum_by}
use Rattle.vx_grammar.proofs.Ordering.{SoFar}
use Rattle.vx_grammar.proofs.order.furthest.Given as goal

-- an order leaves each session so many lines
abbrev pub invariant-lines : goal.invariant-lines
invariant-lines l = SoFar l.lines l.left

abbrev pub decreases-lines : goal.decreases-lines
decreases-lines l = sum_by (λ x. x) l.left
