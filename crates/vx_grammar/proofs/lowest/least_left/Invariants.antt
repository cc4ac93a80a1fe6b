use Rattle.vx_grammar.specs.Orders.{so_far}
use Rattle.vx_grammar.specs.Scripts.{number_at, IsLeastOf}
use Rattle.vx_grammar.proofs.lowest.least_left.Given as goal

abbrev pub invariant-sessions : goal.invariant-sessions
invariant-sessions l = IsLeastOf (λ s. number_at l.numbers s (so_far l.lines l.left s)) l.session l.least
