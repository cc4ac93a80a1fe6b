use Rattle.std.proofs.Common.{sym, ◌∙◌}
use Rattle.vx_flush.proofs.Marking.{owed_found, owed_missed}
use Rattle.vx_flush.proofs.flush.Flush.owes.Goals as goal

pub returns-clause-some : goal.returns-clause-some
returns-clause-some c = rw (← c.self.view_is) (λ is. owed_found c.self.inside.barriers c.self.inside.numbers c.any_is.ensures.rising (sym c.any_is.ensures.any ∙ is))

pub returns-clause-none : goal.returns-clause-none
returns-clause-none c = rw (← c.self.view_is) (λ is. owed_missed c.self.inside.barriers c.self.inside.numbers c.self.invariant (sym c.any_is.ensures.any ∙ is))
