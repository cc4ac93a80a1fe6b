use Rattle.vx_grammar.proofs.Ordering.{always_next}
use Rattle.vx_grammar.proofs.laws.order_law.Goals as goal

pub returns : goal.returns
returns c = always_next
