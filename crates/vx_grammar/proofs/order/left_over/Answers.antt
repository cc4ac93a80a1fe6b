use Rattle.vx_grammar.proofs.Ordering.{says_what_begins}
use Rattle.vx_grammar.proofs.order.left_over.Goals as goal

pub returns : goal.returns
returns c = says_what_begins c.args.lines.now c.furthest.result c.furthest.ensures
