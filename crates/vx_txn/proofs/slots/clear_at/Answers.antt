use Rattle.std.proofs.Common.{None}
use Rattle.vx_txn.proofs.SlotLaws.{at_set, at_others, at_past}
use Rattle.vx_txn.proofs.slots.clear_at.Goals as goal

pub returns-then-at-slots-clause-here : goal.returns-then-at-slots-clause-here
returns-then-at-slots-clause-here c = at_set c.args.slots.now c.args.at None c.if-at-slots.true

pub returns-then-at-slots-clause-others : goal.returns-then-at-slots-clause-others
returns-then-at-slots-clause-others c = λ n ne. at_others c.args.slots.now c.args.at n _ ne

pub returns-else-at-slots-clause-here : goal.returns-else-at-slots-clause-here
returns-else-at-slots-clause-here c = at_past c.args.slots.now c.args.at c.if-at-slots.false
