use Rattle.std.proofs.Common.{sym, ◌∙◌}
use Rattle.vx_txn.proofs.SlotLaws.{at_index, at_past}
use Rattle.vx_txn.proofs.slots.slot_at.Goals as goal

pub returns-then-at-slots : goal.returns-then-at-slots
returns-then-at-slots c = c.as_ref.ensures.value ∙ c.index-slots-at.is ∙ sym (at_index c.args.slots.now c.args.at c.index-slots-at.result c.if-at-slots.true)

pub returns-else-at-slots : goal.returns-else-at-slots
returns-else-at-slots c = sym (at_past c.args.slots.now c.args.at c.if-at-slots.false)
