use Rattle.std.proofs.Common.{sym, ◌∙◌, None}
use Rattle.vx_inode.proofs.SlotLaws.{get_within, get_past}
use Rattle.vx_inode.proofs.table.inode_at.Goals as goal

pub returns-then-at-slots : goal.returns-then-at-slots
returns-then-at-slots c = c.as_ref.ensures.value ∙ sym (get_within c.args.slots.now c.args.at None c.if-at-slots.true)

pub returns-else-at-slots : goal.returns-else-at-slots
returns-else-at-slots c = sym (get_past c.args.slots.now c.args.at c.if-at-slots.false)
