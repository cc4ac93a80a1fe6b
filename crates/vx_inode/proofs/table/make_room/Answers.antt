use Rattle.std.proofs.Common.{ap, ◌∙◌}
use Rattle.vx_inode.specs.Slots.{by_number}
use Rattle.vx_inode.proofs.SlotLaws.{push_none}
use Rattle.vx_inode.proofs.table.make_room.Goals as goal

pub loop-slots-preserved : goal.loop-slots-preserved
loop-slots-preserved c = ap by_number c.in_ok-push.ensures.items ∙ push_none c.loop-slots.slots.items ∙ c.loop-slots.invariant
