use Rattle.std.proofs.Common.{◌∙◌, ap}
use Rattle.vx_txn.specs.Directories.{directory_at}
use Rattle.vx_txn.proofs.SlotLaws.{Slots, at_push}
use Rattle.vx_txn.proofs.slots.make_room.Goals as goal

pub loop-slots-preserved : goal.loop-slots-preserved
loop-slots-preserved c = λ n. ap (λ (s : Slots). directory_at s n) c.in_ok-push.ensures.items ∙ at_push c.loop-slots.slots.items n ∙ c.loop-slots.invariant n
