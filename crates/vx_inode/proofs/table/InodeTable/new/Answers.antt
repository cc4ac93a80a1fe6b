use Rattle.vx_inode.proofs.Kept.{kept_empty}
use Rattle.vx_inode.proofs.table.InodeTable.new.Goals as goal

pub invariant_of-result : goal.invariant_of-result
invariant_of-result c = rw c.in_ok-slots.ensures.items (kept_empty c.args.units c.requires.some c.requires.few)
