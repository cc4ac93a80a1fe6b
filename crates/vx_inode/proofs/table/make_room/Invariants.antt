use Rattle.std.proofs.Common.{◌≡◌, ◌-◌, vec_len}
use Rattle.vx_inode.specs.Slots.{by_number}
use Rattle.vx_inode.proofs.table.make_room.Given as goal

-- the inodes stay
abbrev pub invariant-loop-slots : goal.invariant-loop-slots
invariant-loop-slots l = by_number l.slots.items ≡ by_number l.fn.slots.items

abbrev pub decreases-loop-slots : goal.decreases-loop-slots
decreases-loop-slots l = l.count - vec_len l.slots
