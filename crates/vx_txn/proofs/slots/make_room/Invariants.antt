use Rattle.std.proofs.Common.{◌≡◌, ◌-◌, ℕ, length}
use Rattle.vx_txn.specs.Directories.{directory_at}
use Rattle.vx_txn.proofs.slots.make_room.Given as goal

abbrev pub invariant-loop-slots : goal.invariant-loop-slots
invariant-loop-slots l = (n : ℕ) → directory_at l.slots.items n ≡ directory_at l.fn.slots.items n

abbrev pub decreases-loop-slots : goal.decreases-loop-slots
decreases-loop-slots l = l.count - length l.slots.items
