use Rattle.std.proofs.Common.{ℕ, ◌≤◌, ◌<◌, IsTrue, is_some}
use Rattle.std.specs.FinMap as map
use Rattle.vx_inode.specs.Slots.{by_number}
use Rattle.vx_inode.proofs.table.first_unused.Given as goal

-- all numbers so far are used
abbrev pub invariant-loop-ino : goal.invariant-loop-ino
invariant-loop-ino l = (q : ℕ) → l.from ≤ q → q < l.ino → IsTrue (is_some (map.get (by_number l.slots) q))
