use Rattle.std.proofs.Common.{◌+◌, ◌-◌, length}
use Rattle.vx_check.specs.Reaching.{IsWalk, unmarked}
use Rattle.vx_check.proofs.reaching.mark_reached.Given as goal

abbrev pub invariant-loop-next : goal.invariant-loop-next
invariant-loop-next l = IsWalk l.children l.root l.marks.items l.found.items l.next

-- each number is listed once, and each turn takes one from the list
abbrev pub decreases-loop-next : goal.decreases-loop-next
decreases-loop-next l = unmarked l.marks.items + length l.found.items - l.next
