use Rattle.std.proofs.Common.{◌≡◌, ◌+◌, ◌≤◌, length}
use Rattle.vx_pages.specs.Slots.{changed_slots}
use Rattle.vx_pages.proofs.page_cache.count_changed.Given as goal

abbrev pub invariant-loop-number : goal.invariant-loop-number
invariant-loop-number l =
    (goal.iterator-loop-number).can_next l._number-iterator ×
    (goal.iterator-loop-number).is_finite l._number-iterator ×
    (l.count + changed_slots l._number-iterator ≡ changed_slots l.slots.entries) ×
    (l.count + length l._number-iterator ≤ 1024)
