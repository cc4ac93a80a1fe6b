use Rattle.std.proofs.Common.{◌≡◌, None}
use Rattle.vx_pages.specs.Slots.{last_changed_slot}
use Rattle.vx_pages.proofs.page_cache.last_changed_page.Given as goal

abbrev pub invariant-loop-number : goal.invariant-loop-number
invariant-loop-number l =
    (goal.iterator-loop-number).can_next l._number-iterator ×
    (goal.iterator-loop-number).is_finite l._number-iterator ×
    (last_changed_slot None l._number-iterator.iter ≡ last_changed_slot None l.slots.entries)
