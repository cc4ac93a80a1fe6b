use Rattle.std.proofs.Common.{◌≡◌, None}
use Rattle.vx_pages.specs.Slots.{last_unchanged_slot}
use Rattle.vx_pages.proofs.page_cache.last_unchanged.Given as goal

abbrev pub invariant-loop-number : goal.invariant-loop-number
invariant-loop-number l =
    (goal.iterator-loop-number).can_next l.number-iterator ×
    (goal.iterator-loop-number).is_finite l.number-iterator ×
    (last_unchanged_slot None l.number-iterator.iter ≡ last_unchanged_slot None l.slots.entries)
