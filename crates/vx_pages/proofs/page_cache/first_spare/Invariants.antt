use Rattle.std.proofs.Common.{◌≡◌, None}
use Rattle.vx_pages.specs.Slots.{slot_for_new}
use Rattle.vx_pages.proofs.page_cache.first_spare.Given as goal

abbrev pub invariant-loop-number : goal.invariant-loop-number
invariant-loop-number l =
    (goal.iterator-loop-number).can_next l.number-iterator ×
    (goal.iterator-loop-number).is_finite l.number-iterator ×
    (slot_for_new l.last l.number-iterator ≡ slot_for_new None l.slots.entries)
