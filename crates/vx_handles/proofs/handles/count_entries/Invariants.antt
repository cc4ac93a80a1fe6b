use Rattle.std.proofs.Common.{◌≡◌, ◌≤◌, ◌+◌, length}
use Rattle.slab.specs.Slab.{slab_len}
use Rattle.vx_handles.specs.OpenHandles.{slots_on}
use Rattle.vx_handles.proofs.Slots.{entries_on}
use Rattle.vx_handles.proofs.handles.count_entries.Given as goal

abbrev pub invariant-loop-place : goal.invariant-loop-place
invariant-loop-place l =
    (goal.iterator-loop-place).can_next l._place-iterator ×
    (goal.iterator-loop-place).is_finite l._place-iterator ×
    (l.count + entries_on l._place-iterator l.ino ≡ slots_on l.entries.slots l.ino) ×
    (l.count + length l._place-iterator ≤ slab_len l.entries)
