use Rattle.std.proofs.Common.{◌∙◌, arith}
use Rattle.slab.proofs.SlabLemmas.{length-entries}
use Rattle.vx_handles.proofs.Slots.{entries_on_slots}
use Rattle.vx_handles.proofs.handles.count_entries.Goals as goal

pub loop-place-init : goal.loop-place-init
loop-place-init c =
    let left = c.into_iter-place-iterator.ensures.into_iter_gives ∙ c.iter-place-items.ensures.rest in (
      tt,
      tt,
      rw left (omega (arith, entries_on_slots 0 c.args.entries.now.slots c.args.ino)),
      rw left (omega (arith, length-entries c.args.entries.now)),
    )
