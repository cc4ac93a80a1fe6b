use Rattle.std.proofs.Common.{◌<◌, ◌+◌, ℕ, refl, arith}
use Rattle.vx_pages.specs.Slots.{Slot}
use Rattle.vx_pages.proofs.Kept.{more_put, all_weaker}
use Rattle.vx_pages.proofs.page_cache.unused_slots.Goals as goal

pub loop-number-init : goal.loop-number-init
loop-number-init c = rw (c.in_ok-slots.ensures) (record { room = grind (arith, c.new.ensures, c.unwrap_or.ensures); count = refl; below = tt; each = tt; unused = tt })

pub loop-number-preserved : goal.loop-number-preserved
loop-number-preserved c =
    let i = c.loop-number.invariant in let n = c.loop-number.number in let ss = c.loop-number.slots.entries in
    rw (c.in-Ok.ensures.entries, more_put c.loop-number.slots n c.in_ok-slot.slot i.room i.count c.loop-number-test.true i.below) (record {
      room = i.room;
      count = omega (arith, i.count);
      below = (omega arith, all_weaker (λ (s : ℕ × Slot). s.0 < n) (λ (s : ℕ × Slot). s.0 < n + 1) (λ s h. omega (arith, h)) ss i.below);
      each = ((c.loop-number-test.true, c.in_ok-slot.ensures.size), i.each);
      unused = (c.in_ok-slot.ensures.unused, i.unused);
    })

pub returns-clause-count : goal.returns-clause-count
returns-clause-count c = omega (arith, c.loop-number.invariant.count, c.loop-number-test.false, c.loop-number.auto.number-end)

pub returns-clause-each : goal.returns-clause-each
returns-clause-each c = c.loop-number.invariant.each

pub returns-clause-unused : goal.returns-clause-unused
returns-clause-unused c = c.loop-number.invariant.unused
