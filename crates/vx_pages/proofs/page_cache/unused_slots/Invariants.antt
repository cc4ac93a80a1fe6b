use Rattle.std.proofs.Common.{◌≡◌, ◌<◌, ℕ, false, length}
use Rattle.std.specs.List.{AllByRecursion}
use Rattle.vx_pages.specs.Slots.{Slot, IsSlot}
use Rattle.vx_pages.proofs.page_cache.unused_slots.Given as goal

abbrev pub invariant-loop-number : goal.invariant-loop-number
invariant-loop-number l = record {
  room : l.slots.cap ≡ 1024;
  count : length l.slots.entries ≡ l.number;
  below : AllByRecursion (λ (s : ℕ × Slot). s.0 < l.number) l.slots.entries;
  each : AllByRecursion (IsSlot l.block) l.slots.entries;
  unused : AllByRecursion (λ (s : ℕ × Slot). s.1.used ≡ false) l.slots.entries;
}
