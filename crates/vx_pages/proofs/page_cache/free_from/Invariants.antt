use Rattle.std.proofs.Common.{◌≡◌, ◌+◌, ◌≤◌, ℕ, length}
use Rattle.vx_pages.specs.Pages.{dropped_from}
use Rattle.vx_pages.specs.Slots.{listed, AreTied, IsKept}
use Rattle.vx_pages.proofs.page_cache.free_from.Given as goal

abbrev pub invariant-loop : goal.invariant-loop
invariant-loop l =
    AreTied l.index l.slots.entries ×
    (length l.index + l.counter ≤ 1024) ×
    (dropped_from l.ino l.page (listed l.slots.entries) ≡ dropped_from l.ino l.page (listed l.fn.slots.entries)) ×
    ((block : ℕ) → IsKept block l.fn.slots.entries l.fn.index → IsKept block l.slots.entries l.index)
