use Rattle.std.proofs.Common.{ℕ, List, ap}
use Rattle.vx_pages.specs.Pages.{Entry, Pages}
use Rattle.vx_pages.proofs.Listed.{unused_listed}
use Rattle.vx_pages.proofs.Kept.{kept_unused}
use Rattle.vx_pages.proofs.page_cache.PageCache.with.Goals as goal

abbrev view_of : ℕ → List Entry → Pages
view_of block es = record { block = block; entries = es }

pub invariant_of-result : goal.invariant_of-result
invariant_of-result c = rw c.in_ok-index.ensures (kept_unused c.args.geom.block c.in_ok-slots.slots.entries c.in_ok-slots.ensures.count c.in_ok-slots.ensures.each c.in_ok-slots.ensures.unused)

pub returns : goal.returns
returns c = ap (view_of c.args.geom.block) (unused_listed c.in_ok-slots.slots.entries c.in_ok-slots.ensures.unused)
