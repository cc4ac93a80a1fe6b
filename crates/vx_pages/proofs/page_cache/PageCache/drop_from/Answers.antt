use Rattle.std.proofs.Common.{ℕ, List, ap, arith}
use Rattle.vx_pages.specs.Pages.{Entry, Pages}
use Rattle.vx_pages.proofs.Facts.{listed_fewer}
use Rattle.vx_pages.proofs.page_cache.PageCache.drop_from.Goals as goal

abbrev view_of : ℕ → List Entry → Pages
view_of block es = record { block = block; entries = es }

pub invariant_of-self : goal.invariant_of-self
invariant_of-self c = c.free_from.ensures.kept c.self.inside.block c.self.invariant

pub returns : goal.returns
returns c = rw (← c.self.view_is) (ap (view_of c.self.inside.block) c.free_from.ensures.dropped)

pub free_from-requires-clause-short : goal.free_from-requires-clause-short
free_from-requires-clause-short c = omega (arith, c.self.invariant.few, c.self.invariant.count, listed_fewer c.self.inside.slots.entries)
