use Rattle.vx_pages.proofs.Facts.{is_cache}
use Rattle.vx_pages.proofs.page_cache.PageCache.facts.Goals as goal

pub returns : goal.returns
returns c = rw (← c.self.view_is) (is_cache c.self.inside.block c.self.inside.slots.entries c.len-count.ensures.valid.0 c.self.invariant)
