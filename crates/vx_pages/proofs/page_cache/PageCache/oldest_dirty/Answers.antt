use Rattle.std.proofs.Common.{◌∙◌}
use Rattle.vx_pages.proofs.Listed.{oldest_listed}
use Rattle.vx_pages.proofs.page_cache.PageCache.oldest_dirty.Goals as goal

pub returns : goal.returns
returns c = rw (← c.self.view_is) (c.last_changed_page.ensures ∙ oldest_listed c.self.inside.slots.entries)
