use Rattle.std.proofs.Common.{◌∙◌}
use Rattle.vx_pages.proofs.Listed.{changed_listed}
use Rattle.vx_pages.proofs.page_cache.PageCache.changed.Goals as goal

pub returns : goal.returns
returns c = rw (← c.self.view_is) (c.count_changed.ensures ∙ changed_listed c.self.inside.slots.entries)
