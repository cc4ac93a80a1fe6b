use Rattle.std.proofs.Common.{None, ◌∙◌, arith}
use Rattle.vx_pages.proofs.Backwards.{full_spare}
use Rattle.vx_pages.proofs.page_cache.spare_slot.Goals as goal

pub returns-else-len-clause-spare : goal.returns-else-len-clause-spare
returns-else-len-clause-spare c = c.last_unchanged.ensures ∙ full_spare None c.args.slots.now.entries (omega (arith, c.requires.count, c.requires.few, c.len.ensures, c.if-len.false))
