use Rattle.std.proofs.Common.{sym, subst}
use Rattle.vx_alloc.specs.RunIndexes.{AreApart}
use Rattle.vx_alloc.proofs.RunLists.{remove_apart}
use Rattle.vx_alloc.proofs.run_index.remove_by_start.Goals as goal

pub returns-clause-apart : goal.returns-clause-apart
returns-clause-apart c = subst AreApart (sym c.remove.ensures.items) (remove_apart c.args.runs.now.items c.args.at c.requires.bound c.requires.apart)
