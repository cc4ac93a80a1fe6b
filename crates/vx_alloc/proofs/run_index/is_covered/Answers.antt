use Rattle.std.proofs.Common.{sym, arith}
use Rattle.vx_alloc.proofs.RunLists.{none_starts, covered_by_last}
use Rattle.vx_alloc.proofs.run_index.is_covered.Goals as goal

pub returns-then-at-eq0 : goal.returns-then-at-eq0
returns-then-at-eq0 c = sym (none_starts c.args.runs.now c.args.block c.starts_upto-at.result c.requires c.starts_upto-at.ensures c.if-at-eq0.true)

pub returns : goal.returns
returns c = covered_by_last c.args.runs.now c.args.block c.starts_upto-at.result _ c.requires c.starts_upto-at.ensures (omega arith)
