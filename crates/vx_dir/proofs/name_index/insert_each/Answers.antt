use Rattle.std.proofs.Common.{◌∙◌, ap}
use Rattle.std.specs.FinMap as map
use Rattle.vx_dir.specs.Index.{Spots}
use Rattle.vx_dir.proofs.Gaining.{gained_more, others_as_before}
use Rattle.vx_dir.proofs.name_index.insert_each.Goals as goal

pub returns-in_err-insert-clause-others : goal.returns-in_err-insert-clause-others
returns-in_err-insert-clause-others c = λ q off.
    ap (λ (m : Spots). map.get m q) c.in_err-insert.ensures.err ∙ others_as_before c.args.block c.args.entries.now c.loop-entry.entry-index c.args.index.now c.loop-entry.index q c.loop-entry.invariant off

pub loop-entry-preserved : goal.loop-entry-preserved
loop-entry-preserved c =
    gained_more c.args.entries.now c.loop-entry.entry-index c.entry-item.result c.loop-entry-test.true c.entry-item.is c.args.block c.args.index.now c.loop-entry.index c.insert.new.self
    c.requires.distinct c.requires.new c.loop-entry.invariant c.in_ok-insert.ensures.ok

pub returns-clause-others : goal.returns-clause-others
returns-clause-others c = λ q off.
    others_as_before c.args.block c.args.entries.now c.loop-entry.entry-index c.args.index.now c.loop-entry.index q c.loop-entry.invariant off
