use Rattle.std.proofs.Common.{◌≤◌, [], sym, subst}
use Rattle.std.specs.List.{count_by}
use Rattle.vx_base.specs.Paths.{FileName}
use Rattle.vx_dir.specs.Directories.{is_named}
use Rattle.vx_dir.specs.Sizes.{Entries}
use Rattle.vx_dir.specs.Index.{Indexes, AreNew, HasGained}
use Rattle.vx_dir.proofs.Indexing.{no_index, distinct_at, new_at, indexes_more}
use Rattle.vx_dir.proofs.dir_blocks.index_of.Goals as goal

pub loop-i-init : goal.loop-i-init
loop-i-init c = subst (Indexes []) (sym c.new-index.ensures) no_index

pub insert_entries-requires-clause-distinct : goal.insert_entries-requires-clause-distinct
insert_entries-requires-clause-distinct c =
    subst (λ (b : Entries). (q : FileName) → count_by (is_named q) b ≤ 1) (sym c.as_slice.ensures) (distinct_at c.args.blocks.now c.loop-i.i c.index-blocks-i.result c.loop-i-test.true c.index-blocks-i.is c.requires.distinct)

pub insert_entries-requires-clause-new : goal.insert_entries-requires-clause-new
insert_entries-requires-clause-new c =
    subst (λ (b : Entries). AreNew b c.loop-i.index) (sym c.as_slice.ensures)
    (new_at c.args.blocks.now c.loop-i.i c.index-blocks-i.result c.loop-i-test.true c.index-blocks-i.is c.loop-i.index c.loop-i.invariant c.requires.distinct)

pub loop-i-preserved : goal.loop-i-preserved
loop-i-preserved c =
    indexes_more c.args.blocks.now c.loop-i.i c.index-blocks-i.result c.loop-i-test.true c.index-blocks-i.is c.loop-i.index c.insert_entries.new.self c.loop-i.invariant
    (subst (λ (b : Entries). HasGained c.loop-i.i b c.loop-i.index c.insert_entries.new.self) c.as_slice.ensures c.in_ok-insert_entries.ensures.ok)
