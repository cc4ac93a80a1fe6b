use Rattle.std.proofs.Common.{◌≡◌, ℕ, List, length, ◌++◌, ◌∷◌, [], sym, ◌∙◌, ap, subst, arith}
use Rattle.vx_dir.specs.Sizes.{Entries}
use Rattle.vx_dir.specs.Index.{Indexes, HasGained}
use Rattle.vx_dir.proofs.Indexing.{distinct_last, new_names, indexes_further}
use Rattle.vx_dir.proofs.dir_blocks.push_block.Goals as goal

pub insert_entries-requires-clause-distinct : goal.insert_entries-requires-clause-distinct
insert_entries-requires-clause-distinct c = distinct_last c.args.blocks.now.items c.args.entries.now c.requires.distinct

pub insert_entries-requires-clause-new : goal.insert_entries-requires-clause-new
insert_entries-requires-clause-new c = new_names c.args.blocks.now.items c.args.index.now c.requires.indexed c.args.entries.now c.requires.distinct

pub returns-in-Ok-clause-indexed : goal.returns-in-Ok-clause-indexed
returns-in-Ok-clause-indexed c =
    let at : c.len-at.result ≡ length c.args.blocks.now.items = omega arith in
    let items = c.in_ok-push.ensures.items ∙ ap (λ (b : Entries). c.args.blocks.now.items ++ b ∷ []) c.in_ok-block.ensures in
    subst (λ (bs : List Entries). Indexes bs c.insert_entries.new.self) (sym items)
    (indexes_further c.args.blocks.now.items c.args.index.now c.requires.indexed c.args.entries.now c.insert_entries.new.self
    (subst (λ (n : ℕ). HasGained n c.args.entries.now c.args.index.now c.insert_entries.new.self) at c.in-Ok.ensures.ok))
