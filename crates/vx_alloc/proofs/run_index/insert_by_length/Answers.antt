use Rattle.std.proofs.Common.{sym, subst}
use Rattle.std.proofs.lemmas.List.Sorted.{IsPermutation-insert}
use Rattle.std.specs.List.Sorted.{IsPermutation, IsNonDecreasingBy}
use Rattle.std.specs.Prelude.{◌∷◌}
use Rattle.vx_alloc.specs.RunIndexes.{rank}
use Rattle.vx_alloc.proofs.RunLists.{insert_ranked}
use Rattle.vx_alloc.proofs.run_index.insert_by_length.Goals as goal

pub ranks_before-at-requires : goal.ranks_before-at-requires
ranks_before-at-requires c = subst (IsNonDecreasingBy rank) (sym c.as_slice.ensures.value) c.requires.ranked

pub returns-clause-ranked : goal.returns-clause-ranked
returns-clause-ranked c =
    let found = c.ranks_before-at.ensures in
    subst (IsNonDecreasingBy rank) (sym c.in-Ok.ensures.items) (insert_ranked c.args.runs.now.items c.as_slice.result.now c.args.run c.ranks_before-at.result c.rank.result c.as_slice.ensures.value c.rank.ensures c.requires.ranked found.bound found.before found.after)

pub returns-clause-runs : goal.returns-clause-runs
returns-clause-runs c = subst (IsPermutation (c.args.run ∷ c.args.runs.now.items)) (sym c.in-Ok.ensures.items) (IsPermutation-insert c.args.runs.now.items c.ranks_before-at.result c.args.run)
