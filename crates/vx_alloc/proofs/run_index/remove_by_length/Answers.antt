use Rattle.std.proofs.Common.{sym, subst, arith}
use Rattle.std.specs.Prelude.{◌∷◌, List}
use Rattle.std.proofs.lemmas.List.Sorted.{IsPermutation-remove}
use Rattle.std.specs.List.Sorted.{IsPermutation, IsNonDecreasingBy}
use Rattle.vx_alloc.specs.declared.run_index.Run.{Run}
use Rattle.vx_alloc.specs.RunIndexes.{rank}
use Rattle.vx_alloc.proofs.RunLists.{remove_ranked, ranked_in_slice}
use Rattle.vx_alloc.proofs.run_index.remove_by_length.Goals as goal

pub ranks_before-at-requires : goal.ranks_before-at-requires
ranks_before-at-requires c = subst (IsNonDecreasingBy rank) (sym c.as_slice.ensures.value) c.requires.ranked

pub remove-requires : goal.remove-requires
remove-requires c =
    let found = c.ranks_before-at.ensures in
    let at = ranked_in_slice c.args.runs.now.items c.as_slice.result.now c.args.run c.ranks_before-at.result c.rank.result c.as_slice.ensures.value c.rank.ensures c.requires.ranked c.requires.low c.requires.has found.before found.after in
    omega (arith, at.0)

pub returns-clause-ranked : goal.returns-clause-ranked
returns-clause-ranked c =
    let found = c.ranks_before-at.ensures in
    let at = ranked_in_slice c.args.runs.now.items c.as_slice.result.now c.args.run c.ranks_before-at.result c.rank.result c.as_slice.ensures.value c.rank.ensures c.requires.ranked c.requires.low c.requires.has found.before found.after in
    subst (IsNonDecreasingBy rank) (sym c.remove.ensures.items) (remove_ranked c.args.runs.now.items c.ranks_before-at.result at.0 c.requires.ranked)

pub returns-clause-runs : goal.returns-clause-runs
returns-clause-runs c =
    let found = c.ranks_before-at.ensures in
    let at = ranked_in_slice c.args.runs.now.items c.as_slice.result.now c.args.run c.ranks_before-at.result c.rank.result c.as_slice.ensures.value c.rank.ensures c.requires.ranked c.requires.low c.requires.has found.before found.after in
    subst (λ (runs : List Run). IsPermutation c.args.runs.now.items (c.args.run ∷ runs)) (sym c.remove.ensures.items) (IsPermutation-remove c.args.runs.now.items c.ranks_before-at.result c.args.run at.0 at.1)
