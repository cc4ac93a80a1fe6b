use Rattle.std.proofs.Common.{◌<◌, List, length, sym, subst, arith}
use Rattle.std.proofs.lemmas.List.Sorted.{IsPermutation-insert}
use Rattle.std.specs.List.Sorted.{IsPermutation}
use Rattle.std.specs.Prelude.{vec_capacity, ◌∷◌, ◌*◌}
use Rattle.vx_alloc.specs.declared.run_index.Run.{Run}
use Rattle.vx_alloc.specs.RunIndexes.{AreApart, IsPlace}
use Rattle.vx_alloc.proofs.RunLists.{insert_apart, room_left}
use Rattle.vx_alloc.proofs.run_index.insert_by_start.Goals as goal

pub unreachable-requires : goal.unreachable-requires
unreachable-requires c =
    let runs = c.args.runs.now in
    let left : length runs.items < vec_capacity runs = room_left runs.items c.args.run c.starts_before-at.result (vec_capacity runs) c.requires.apart c.requires.inside c.requires.some c.requires.end c.requires.clear (subst (λ (rs : List Run). IsPlace rs c.args.run.start c.starts_before-at.result) c.as_slice.ensures.value c.starts_before-at.ensures) in
    absurd (omega (arith, left, c.in-Err.ensures.full))

pub returns-clause-apart : goal.returns-clause-apart
returns-clause-apart c =
    let runs = c.args.runs.now in
    subst AreApart (sym c.in-Ok.ensures.items) (insert_apart (2 * vec_capacity runs) runs.items c.args.run c.starts_before-at.result c.requires.apart c.requires.inside c.requires.clear (subst (λ (rs : List Run). IsPlace rs c.args.run.start c.starts_before-at.result) c.as_slice.ensures.value c.starts_before-at.ensures))

pub returns-clause-runs : goal.returns-clause-runs
returns-clause-runs c = subst (IsPermutation (c.args.run ∷ c.args.runs.now.items)) (sym c.in-Ok.ensures.items) (IsPermutation-insert c.args.runs.now.items c.starts_before-at.result c.args.run)
