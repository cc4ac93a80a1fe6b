use Rattle.std.proofs.Common.{ap, ◌∙◌, ◌<◌, length, sym, subst, List, ◌∷◌, arith}
use Rattle.std.specs.List.Sorted.{IsPermutation}
use Rattle.std.specs.Vec.{vec_capacity}
use Rattle.std.proofs.lemmas.List.Sorted.{IsPermutation-remove}
use Rattle.vx_alloc.specs.declared.run_index.Run.{Run}
use Rattle.vx_alloc.specs.RunIndexes.{RunIndexView, covers, IsClear}
use Rattle.vx_alloc.proofs.RunLists.{rest_clear, rest_covers}
use Rattle.vx_alloc.proofs.SameRuns.{same_has, inside_low, less_index}
use Rattle.vx_alloc.proofs.run_index.RunIndex.remove.Goals as goal

pub remove_by_length-requires-clause-low : goal.remove_by_length-requires-clause-low
remove_by_length-requires-clause-low c =
    let fields = c.self.inside in
    inside_low fields.room fields.by_start.items fields.by_length.items c.self.invariant.most c.self.invariant.inside c.self.invariant.same

pub remove_by_length-requires-clause-has : goal.remove_by_length-requires-clause-has
remove_by_length-requires-clause-has c =
    let fields = c.self.inside in
    let here : c.args.at < length fields.by_start.items = subst (λ (v : RunIndexView). c.args.at < length v.runs) (sym c.self.view_is) c.requires in
    same_has fields.by_start.items fields.by_length.items c.remove_by_start-run.result c.self.invariant.same (c.args.at, here, sym c.remove_by_start-run.ensures.run)

pub invariant_of-self : goal.invariant_of-self
invariant_of-self c =
    let fields = c.self.inside in
    let here : c.args.at < length fields.by_start.items = subst (λ (v : RunIndexView). c.args.at < length v.runs) (sym c.self.view_is) c.requires in
    let moved = IsPermutation-remove fields.by_start.items c.args.at c.remove_by_start-run.result here c.remove_by_start-run.ensures.run in
    less_index fields.room fields.by_start.items fields.by_length.items c.remove_by_start-run.new.runs.items c.remove_by_length.new.runs.items c.remove_by_start-run.result (vec_capacity fields.by_start) (vec_capacity fields.by_length) _ _ c.self.invariant c.remove_by_start-run.ensures.apart
    (subst (λ (rest : List Run). IsPermutation fields.by_start.items (c.remove_by_start-run.result ∷ rest)) (sym c.remove_by_start-run.ensures.rest) moved)
    c.remove_by_length.ensures.ranked c.remove_by_length.ensures.runs (omega arith) (omega arith)

pub returns-clause-covers : goal.returns-clause-covers
returns-clause-covers c i =
    let fields = c.self.inside in
    let here : c.args.at < length fields.by_start.items = subst (λ (v : RunIndexView). c.args.at < length v.runs) (sym c.self.view_is) c.requires in
    let moved = IsPermutation-remove fields.by_start.items c.args.at c.remove_by_start-run.result here c.remove_by_start-run.ensures.run in
    ap (λ (v : RunIndexView). covers v.runs i) (sym c.self.view_is)
    ∙ rest_covers fields.by_start.items c.remove_by_start-run.new.runs.items c.remove_by_start-run.result (subst (λ (rest : List Run). IsPermutation fields.by_start.items (c.remove_by_start-run.result ∷ rest)) (sym c.remove_by_start-run.ensures.rest) moved) i

pub returns-clause-clear : goal.returns-clause-clear
returns-clause-clear c =
    let fields = c.self.inside in
    let here : c.args.at < length fields.by_start.items = subst (λ (v : RunIndexView). c.args.at < length v.runs) (sym c.self.view_is) c.requires in
    subst (IsClear c.remove_by_start-run.result) (sym c.remove_by_start-run.ensures.rest) (rest_clear fields.by_start.items c.args.at c.remove_by_start-run.result c.self.invariant.apart here c.remove_by_start-run.ensures.run)
