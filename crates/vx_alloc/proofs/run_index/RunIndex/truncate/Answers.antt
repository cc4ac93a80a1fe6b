use Rattle.std.proofs.Common.{◌≡◌, ◌-◌, ◌∙◌, ℕ, List, length, take, ap, subst, arith}
use Rattle.vx_alloc.specs.declared.run_index.Run.{Run}
use Rattle.vx_alloc.specs.RunIndexes.{RunIndexView, covers, IsPlace}
use Rattle.vx_alloc.proofs.Fits.{kept_covers}
use Rattle.vx_alloc.proofs.run_index.RunIndex.truncate.Goals as goal

pub returns-clause-covers : goal.returns-clause-covers
returns-clause-covers c i =
    let old : List Run = c.args.self.now.runs in
    let slice_is = c.as_slice.ensures.value ∙ ap (λ (v : RunIndexView). v.runs) c.self.view_is in
    let place : IsPlace old c.args.end c.starts_before-keep.result = subst (λ (runs : List Run). IsPlace runs c.args.end c.starts_before-keep.result) slice_is c.starts_before-keep.ensures in
    let counted = ap (λ (v : RunIndexView). length v.runs) c.self.view_is in
    let left : c.len-count.result - c.loop-gone.gone ≡ c.starts_before-keep.result = omega (arith, place.bound, counted, c.len-count.ensures) in
    ap (λ (runs : List Run). covers runs i) (c.loop-gone.invariant.runs ∙ ap (λ (n : ℕ). take n old) left) ∙ kept_covers old c.starts_before-keep.result c.args.end place c.requires i
