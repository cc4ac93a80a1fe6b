use Rattle.std.proofs.Common.{◌*◌, subst, sym, ◌∙◌, ap}
use Rattle.vx_alloc.specs.RunIndexes.{AreInUnits, RunIndexView, covers}
use Rattle.vx_alloc.proofs.MapRuns.{runs_in_units}
use Rattle.vx_alloc.proofs.run_index.RunIndex.first_fit.Goals as goal

pub first_fit-requires-clause-units : goal.first_fit-requires-clause-units
first_fit-requires-clause-units c =
    let fields = c.self.inside in
    subst AreInUnits (sym c.as_slice.ensures.value) (runs_in_units fields.room fields.by_start.items c.self.invariant.inside (λ u. ap (λ (v : RunIndexView). covers v.runs (4096 * u)) c.self.view_is ∙ c.requires.units u))
