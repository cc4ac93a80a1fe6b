use Rattle.std.proofs.Common.{ℕ, subst, sym}
use Rattle.vx_alloc.specs.FreeMaps.{FreeMapView, IsLowestAligned}
use Rattle.vx_alloc.specs.RunIndexes.{IsFirstFit, HasNoFit}
use Rattle.vx_alloc.proofs.MapRuns.{IsMapOf, first_fit_is, none_fit_is}
use Rattle.vx_alloc.proofs.free_map.FreeMap.lowest_run.Goals as goal

pub returns-in-Some-clause-found : goal.returns-in-Some-clause-found
returns-in-Some-clause-found c =
    let fields = c.self.inside in
    let map = subst (λ (v : FreeMapView). IsMapOf v fields.runs.runs) c.self.view_is (record { covered = c.self.invariant.1.covered; placed = c.self.invariant.1.placed; unit = c.self.invariant.0.data_blocks; bits = c.self.invariant.0.bits }) in
    subst (IsLowestAligned c.args.self.now c.args.n c.args.align) (sym c.block_at.ensures)
    (first_fit_is c.args.self.now fields.runs.runs map c.in-Some.ensures.apart c.in-Some.ensures.inside c.args.n c.args.align c.in-Some.start c.requires (subst (λ (limit : ℕ). IsFirstFit fields.runs.runs limit c.args.n c.args.align c.in-Some.start) c.limit.ensures c.in-Some.ensures.found))

pub returns-in-None-clause-none : goal.returns-in-None-clause-none
returns-in-None-clause-none c =
    let fields = c.self.inside in
    let map = subst (λ (v : FreeMapView). IsMapOf v fields.runs.runs) c.self.view_is (record { covered = c.self.invariant.1.covered; placed = c.self.invariant.1.placed; unit = c.self.invariant.0.data_blocks; bits = c.self.invariant.0.bits }) in
    none_fit_is c.args.self.now fields.runs.runs map c.in-None.ensures.apart c.in-None.ensures.inside c.args.n c.args.align c.requires (subst (λ (limit : ℕ). HasNoFit fields.runs.runs limit c.args.n c.args.align) c.limit.ensures c.in-None.ensures.none)
