use Rattle.std.proofs.Common.{ℕ, subst, sym}
use Rattle.vx_alloc.specs.FreeMaps.{FreeMapView, IsAtLongest}
use Rattle.vx_alloc.specs.RunIndexes.{IsLongestRun, HasNoneBelow}
use Rattle.vx_alloc.proofs.MapRuns.{IsMapOf, at_longest_is, none_longest}
use Rattle.vx_alloc.proofs.free_map.FreeMap.at_longest.Goals as goal

pub returns-in-Some-clause-found : goal.returns-in-Some-clause-found
returns-in-Some-clause-found c =
    let fields = c.self.inside in
    let map = subst (λ (v : FreeMapView). IsMapOf v fields.runs.runs) c.self.view_is (record { covered = c.self.invariant.1.covered; placed = c.self.invariant.1.placed; unit = c.self.invariant.0.data_blocks; bits = c.self.invariant.0.bits }) in
    subst (IsAtLongest c.args.self.now) (sym c.block_at.ensures)
    (at_longest_is c.args.self.now fields.runs.runs map c.in-Some.ensures.apart c.in-Some.ensures.inside c.in-Some.run' (subst (λ (limit : ℕ). IsLongestRun fields.runs.runs limit c.in-Some.run') c.limit.ensures c.in-Some.ensures.found))

pub returns-in-None-clause-full : goal.returns-in-None-clause-full
returns-in-None-clause-full c =
    let fields = c.self.inside in
    let map = subst (λ (v : FreeMapView). IsMapOf v fields.runs.runs) c.self.view_is (record { covered = c.self.invariant.1.covered; placed = c.self.invariant.1.placed; unit = c.self.invariant.0.data_blocks; bits = c.self.invariant.0.bits }) in
    none_longest c.args.self.now fields.runs.runs map c.in-None.ensures.apart c.in-None.ensures.inside (subst (HasNoneBelow fields.runs.runs) c.limit.ensures c.in-None.ensures.none)
