use Rattle.std.proofs.Common.{Some, sym, ap, ◌∙◌, subst}
use Rattle.vx_alloc.specs.FreeMaps.{FreeMapView, IsUnusedFrom}
use Rattle.vx_alloc.proofs.Units.{none_used}
use Rattle.vx_alloc.proofs.tests.fewer_units.Goals as goal

pub shrink-requires-clause-unused : goal.shrink-requires-clause-unused
shrink-requires-clause-unused g c =
    let barred : FreeMapView → FreeMapView = λ map. record map { bar = Some 1 } in
    subst (λ view. IsUnusedFrom view 1) (sym (c.bar.ensures ∙ ap barred c.in_ok-map.ensures)) (none_used c.new.result 4063 2 1 (Some 1))
