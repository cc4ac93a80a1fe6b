use Rattle.std.proofs.Common.{◌≡◌, Option, None, Some, not, ℕ, false, refl, subst, sym, ap, ◌∙◌}
use Rattle.std.proofs.lemmas.Bool.{false≢true}
use Rattle.std.specs.List.{count_by}
use Rattle.std.specs.Option.{is_some}
use Rattle.vx_alloc.specs.FreeMaps.{FreeMapView, count_below}
use Rattle.vx_alloc.specs.RunIndexes.{covers}
use Rattle.vx_alloc.proofs.MapRuns.{IsMapOf}
use Rattle.vx_alloc.proofs.Counts.{is_set, count_free, count_limited}
use Rattle.vx_alloc.proofs.free_map.FreeMap.free.Goals as goal

none_from : (o : Option ℕ) → is_some o ≡ false → o ≡ None
none_from None is = refl
none_from (Some n) is = absurd (false≢true (sym is))

pub returns-then-is_none : goal.returns-then-is_none
returns-then-is_none c =
    let fields = c.self.inside in
    let map = subst (λ (v : FreeMapView). IsMapOf v fields.runs.runs) c.self.view_is (record { covered = c.self.invariant.1.covered; placed = c.self.invariant.1.placed; unit = c.self.invariant.0.data_blocks; bits = c.self.invariant.0.bits }) in
    let open_bar : c.args.self.now.bar ≡ None = sym (ap (λ (v : FreeMapView). v.bar) c.self.view_is) ∙ none_from fields.bar (c.is_none.ensures ∙ ap not c.if-is_none.true) in
    c.self.invariant.1.counted ∙ ap (λ (v : FreeMapView). count_by is_set v.free) c.self.view_is ∙ count_free c.args.self.now fields.runs.runs map open_bar

pub returns : goal.returns
returns c =
    let fields = c.self.inside in
    let map = subst (λ (v : FreeMapView). IsMapOf v fields.runs.runs) c.self.view_is (record { covered = c.self.invariant.1.covered; placed = c.self.invariant.1.placed; unit = c.self.invariant.0.data_blocks; bits = c.self.invariant.0.bits }) in
    c.count_below.ensures ∙ ap (count_below (covers fields.runs.runs)) c.limit.ensures ∙ count_limited c.args.self.now fields.runs.runs map
