use Rattle.std.proofs.Common.{sym, ap, ◌∙◌}
use Rattle.vx_extents.specs.Extents.{ExtentMapView}
use Rattle.vx_filemaps.proofs.place.place_all.Goals as goal

pub returns-in-Ok-clause-refused : goal.returns-in-Ok-clause-refused
returns-in-Ok-clause-refused c = λ r x is settled. c.place_reserved.ensures.refused r x is (settled ∙ sym (ap (λ (v : ExtentMapView). v.pages) c.in-Ok.ensures.ok))
