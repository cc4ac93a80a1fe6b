use Rattle.std.proofs.Common.{sym, ◌∙◌, ap}
use Rattle.vx_front.proofs.Seating.{seat_publishes}
use Rattle.vx_front.proofs.fronts.Fronts.publish.Goals as goal

pub fetch_max-requires : goal.fetch_max-requires
fetch_max-requires c = (ap (λ s. s.table) c.kernel.view_is ∙ c.requires ∙ sym c.self.view_is, c.self.invariant.0, seat_publishes _ _ _ _ c.kernel.invariant.0)
