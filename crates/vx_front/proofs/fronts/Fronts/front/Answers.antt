use Rattle.std.proofs.Common.{sym, ◌∙◌, ap}
use Rattle.vx_front.proofs.Seating.{seat_reads}
use Rattle.vx_front.proofs.fronts.Fronts.front.Goals as goal

pub load-requires : goal.load-requires
load-requires c = (ap (λ s. s.table) c.caller.view_is ∙ c.requires ∙ sym c.self.view_is, c.self.invariant.0, seat_reads _ _ _ c.caller.invariant.0)
