use Rattle.std.proofs.Common.{sym, ◌∙◌, ap}
use Rattle.vx_front.proofs.Seating.{seat_makes}
use Rattle.vx_front.proofs.fronts.Fronts.make.Goals as goal

pub split_seat-seat-requires : goal.split_seat-seat-requires
split_seat-seat-requires c = (ap (λ s. s.table) c.kernel.view_is ∙ c.requires.table ∙ sym c.self.view_is, c.self.invariant.0, seat_makes _ _ _ (ap (λ m. m.0) c.kernel.invariant.0))
