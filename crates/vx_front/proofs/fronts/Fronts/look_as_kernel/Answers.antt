use Rattle.std.proofs.Common.{sym, ◌∙◌, ap}
use Rattle.vx_front.proofs.Seating.{kernel_seat_looks}
use Rattle.vx_front.proofs.fronts.Fronts.look_as_kernel.Goals as goal

pub load-requires : goal.load-requires
load-requires c = (ap (λ s. s.table) c.kernel.view_is ∙ c.requires ∙ sym c.self.view_is, c.self.invariant.0, kernel_seat_looks _ _ _ c.kernel.invariant.0)
