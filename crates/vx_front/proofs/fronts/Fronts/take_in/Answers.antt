use Rattle.std.proofs.Common.{sym, ◌∙◌, ap}
use Rattle.vx_front.proofs.Seating.{kernel_seat_takes}
use Rattle.vx_front.proofs.fronts.Fronts.take_in.Goals as goal

pub join_seat-requires : goal.join_seat-requires
join_seat-requires c = (
  ap (λ s. s.table) c.kernel.view_is ∙ c.requires.kernel ∙ sym c.self.view_is,
  ap (λ s. s.table) c.caller.view_is ∙ c.requires.caller ∙ sym c.self.view_is,
  ap (λ m. m.1) c.caller.invariant.0,
  c.self.invariant.0,
  kernel_seat_takes _ _ _ _ _ _ (ap (λ m. m.0) c.kernel.invariant.0) (ap (λ m. m.0) c.caller.invariant.0),
)
