use Rattle.std.proofs.Common.{sym, ◌∙◌, ap}
use Rattle.vx_front.specs.Steps.{note_of}
use Rattle.vx_front.proofs.Seating.{kernel_seat_tells, caller_seat_hears}
use Rattle.vx_front.proofs.fronts.Fronts.tell_caller.Goals as goal

pub split_seat-note-requires : goal.split_seat-note-requires
split_seat-note-requires c = (ap (λ s. s.table) c.kernel.view_is ∙ c.requires.kernel ∙ sym c.self.view_is, c.self.invariant.0, kernel_seat_tells _ _ _ (ap (λ m. m.0) c.kernel.invariant.0))

pub join_seat-requires : goal.join_seat-requires
join_seat-requires c =
    let e = c.split_seat-note.ensures in
    let this = ap (λ s. s.table) c.kernel.view_is ∙ c.requires.kernel ∙ sym c.self.view_is in (
      ap (λ s. s.table) c.caller.view_is ∙ c.requires.caller ∙ sym c.self.view_is,
      e.3 ∙ this,
      ap (λ m. m.1) e.4,
      c.self.invariant.0,
      caller_seat_hears _ _ _ _ _ _ (ap (λ m. m.0) c.caller.invariant.0) (ap (λ m. m.0) e.4 ∙ ap (λ m. note_of m.0) c.kernel.invariant.0),
    )
