use Rattle.std.proofs.Common.{sym, ◌∙◌, ap}
use Rattle.vx_front.proofs.Seating.{word_there, seat_begins}
use Rattle.vx_front.proofs.fronts.Fronts.begin_call.Goals as goal

pub fetch_add-requires : goal.fetch_add-requires
fetch_add-requires c =
    let table = ap (λ s. s.table) c.caller.view_is ∙ c.requires ∙ sym c.self.view_is in
    (table, word_there _ _ _ table c.caller.invariant.3, seat_begins _ _ _ _ c.caller.invariant.1 c.caller.invariant.0)
