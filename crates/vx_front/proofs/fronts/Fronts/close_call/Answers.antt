use Rattle.std.proofs.Common.{sym, ◌∙◌, ap}
use Rattle.vx_front.proofs.Seating.{word_there, next_there, seat_closes}
use Rattle.vx_front.proofs.fronts.Fronts.close_call.Goals as goal

pub fetch_add-requires : goal.fetch_add-requires
fetch_add-requires g c =
    let table = ap (λ s. s.table) c.caller.view_is ∙ c.requires.table ∙ sym c.self.view_is in
    (table, word_there _ _ _ table c.caller.invariant.3, seat_closes _ _ _ _ _ c.caller.invariant.1 (next_there _ _ _ (ap (λ s. s.knows) c.caller.view_is) c.requires.seen) c.caller.invariant.0)
