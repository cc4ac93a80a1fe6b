use Rattle.std.proofs.Common.{sym, ◌∙◌, ap}
use Rattle.vx_front.proofs.Seating.{made_there, begun_there, seat_opens}
use Rattle.vx_front.proofs.fronts.Fronts.open_call.Goals as goal

pub fetch_add-requires : goal.fetch_add-requires
fetch_add-requires g c =
    let table = ap (λ s. s.table) c.kernel.view_is ∙ c.requires.table ∙ sym c.self.view_is in
    (table, made_there _ _ _ _ _ table (ap (λ s. s.knows) c.kernel.view_is) c.requires.caller.1 c.kernel.invariant.1, seat_opens _ _ _ _ _ c.requires.caller.0 (begun_there _ _ _ (ap (λ s. s.knows) c.kernel.view_is) c.requires.begun) c.kernel.invariant.0)
