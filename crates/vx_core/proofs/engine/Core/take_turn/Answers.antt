use Rattle.std.proofs.Common.{subst}
use Rattle.vx_core.specs.Facts.{Facts}
use Rattle.vx_core.proofs.Deciding.{free_to_begin, free_to_go_on}
use Rattle.vx_core.proofs.engine.Core.take_turn.Goals as goal

pub begin-requires-clause-free : goal.begin-requires-clause-free
begin-requires-clause-free g c =
    let core = c.args.self.now in
    let v = g.M.Calls.view core.mount in
    let o = c.requires.sound.0 in
    let f = subst (Facts g.M.Calls.built o (g.M.Calls.kept o core.mount) v core.lines core.sessions.items) c.in-Begin.ensures.1.0 c.requires.sound.1 in
    free_to_begin c.growth_laws.ensures g.M.Calls.built o (g.M.Calls.kept o core.mount) v core.lines core.sessions.items f c.args.actor c.in-Begin.ensures.1.1.0 c.in-Begin.ensures.1.1.1

pub go_on-requires-clause-free : goal.go_on-requires-clause-free
go_on-requires-clause-free g c =
    let core = c.args.self.now in
    let v = g.M.Calls.view core.mount in
    let o = c.requires.sound.0 in
    let f = subst (Facts g.M.Calls.built o (g.M.Calls.kept o core.mount) v core.lines core.sessions.items) c.in-GoOn.ensures.1.0 c.requires.sound.1 in
    free_to_go_on g.M.Calls.built o (g.M.Calls.kept o core.mount) v core.lines core.sessions.items f c.args.actor c.in-GoOn.ensures.1.1
