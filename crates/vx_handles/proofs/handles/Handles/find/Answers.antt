use Rattle.std.proofs.Common.{sym}
use Rattle.vx_handles.proofs.Found.{absent_key, found_key}
use Rattle.vx_handles.proofs.handles.Handles.find.Goals as goal

pub returns-in-Some : goal.returns-in-Some
returns-in-Some c =
    sym (found_key c.self.inside.entries.slots (c.args.session, c.args.handle) c.args.self.now c.self.view_is c.in-Some._place c.in-Some.entry c.self.invariant.apart c.in-Some.ensures.found.0 c.in-Some.ensures.found.1)

pub returns-in-None : goal.returns-in-None
returns-in-None c = sym (absent_key c.self.inside.entries.slots (c.args.session, c.args.handle) c.args.self.now c.self.view_is c.in-None.ensures.absent)
