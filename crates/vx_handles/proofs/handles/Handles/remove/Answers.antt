use Rattle.std.proofs.Common.{sym, ap, ◌∙◌}
use Rattle.std.specs.FinMap as map
use Rattle.vx_handles.specs.OpenHandles.{OpenHandles, ino_of, opened}
use Rattle.vx_handles.proofs.Keys.{key_total, key_same, remove_absent}
use Rattle.vx_handles.proofs.Kept.{kept_less, opened_less}
use Rattle.vx_handles.proofs.Found.{absent_key, found_key}
use Rattle.vx_handles.proofs.handles.Handles.remove.Goals as goal

pub invariant_of-self : goal.invariant_of-self
invariant_of-self c =
    kept_less c.remove.new.self c.self.inside.entries c.in-Some.place c.in-Some.entry (sym c.remove.ensures.capacity) (sym c.remove.ensures.len)
    c.self.invariant c.in-Some.ensures.found.0 c.remove.ensures.updates

pub returns-in-Some-clause-answer : goal.returns-in-Some-clause-answer
returns-in-Some-clause-answer c =
    sym (ap ino_of (found_key c.self.inside.entries.slots (c.args.session, c.args.handle) c.args.self.now c.self.view_is c.in-Some.place c.in-Some.entry c.self.invariant.apart c.in-Some.ensures.found.0 c.in-Some.ensures.found.1))

pub returns-in-Some-clause-removed : goal.returns-in-Some-clause-removed
returns-in-Some-clause-removed c =
    sym (opened_less c.remove.new.self c.self.inside.entries c.in-Some.place c.in-Some.entry (sym c.remove.ensures.capacity) (sym c.remove.ensures.len)
    c.self.invariant c.in-Some.ensures.found.0 c.remove.ensures.updates)
    ∙ ap (map.remove (opened c.self.inside.entries.slots)) c.in-Some.ensures.found.1
    ∙ ap (λ (m : OpenHandles). map.remove m (c.args.session, c.args.handle)) c.self.view_is

pub returns-in-None-clause-answer : goal.returns-in-None-clause-answer
returns-in-None-clause-answer c = sym (ap ino_of (absent_key c.self.inside.entries.slots (c.args.session, c.args.handle) c.args.self.now c.self.view_is c.in-None.ensures.absent))

pub returns-in-None-clause-removed : goal.returns-in-None-clause-removed
returns-in-None-clause-removed c =
    sym (remove_absent key_total key_same c.args.self.now (c.args.session, c.args.handle)
    (absent_key c.self.inside.entries.slots (c.args.session, c.args.handle) c.args.self.now c.self.view_is c.in-None.ensures.absent))
