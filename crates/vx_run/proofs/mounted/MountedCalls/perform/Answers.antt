use Rattle.std.proofs.Common.{◌+◌, arith}
use Rattle.vx_base.specs.declared.event.Event.TheVariants as event
use Rattle.vx_run.proofs.Mounting.{used, not_busy, has_room, built_line, keeps, phase_do, phase_released, not_left}
use Rattle.vx_run.proofs.mounted.MountedCalls.perform.Goals as goal

pub perform-requires-clause-used : goal.perform-requires-clause-used
perform-requires-clause-used g c =
    let x = c.args.self.now in
    let d = g.D.BlockDev.state x.dev in
    used x.room x.mount d c.requires.used

pub perform-requires-clause-free : goal.perform-requires-clause-free
perform-requires-clause-free g c =
    let x = c.args.self.now in
    let d = g.D.BlockDev.state x.dev in
    not_busy x.mount.kernel.job c.requires.free

pub perform-requires-clause-line : goal.perform-requires-clause-line
perform-requires-clause-line g c =
    let x = c.args.self.now in
    let d = g.D.BlockDev.state x.dev in
    built_line _ c.requires.line

pub perform-requires-clause-room : goal.perform-requires-clause-room
perform-requires-clause-room g c =
    let x = c.args.self.now in
    let d = g.D.BlockDev.state x.dev in
    has_room x.room x.mount d c.requires.used.opening _ c.requires.used.keeps (omega (arith, c.requires.room)) (omega (arith, x.mount.kernel.history.ok.0))

pub returns-in-Again-clause-kept : goal.returns-in-Again-clause-kept
returns-in-Again-clause-kept g c =
    let x = c.args.self.now in
    let d = g.D.BlockDev.state x.dev in
    let later = c.perform.new.self in
    let e = g.D.BlockDev.state c.perform.new.dev in
    λ o k may.
    let at = c.perform.ensures.at o k.at (record { mounted = may.mounted; numbered = may.numbered; idle = may.idle }) in
    let turn = c.in-Again.ensures.turn in
    keeps o x.room x.mount later d e k at (omega (arith, k.few, turn.promised)) c.perform.ensures.capacity c.perform.ensures.first
    (not_left later _ (phase_released o x.mount.kernel.history.items later.kernel.history.items e.count c.in-Again.ensures.performed.0 may.mounted))

pub returns-in-Done-clause-kept : goal.returns-in-Done-clause-kept
returns-in-Done-clause-kept g c =
    let x = c.args.self.now in
    let d = g.D.BlockDev.state x.dev in
    let later = c.perform.new.self in
    let e = g.D.BlockDev.state c.perform.new.dev in
    λ o k may.
    let at = c.perform.ensures.at o k.at (record { mounted = may.mounted; numbered = may.numbered; idle = may.idle }) in
    let turn = c.in-Done.ensures.turn in
    let done = c.in-Done.ensures.performed.0 in
    keeps o x.room x.mount later d e k at (omega (arith, c.requires.room, turn.promised)) c.perform.ensures.capacity c.perform.ensures.first
    (not_left later _ (phase_do o x.mount.kernel.history.items later.kernel.history.items (event.Do e.count c.args.session (c.args.answered + 1) done.begun c.in-Done.answer) done.history may.mounted))
