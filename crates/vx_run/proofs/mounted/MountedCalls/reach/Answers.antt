use Rattle.std.proofs.Common.{arith}
use Rattle.vx_run.proofs.Mounting.{used, has_room, keeps, phase_released, not_left}
use Rattle.vx_run.proofs.mounted.MountedCalls.reach.Goals as goal

pub reach-requires-clause-used : goal.reach-requires-clause-used
reach-requires-clause-used g c =
    let x = c.args.self.now in
    let d = g.D.BlockDev.state x.dev in
    used x.room x.mount d c.requires.used

pub reach-requires-clause-room : goal.reach-requires-clause-room
reach-requires-clause-room g c =
    let x = c.args.self.now in
    let d = g.D.BlockDev.state x.dev in
    has_room x.room x.mount d c.requires.used.opening _ c.requires.used.keeps (omega (arith, c.requires.room)) (omega (arith, x.mount.kernel.history.ok.0))

pub returns-clause-kept : goal.returns-clause-kept
returns-clause-kept g c =
    let x = c.args.self.now in
    let d = g.D.BlockDev.state x.dev in
    let later = c.reach.new.self in
    let e = g.D.BlockDev.state c.reach.new.dev in
    λ o k in_use.
    let at = c.reach.ensures.at o k.at in_use in
    keeps o x.room x.mount later d e k at (omega (arith, k.few, c.reach.ensures.promised)) c.reach.ensures.capacity c.reach.ensures.first
    (not_left later _ (phase_released o x.mount.kernel.history.items later.kernel.history.items e.count c.reach.ensures.history in_use))
