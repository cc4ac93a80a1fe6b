use Rattle.std.proofs.Common.{arith}
use Rattle.vx_run.proofs.Mounting.{keeps, left_by, leaves_by, last_most}
use Rattle.vx_run.proofs.mounted.MountedCalls.leave.Goals as goal

pub returns-clause-history : goal.returns-clause-history
returns-clause-history g c =
    let x = c.args.self.now in
    let d = g.D.BlockDev.state x.dev in
    let later = c.leave.new.self in
    let e = g.D.BlockDev.state c.leave.new.dev in
    leaves_by c.leave.result x.room x.mount later e.count c.leave.ensures.history

pub returns-clause-kept : goal.returns-clause-kept
returns-clause-kept g c =
    let x = c.args.self.now in
    let d = g.D.BlockDev.state x.dev in
    let later = c.leave.new.self in
    let e = g.D.BlockDev.state c.leave.new.dev in
    λ o k over.
    let at = c.leave.ensures.at o k.at (record { waiting = over.waiting; mounted = over.mounted }) in
    let most = last_most c.leave.result in
    keeps o x.room x.mount later d e k at (omega (arith, most, c.leave.ensures.promised, c.requires.room)) c.leave.ensures.capacity c.leave.ensures.first
    (left_by c.leave.result o e x.mount later c.leave.ensures.history c.leave.ensures.still over.mounted at)
