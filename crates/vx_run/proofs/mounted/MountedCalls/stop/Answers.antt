use Rattle.std.proofs.Common.{ap, arith}
use Rattle.vx_base.specs.declared.event.Event.TheVariants as event
use Rattle.vx_run.proofs.Mounting.{keeps, phase_stopped, promised_one}
use Rattle.vx_run.proofs.mounted.MountedCalls.stop.Goals as goal

pub returns-clause-kept : goal.returns-clause-kept
returns-clause-kept g c =
    let x = c.args.self.now in
    let d = g.D.BlockDev.state x.dev in
    let later = c.stop.new.self in
    λ o k may.
    let at = c.stop.ensures.at o k.at may in
    let one = promised_one x.mount later (event.Stopped d.count) c.stop.ensures.history c.stop.ensures.debt in
    keeps o x.room x.mount later d d k at (omega (arith, one, c.requires.room)) c.stop.ensures.capacity (ap (λ k. k.first) (ap (λ m. m.kernel) c.stop.ensures.same))
    (λ left. absurd (phase_stopped o x.mount.kernel.history.items later.kernel.history.items d.count c.stop.ensures.history left))
