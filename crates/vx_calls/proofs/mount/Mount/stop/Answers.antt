use Rattle.std.proofs.Common.{◌≡◌, ◌∙◌, sym, ap}
use Rattle.vx_model.specs.Legal.{stopping, unmounted}
use Rattle.vx_base.specs.declared.event.Event.TheVariants as event
use Rattle.vx_stage.specs.declared.kernel.Kernel.{Kernel}
use Rattle.vx_calls.proofs.Keeping.{same_job}
use Rattle.vx_calls.proofs.mount.Mount.stop.Goals as goal

pub returns-clause-at : goal.returns-clause-at
returns-clause-at g c = λ o at may.
    let m = c.args.self.now in
    let d = g.D.BlockDev.state c.args.dev.now in
    same_job o d d m at c.stopped.new.self (event.Stopped d.count) c.stopped.ensures.items (c.stopped.ensures.run o at.run may) (c.stopped.ensures.live o at.run may at.live) c.stopped.ensures.fit
    (ap (λ (x : Kernel). x.job) c.stopped.ensures.same) (λ left. let wrong : stopping ≡ unmounted = sym may ∙ left in cc) m.meta at.meta at.plain
