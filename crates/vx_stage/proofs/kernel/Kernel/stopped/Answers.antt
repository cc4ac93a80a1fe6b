use Rattle.std.proofs.Common.{refl}
use Rattle.vx_base.specs.declared.event.Event.{Event}
use Rattle.vx_base.specs.declared.event.Event.TheVariants as event
use Rattle.vx_stage.proofs.Dos.{stop_grows}
use Rattle.vx_stage.proofs.Fits.{fit_with}
use Rattle.vx_stage.proofs.Growing.{run_grows, told_grows}
use Rattle.vx_stage.proofs.Joining.{opens_still}
use Rattle.vx_stage.proofs.kernel.Kernel.stopped.Goals as goal

pub returns-clause-fit : goal.returns-clause-fit
returns-clause-fit g c =
    let k = c.args.self.now in
    fit_with (g.D.BlockDev.state c.args.dev.now) k (record k { history = c.push_reserved.new.self }) k.gathered c.requires.free c.requires.fit.gathered c.requires.fit

pub returns-clause-run : goal.returns-clause-run
returns-clause-run g c = λ o run may.
    let k = c.args.self.now in
    let d = g.D.BlockDev.state c.args.dev.now in
    run_grows o d k (event.Stopped c.ops-at.result) run (stop_grows o d k c.ops-at.result c.ops-at.ensures.number run may)
    (record k { history = c.push_reserved.new.self }) c.push_reserved.ensures.items refl refl refl refl refl refl refl refl

pub returns-clause-live : goal.returns-clause-live
returns-clause-live g c = λ o run may told.
    let k = c.args.self.now in
    let d = g.D.BlockDev.state c.args.dev.now in
    let at = c.ops-at.result in
    let e : Event = event.Stopped at in
    let grows = stop_grows o d k at c.ops-at.ensures.number run may in
    told_grows o d k e run grows (record k { history = c.push_reserved.new.self }) c.push_reserved.ensures.items refl refl refl refl refl refl refl refl
    (opens_still o d k e run grows refl) (λ b free. free) (g.met.D.BlockDev.in_step c.args.dev.now) (λ broken. tt) told
