use Rattle.std.proofs.Common.{refl}
use Rattle.vx_base.specs.declared.event.Event.{Event}
use Rattle.vx_base.specs.declared.event.Event.TheVariants as event
use Rattle.vx_base.specs.declared.reply.Reply.{Reply}
use Rattle.vx_base.specs.declared.reply.Reply.TheVariants as say
use Rattle.vx_stage.proofs.Dos.{do_grows, do_frees, refused_may, refused_state}
use Rattle.vx_stage.proofs.Fits.{fit_with}
use Rattle.vx_stage.proofs.Growing.{run_grows, told_grows}
use Rattle.vx_stage.proofs.Joining.{opens_still}
use Rattle.vx_stage.proofs.kernel.Kernel.refuse.Goals as goal

pub returns-clause-fit : goal.returns-clause-fit
returns-clause-fit g c =
    let k = c.args.self.now in
    fit_with (g.D.BlockDev.state c.args.dev.now) k (record k { history = c.push_reserved.new.self }) k.gathered c.requires.free c.requires.fit.gathered c.requires.fit

pub returns-clause-run : goal.returns-clause-run
returns-clause-run g c = λ o run may.
    let k = c.args.self.now in
    let d = g.D.BlockDev.state c.args.dev.now in
    let reply : Reply = say.Refused c.args.why in
    let grows = do_grows c.waiting_laws.ensures c.well_formed_laws.ensures o d k c.ops-at.result c.args.session c.args.line c.args.call reply c.ops-at.ensures.number run (refused_may o d k c.args.session c.args.line c.args.call c.args.why run may) in
    run_grows o d k (event.Do c.ops-at.result c.args.session c.args.line c.args.call reply) run grows (record k { history = c.push_reserved.new.self }) c.push_reserved.ensures.items refl refl refl refl refl refl refl refl

pub returns-clause-live : goal.returns-clause-live
returns-clause-live g c = λ o run may told.
    let k = c.args.self.now in
    let d = g.D.BlockDev.state c.args.dev.now in
    let reply : Reply = say.Refused c.args.why in
    let allowed = refused_may o d k c.args.session c.args.line c.args.call c.args.why run may in
    let e : Event = event.Do c.ops-at.result c.args.session c.args.line c.args.call reply in
    let grows = do_grows c.waiting_laws.ensures c.well_formed_laws.ensures o d k c.ops-at.result c.args.session c.args.line c.args.call reply c.ops-at.ensures.number run allowed in
    told_grows o d k e run grows (record k { history = c.push_reserved.new.self }) c.push_reserved.ensures.items refl refl refl refl refl refl refl refl
    (opens_still o d k e run grows (refused_state o k c.args.session c.args.call c.args.why may.any_time))
    (do_frees c.waiting_laws.ensures c.well_formed_laws.ensures o d k c.ops-at.result c.args.session c.args.line c.args.call reply c.ops-at.ensures.number run allowed) (g.met.D.BlockDev.in_step c.args.dev.now) (λ broken. tt) told
