use Rattle.std.proofs.Common.{List, ◌+◌, refl, ◌∙◌, ap, sym, subst}
use Rattle.std.specs.Prelude.{All}
use Rattle.vx_base.specs.declared.event.Event.{Event}
use Rattle.vx_base.specs.declared.event.Event.TheVariants as event
use Rattle.vx_layout.specs.LogForms.{AfterImage}
use Rattle.vx_layout.specs.Supers.{volume_of}
use Rattle.vx_log.specs.Batches.{with_notes}
use Rattle.vx_model.specs.Contents.{parsed_of}
use Rattle.vx_stage.specs.Growths.{called_state}
use Rattle.vx_stage.specs.Kernels.{IsInside, log_size, device_size, present}
use Rattle.vx_stage.proofs.Dos.{do_grows, do_frees, young_batch}
use Rattle.vx_stage.proofs.Fits.{fit_with}
use Rattle.vx_stage.proofs.Growing.{run_grows, told_grows}
use Rattle.vx_stage.proofs.Joining.{opens_joined}
use Rattle.vx_stage.proofs.Merging.{of_batch}
use Rattle.vx_stage.proofs.kernel.Kernel.act.Goals as goal

pub returns-clause-fit : goal.returns-clause-fit
returns-clause-fit g c =
    let k = c.args.self.now in
    let joined = c.join.ensures ∙ ap (with_notes k.gathered) c.entries.ensures in
    fit_with (g.D.BlockDev.state c.args.dev.now) k (record k { history = c.push_reserved.new.self }) c.join.new.batch c.requires.free
    (subst (λ (batch : List AfterImage). All (IsInside k.sizes) batch) (sym joined)
    (c.kernel_laws.ensures.notes.inside (4 + log_size k.sizes) (device_size k.sizes) k.gathered c.args.transaction.now c.requires.fit.gathered c.requires.inside)) c.requires.fit

pub returns-clause-run : goal.returns-clause-run
returns-clause-run g c = λ o run may.
    let k = c.args.self.now in
    let d = g.D.BlockDev.state c.args.dev.now in
    let grows = do_grows c.waiting_laws.ensures c.well_formed_laws.ensures o d k c.ops-at.result c.args.session c.args.line c.args.call c.args.reply c.ops-at.ensures.number run may in
    run_grows o d k (event.Do c.ops-at.result c.args.session c.args.line c.args.call c.args.reply) run grows (record k { history = c.push_reserved.new.self; gathered = c.join.new.batch }) c.push_reserved.ensures.items refl refl refl refl refl refl refl refl

pub returns-clause-live : goal.returns-clause-live
returns-clause-live g c = λ o run may batch told.
    let k = c.args.self.now in
    let d = g.D.BlockDev.state c.args.dev.now in
    let laws = c.kernel_laws.ensures in
    let e : Event = event.Do c.ops-at.result c.args.session c.args.line c.args.call c.args.reply in
    let next = called_state o k c.args.session c.args.call c.args.reply in
    let grows = do_grows c.waiting_laws.ensures c.well_formed_laws.ensures o d k c.ops-at.result c.args.session c.args.line c.args.call c.args.reply c.ops-at.ensures.number run may in
    told_grows o d k e run grows (record k { history = c.push_reserved.new.self; gathered = c.join.new.batch }) c.push_reserved.ensures.items refl refl refl refl refl refl refl refl
    (opens_joined o d k e run grows laws.notes c.args.transaction.now c.join.new.batch (c.join.ensures ∙ ap (with_notes k.gathered) c.entries.ensures) c.len-count.ensures.batch.rising
    (of_batch (volume_of k.sizes) (parsed_of (present o k)) (parsed_of next) c.args.transaction.now batch) (young_batch laws k (present o k) next k.closing c.args.transaction.now grows.mounted batch))
    (do_frees c.waiting_laws.ensures c.well_formed_laws.ensures o d k c.ops-at.result c.args.session c.args.line c.args.call c.args.reply c.ops-at.ensures.number run may) (g.met.D.BlockDev.in_step c.args.dev.now) (λ broken. tt) told
