use Rattle.vx_stage.proofs.Counts.{body_few, ran_few, broke_few, ran_on, ran_works, body_some, within_of}
use Rattle.std.proofs.Common.{arith, inl, inr, subst}
use Rattle.vx_stage.specs.declared.kernel.Job.{Job}
use Rattle.vx_stage.specs.Kernels.{JobFits}
use Rattle.vx_stage.proofs.Stages.{body_stage, body_broken, closing_of}
use Rattle.vx_stage.proofs.kernel.Kernel.put_body.Goals.{then-out, else-out}
use Rattle.vx_stage.proofs.Closes.{run_with, broke_later}
use Rattle.vx_stage.specs.declared.kernel.Job.TheVariants as jobs
use Rattle.vx_stage.proofs.kernel.Kernel.put_body.Goals as goal

pub returns-clause-live : goal.returns-clause-live
returns-clause-live g c = λ o run told.
    let k = c.args.self.now in
    let there = closing_of k.log.closing (subst (λ (j : Job). JobFits j k) c.requires.job c.requires.fit.job).0 in
    body_stage c.kernel_laws.ensures o k (g.D.BlockDev.state c.args.dev.now) c.requires.fit.sizes run (g.met.D.BlockDev.in_step c.args.dev.now) there.0 there.1 c.head-head.ensures.log c.requires.fit.sectors c.requires.job
    (g.D.BlockDev.state c.put_next.new.dev) c.put_next.new.self c.if-out.self c.in_ok-out.ensures.stage
    (elim c.if-out.branch [
      | then-out w ↦ inl w.self-is
      | else-out w ↦ inr w.self-is
    ]) c.in_ok-out.ensures.ok told

pub returns-in_err-out-clause-live : goal.returns-in_err-out-clause-live
returns-in_err-out-clause-live g c = λ o run told.
    let k = c.args.self.now in
    let there = closing_of k.log.closing (subst (λ (j : Job). JobFits j k) c.requires.job c.requires.fit.job).0 in
    body_broken c.kernel_laws.ensures o k (g.D.BlockDev.state c.args.dev.now) c.requires.fit.sizes run (g.met.D.BlockDev.in_step c.args.dev.now) there.0 there.1 c.head-head.ensures.log c.requires.fit.sectors c.requires.job
    (g.D.BlockDev.state c.put_next.new.dev) c.put_next.new.self c.in_err-out.ensures.same c.in_err-out.ensures.err told

pub returns-clause-run : goal.returns-clause-run
returns-clause-run g c = λ o run.
    let k = c.args.self.now in
    run_with o (g.D.BlockDev.state c.args.dev.now) (g.D.BlockDev.state c.put_next.new.dev) k run (omega (arith, c.in_ok-out.ensures.ok.count)) c.put_next.new.self k.homes k.gathered k.ready c.if-out.self k.committed k.closing (omega arith) run.order run.within

pub returns-in_err-out-clause-run : goal.returns-in_err-out-clause-run
returns-in_err-out-clause-run g c = λ o run.
    let k = c.args.self.now in
    run_with o (g.D.BlockDev.state c.args.dev.now) (g.D.BlockDev.state c.put_next.new.dev) k run (broke_later _ _ _ c.in_err-out.ensures.err) c.put_next.new.self k.homes k.gathered k.ready jobs.Broken k.committed k.closing (omega arith) run.order run.within

pub returns-clause-few : goal.returns-clause-few
returns-clause-few g c = ran_few _ _ _ (body_few c.args.self.now.log.sectors c.args.self.now.log.head c.args.self.now.log.closing) c.in_ok-out.ensures.ok

pub returns-in_err-out-clause-few : goal.returns-in_err-out-clause-few
returns-in_err-out-clause-few g c = broke_few _ _ _ (body_few c.args.self.now.log.sectors c.args.self.now.log.head c.args.self.now.log.closing) c.in_err-out.ensures.err

pub returns-clause-later : goal.returns-clause-later
returns-clause-later g c = ran_on _ _ _ c.in_ok-out.ensures.ok

pub returns-in_err-out-clause-later : goal.returns-in_err-out-clause-later
returns-in_err-out-clause-later g c = broke_later _ _ _ c.in_err-out.ensures.err

pub returns-clause-works : goal.returns-clause-works
returns-clause-works g c =
    let k = c.args.self.now in
    let fits = subst (λ (j : Job). JobFits j k) c.requires.job c.requires.fit.job in
    ran_works _ _ _ (body_some k.log.sectors k.log.head k.log.closing c.kernel_laws.ensures.body_length fits.0 (within_of _ _ _ k.log.closing c.head-head.ensures.log.closing) fits.2) c.in_ok-out.ensures.ok
