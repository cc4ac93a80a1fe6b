use Rattle.vx_stage.proofs.Counts.{failed_few}
use Rattle.std.proofs.Common.{arith, ◌≡◌, ◌∙◌, ap, subst}
use Rattle.vx_log.specs.Logs.{LogView, restarted}
use Rattle.vx_stage.specs.declared.kernel.Job.{Job}
use Rattle.vx_stage.specs.Kernels.{JobFits}
use Rattle.vx_stage.proofs.Stages.{none_of}
use Rattle.vx_stage.proofs.Tails.{tail_written, tail_failed}
use Rattle.vx_stage.proofs.Closes.{run_with, failed_later}
use Rattle.vx_stage.specs.declared.kernel.Job.TheVariants as jobs
use Rattle.vx_stage.proofs.kernel.Kernel.put_restart.Goals as goal

pub returns-clause-live : goal.returns-clause-live
returns-clause-live g c = λ o run told.
    let k = c.args.self.now in
    let a = g.D.BlockDev.state c.args.dev.now in
    let b = g.D.BlockDev.state c.restart.new.dev in
    let fits = subst (λ (j : Job). JobFits j k) c.requires.job c.requires.fit.job in
    let log_is : c.restart.new.self ≡ restarted k.log = c.in_ok-restart.ensures.restarted in
    tail_written c.kernel_laws.ensures o k a c.requires.fit.sizes run (g.met.D.BlockDev.in_step c.args.dev.now) b 0 c.requires.job (λ r l. omega arith) c.restart.new.self c.clear.new.self c.clear.ensures
    (ap (λ (l : LogView). l.closing) log_is ∙ none_of k.log.closing fits.0) (ap (λ (l : LogView). l.serial) log_is) (ap (λ (l : LogView). l.tail) log_is) (ap (λ (l : LogView). l.head) log_is)
    c.in_ok-restart.ensures.put told

pub returns-in_err-restart-clause-live : goal.returns-in_err-restart-clause-live
returns-in_err-restart-clause-live g c = λ o run told.
    let k = c.args.self.now in
    let a = g.D.BlockDev.state c.args.dev.now in
    let b = g.D.BlockDev.state c.restart.new.dev in
    tail_failed c.kernel_laws.ensures o k a c.requires.fit.sizes run (g.met.D.BlockDev.in_step c.args.dev.now) b 0 c.requires.job (λ r l. omega arith) c.restart.new.self c.in_err-restart.ensures.failed told

pub returns-clause-run : goal.returns-clause-run
returns-clause-run g c = λ o run.
    let k = c.args.self.now in
    run_with o (g.D.BlockDev.state c.args.dev.now) (g.D.BlockDev.state c.restart.new.dev) k run (omega (arith, c.in_ok-restart.ensures.put.count)) c.restart.new.self c.clear.new.self k.gathered k.ready jobs.TailOut k.committed k.closing (omega arith) run.order run.within

pub returns-in_err-restart-clause-run : goal.returns-in_err-restart-clause-run
returns-in_err-restart-clause-run g c = λ o run.
    let k = c.args.self.now in
    run_with o (g.D.BlockDev.state c.args.dev.now) (g.D.BlockDev.state c.restart.new.dev) k run (failed_later _ _ _ _ c.in_err-restart.ensures.failed) c.restart.new.self k.homes k.gathered k.ready jobs.Broken k.committed k.closing (omega arith) run.order run.within

pub returns-in_err-restart-clause-few : goal.returns-in_err-restart-clause-few
returns-in_err-restart-clause-few g c = failed_few _ _ _ _ c.in_err-restart.ensures.failed

pub returns-in_err-restart-clause-later : goal.returns-in_err-restart-clause-later
returns-in_err-restart-clause-later g c = failed_later _ _ _ _ c.in_err-restart.ensures.failed
