use Rattle.vx_stage.proofs.Counts.{failed_few}
use Rattle.std.proofs.Common.{arith, ◌≡◌, ◌∙◌, ap, subst, ℕ}
use Rattle.vx_dev.specs.declared.device.Operation.TheVariants.{Put}
use Rattle.vx_dev.specs.Tape.{Did, Failed}
use Rattle.vx_layout.specs.LogForms.{head_sector}
use Rattle.vx_log.specs.Logs.{LogView, advanced, next_serial}
use Rattle.vx_stage.specs.declared.kernel.Job.{Job}
use Rattle.vx_stage.specs.Kernels.{JobFits}
use Rattle.vx_stage.proofs.Stages.{none_of}
use Rattle.vx_stage.proofs.Tails.{head_low, tail_written, tail_failed}
use Rattle.vx_stage.proofs.Closes.{run_with, failed_later}
use Rattle.vx_stage.specs.declared.kernel.Job.TheVariants as jobs
use Rattle.vx_stage.proofs.kernel.Kernel.put_tail.Goals as goal

pub returns-clause-live : goal.returns-clause-live
returns-clause-live g c = λ o run told.
    let k = c.args.self.now in
    let a = g.D.BlockDev.state c.args.dev.now in
    let b = g.D.BlockDev.state c.advance_tail.new.dev in
    let fits = subst (λ (j : Job). JobFits j k) c.requires.job c.requires.fit.job in
    let log_is : c.advance_tail.new.self ≡ advanced k.log k.log.head = c.in_ok-advance_tail.ensures.advanced ∙ ap (advanced k.log) c.head-head.ensures.number in
    tail_written c.kernel_laws.ensures o k a c.requires.fit.sizes run (g.met.D.BlockDev.in_step c.args.dev.now) b k.log.head c.requires.job (head_low o k) c.advance_tail.new.self c.clear.new.self c.clear.ensures
    (ap (λ (l : LogView). l.closing) log_is ∙ none_of k.log.closing fits.0) (ap (λ (l : LogView). l.serial) log_is) (ap (λ (l : LogView). l.tail) log_is) (ap (λ (l : LogView). l.head) log_is)
    (subst (λ (n : ℕ). Did (Put 2 (head_sector (next_serial k.log.serial) n k.log.head)) a b) c.head-head.ensures.number c.in_ok-advance_tail.ensures.put) told

pub returns-in_err-advance_tail-clause-live : goal.returns-in_err-advance_tail-clause-live
returns-in_err-advance_tail-clause-live g c = λ o run told.
    let k = c.args.self.now in
    let a = g.D.BlockDev.state c.args.dev.now in
    let b = g.D.BlockDev.state c.advance_tail.new.dev in
    tail_failed c.kernel_laws.ensures o k a c.requires.fit.sizes run (g.met.D.BlockDev.in_step c.args.dev.now) b k.log.head c.requires.job (head_low o k) c.advance_tail.new.self
    (subst (λ (n : ℕ). Failed 2 (head_sector (next_serial k.log.serial) n k.log.head) a b) c.head-head.ensures.number c.in_err-advance_tail.ensures.failed) told

pub returns-clause-run : goal.returns-clause-run
returns-clause-run g c = λ o run.
    let k = c.args.self.now in
    run_with o (g.D.BlockDev.state c.args.dev.now) (g.D.BlockDev.state c.advance_tail.new.dev) k run (omega (arith, c.in_ok-advance_tail.ensures.put.count)) c.advance_tail.new.self c.clear.new.self k.gathered k.ready jobs.TailOut k.committed k.closing (omega arith) run.order run.within

pub returns-in_err-advance_tail-clause-run : goal.returns-in_err-advance_tail-clause-run
returns-in_err-advance_tail-clause-run g c = λ o run.
    let k = c.args.self.now in
    run_with o (g.D.BlockDev.state c.args.dev.now) (g.D.BlockDev.state c.advance_tail.new.dev) k run (failed_later _ _ _ _ c.in_err-advance_tail.ensures.failed) c.advance_tail.new.self k.homes k.gathered k.ready jobs.Broken k.committed k.closing (omega arith) run.order run.within

pub returns-in_err-advance_tail-clause-few : goal.returns-in_err-advance_tail-clause-few
returns-in_err-advance_tail-clause-few g c = failed_few _ _ _ _ c.in_err-advance_tail.ensures.failed

pub returns-in_err-advance_tail-clause-later : goal.returns-in_err-advance_tail-clause-later
returns-in_err-advance_tail-clause-later g c = failed_later _ _ _ _ c.in_err-advance_tail.ensures.failed
