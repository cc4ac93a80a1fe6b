use Rattle.std.proofs.Common.{arith}
use Rattle.vx_stage.proofs.Tails.{tail_passed, tail_not_passed}
use Rattle.vx_stage.proofs.Closes.{run_with}
use Rattle.vx_stage.specs.declared.kernel.Job.TheVariants as jobs
use Rattle.vx_stage.proofs.kernel.Kernel.pass_tail.Goals as goal

pub returns-clause-live : goal.returns-clause-live
returns-clause-live g c = λ o run told.
    tail_passed c.kernel_laws.ensures o c.args.self.now (g.D.BlockDev.state c.args.dev.now) c.requires.fit.sizes run (g.met.D.BlockDev.in_step c.args.dev.now) (g.D.BlockDev.state c.barrier.new.self) c.requires.job c.in_ok-barrier.ensures.passed told

pub returns-in_err-barrier-clause-live : goal.returns-in_err-barrier-clause-live
returns-in_err-barrier-clause-live g c = λ o run told.
    tail_not_passed c.kernel_laws.ensures o c.args.self.now (g.D.BlockDev.state c.args.dev.now) c.requires.fit.sizes run (g.met.D.BlockDev.in_step c.args.dev.now) (g.D.BlockDev.state c.barrier.new.self) c.requires.job c.in_err-barrier.ensures.nothing told

pub returns-clause-run : goal.returns-clause-run
returns-clause-run g c = λ o run.
    let k = c.args.self.now in
    run_with o (g.D.BlockDev.state c.args.dev.now) (g.D.BlockDev.state c.barrier.new.self) k run (omega (arith, c.in_ok-barrier.ensures.passed.count)) k.log k.homes k.gathered k.ready jobs.Idle k.committed k.closing (omega arith) run.order run.within

pub returns-in_err-barrier-clause-run : goal.returns-in_err-barrier-clause-run
returns-in_err-barrier-clause-run g c = λ o run.
    let k = c.args.self.now in
    run_with o (g.D.BlockDev.state c.args.dev.now) (g.D.BlockDev.state c.barrier.new.self) k run (omega (arith, c.in_err-barrier.ensures.nothing.count)) k.log k.homes k.gathered k.ready jobs.Broken k.committed k.closing (omega arith) run.order run.within
