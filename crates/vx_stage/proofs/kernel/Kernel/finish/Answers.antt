use Rattle.std.proofs.Common.{◌≡◌, ◌∙◌, ◌+◌, List, length, ap, subst, arith}
use Rattle.vx_base.specs.declared.event.Event.{Event}
use Rattle.vx_stage.specs.declared.kernel.Job.{Job}
use Rattle.vx_stage.specs.declared.kernel.Job.TheVariants as jobs
use Rattle.vx_stage.specs.Kernels.{JobFits}
use Rattle.vx_stage.proofs.Closes.{run_with}
use Rattle.vx_stage.proofs.Growing.{one_more}
use Rattle.vx_stage.proofs.Leaving.{e, leave_passed, leave_not_passed, gone_run, gone_told, gone_left}
use Rattle.vx_stage.proofs.kernel.Kernel.finish.Goals as goal

pub returns-clause-run : goal.returns-clause-run
returns-clause-run g c = λ o run over.
    let k = c.args.self.now in
    let a = g.D.BlockDev.state c.args.dev.now in
    let b = g.D.BlockDev.state c.barrier.new.self in
    let fits = subst (λ (j : Job). JobFits j k) c.requires.job c.requires.fit.job in
    let run_b = run_with o a b k run (omega (arith, c.in_ok-barrier.ensures.passed.count)) k.log k.homes k.gathered k.ready k.job k.committed k.closing (omega arith) run.order run.within in
    let n_is : c.len.result ≡ length k.history.items + 1 = c.len.ensures ∙ c.push_reserved.new.self.ok.0 ∙ ap (λ (es : List Event). length es) c.push_reserved.ensures.items ∙ one_more k.history.items (e o b k run_b over fits.2 c.ops-at.result c.ops-at.ensures.number) in
    gone_run o b k run_b over fits.2 c.ops-at.result c.ops-at.ensures.number (record k { history = c.push_reserved.new.self }) c.push_reserved.ensures.items c.len.result n_is

pub returns-clause-live : goal.returns-clause-live
returns-clause-live g c = λ o run over told.
    let k = c.args.self.now in
    let a = g.D.BlockDev.state c.args.dev.now in
    let b = g.D.BlockDev.state c.barrier.new.self in
    let fits = subst (λ (j : Job). JobFits j k) c.requires.job c.requires.fit.job in
    let run_b = run_with o a b k run (omega (arith, c.in_ok-barrier.ensures.passed.count)) k.log k.homes k.gathered k.ready k.job k.committed k.closing (omega arith) run.order run.within in
    let n_is : c.len.result ≡ length k.history.items + 1 = c.len.ensures ∙ c.push_reserved.new.self.ok.0 ∙ ap (λ (es : List Event). length es) c.push_reserved.ensures.items ∙ one_more k.history.items (e o b k run_b over fits.2 c.ops-at.result c.ops-at.ensures.number) in
    gone_told o b k run_b over fits.2 c.ops-at.result c.ops-at.ensures.number (record k { history = c.push_reserved.new.self }) c.push_reserved.ensures.items c.len.result n_is (g.met.D.BlockDev.in_step c.barrier.new.self)
    (leave_passed c.kernel_laws.ensures o k a c.requires.fit.sizes run (g.met.D.BlockDev.in_step c.args.dev.now) b c.requires.job c.in_ok-barrier.ensures.passed told)

pub returns-clause-left : goal.returns-clause-left
returns-clause-left g c = λ o run over told.
    let k = c.args.self.now in
    let a = g.D.BlockDev.state c.args.dev.now in
    let b = g.D.BlockDev.state c.barrier.new.self in
    let fits = subst (λ (j : Job). JobFits j k) c.requires.job c.requires.fit.job in
    let run_b = run_with o a b k run (omega (arith, c.in_ok-barrier.ensures.passed.count)) k.log k.homes k.gathered k.ready k.job k.committed k.closing (omega arith) run.order run.within in
    let n_is : c.len.result ≡ length k.history.items + 1 = c.len.ensures ∙ c.push_reserved.new.self.ok.0 ∙ ap (λ (es : List Event). length es) c.push_reserved.ensures.items ∙ one_more k.history.items (e o b k run_b over fits.2 c.ops-at.result c.ops-at.ensures.number) in
    let k2 = record k { history = c.push_reserved.new.self } in
    gone_left o b k run_b over fits.2 c.ops-at.result c.ops-at.ensures.number k2 c.push_reserved.ensures.items c.len.result n_is
    (gone_told o b k run_b over fits.2 c.ops-at.result c.ops-at.ensures.number k2 c.push_reserved.ensures.items c.len.result n_is (g.met.D.BlockDev.in_step c.barrier.new.self)
    (leave_passed c.kernel_laws.ensures o k a c.requires.fit.sizes run (g.met.D.BlockDev.in_step c.args.dev.now) b c.requires.job c.in_ok-barrier.ensures.passed told))

pub returns-in_err-barrier-clause-live : goal.returns-in_err-barrier-clause-live
returns-in_err-barrier-clause-live g c = λ o run over told.
    leave_not_passed c.kernel_laws.ensures o c.args.self.now (g.D.BlockDev.state c.args.dev.now) c.requires.fit.sizes run (g.met.D.BlockDev.in_step c.args.dev.now) (g.D.BlockDev.state c.barrier.new.self) c.requires.job c.in_err-barrier.ensures.nothing told

pub returns-in_err-barrier-clause-run : goal.returns-in_err-barrier-clause-run
returns-in_err-barrier-clause-run g c = λ o run over.
    let k = c.args.self.now in
    run_with o (g.D.BlockDev.state c.args.dev.now) (g.D.BlockDev.state c.barrier.new.self) k run (omega (arith, c.in_err-barrier.ensures.nothing.count)) k.log k.homes k.gathered k.ready jobs.Broken k.committed k.closing (omega arith) run.order run.within
