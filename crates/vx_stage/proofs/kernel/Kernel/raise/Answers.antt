use Rattle.std.proofs.Common.{◌∙◌, ℕ, sym, subst, arith}
use Rattle.vx_dev.specs.Moments.{Told}
use Rattle.vx_stage.specs.declared.kernel.Job.{Job}
use Rattle.vx_stage.specs.Kernels.{JobFits, IsLive}
use Rattle.vx_stage.proofs.Stages.{none_of}
use Rattle.vx_stage.proofs.Closes.{run_with, raise_live}
use Rattle.vx_stage.proofs.kernel.Kernel.raise.Goals as goal

pub returns-clause-live : goal.returns-clause-live
returns-clause-live c = λ o d run told.
    let k = c.args.self.now in
    let fits = subst (λ (j : Job). JobFits j k) c.requires.job c.requires.fit.job in
    subst (λ (n : ℕ). Told d (IsLive o (record k { committed = n; closing = n }))) (sym (c.len.ensures ∙ k.history.ok.0))
    (raise_live o d k run c.requires.job fits.1 c.kernel_laws.ensures c.requires.none (none_of k.log.closing fits.0) told)

pub returns-clause-run : goal.returns-clause-run
returns-clause-run c = λ o d run.
    let k = c.args.self.now in
    run_with o d d k run (omega arith) k.log k.homes k.gathered k.ready k.job c.len.result c.len.result (omega (arith, run.order, run.within, c.len.ensures, k.history.ok.0)) (omega arith) (omega (arith, c.len.ensures, k.history.ok.0))
