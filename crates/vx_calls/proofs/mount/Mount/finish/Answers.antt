use Rattle.std.proofs.Common.{◌≡◌, ◌∙◌, refl, sym, ap, Option, None}
use Rattle.std.specs.Prelude.{IsSome}
use Rattle.vx_base.specs.declared.event.Event.TheVariants as event
use Rattle.vx_stage.specs.declared.kernel.Job.{Job}
use Rattle.vx_stage.specs.declared.kernel.Job.TheVariants.{Left, Broken}
use Rattle.vx_stage.specs.declared.kernel.Kernel.{Kernel}
use Rattle.vx_calls.specs.Potentials.{waits}
use Rattle.vx_calls.proofs.Keeping.{pushed_at}
use Rattle.vx_calls.proofs.Spending.{broken_debt, broken_owed, left_debt, left_owed}
use Rattle.vx_calls.proofs.mount.Mount.finish.Goals as goal

none_some : {A : Type 0} {x : Option A} → x ≡ None → IsSome x → ⊥
none_some none some = cc

pub returns-in-Ok-clause-at : goal.returns-in-Ok-clause-at
returns-in-Ok-clause-at g c = λ o at over.
    let m = c.args.self.now in
    let d = g.D.BlockDev.state c.args.dev.now in
    let e = g.D.BlockDev.state c.finish.new.dev in
    pushed_at o d e m at c.finish.new.self (event.Unmounted e.count) c.in-Ok.ensures.items (c.finish.ensures.run o at.run over) (c.finish.ensures.live o at.run over at.live) c.finish.ensures.fit
    m.meta (λ none broken. let wrong : ◌≡◌ {A = Job} Left Broken = sym c.in-Ok.ensures.job ∙ broken in cc) (λ some. absurd (none_some c.requires.enabled some)) (λ left. refl) at.meta at.plain

pub returns-in-Ok-clause-owed : goal.returns-in-Ok-clause-owed
returns-in-Ok-clause-owed g c = left_owed c.finish.new.self (waits c.args.self.now.meta) c.in-Ok.ensures.job

pub returns-in-Ok-clause-debt : goal.returns-in-Ok-clause-debt
returns-in-Ok-clause-debt g c = left_debt c.finish.new.self c.args.self.now.due (waits c.args.self.now.meta) c.in-Ok.ensures.job

pub returns-in-Err-clause-owed : goal.returns-in-Err-clause-owed
returns-in-Err-clause-owed g c = broken_owed c.finish.new.self (waits c.args.self.now.meta) (ap (λ (x : Kernel). x.job) c.in-Err.ensures.broken)

pub returns-in-Err-clause-debt : goal.returns-in-Err-clause-debt
returns-in-Err-clause-debt g c = broken_debt c.finish.new.self c.args.self.now.due (waits c.args.self.now.meta) (ap (λ (x : Kernel). x.job) c.in-Err.ensures.broken)
