use Rattle.std.proofs.Common.{◌≡◌, ◌≢◌, ◌∙◌, None, ap, arith, rules}
use Rattle.vx_stage.specs.declared.kernel.Job.TheVariants.{LeaveOut}
use Rattle.vx_calls.specs.Potentials.{waits}
use Rattle.vx_calls.specs.declared.mount.Mount.{Mount}
use Rattle.vx_calls.proofs.Keeping.{not_left, used_still}
use Rattle.vx_calls.proofs.Owing.{works_at}
use Rattle.vx_calls.proofs.Spending.{job_some}
use Rattle.vx_calls.proofs.mount.Mount.leave.Goals as goal

pub advance-requires-clause-used : goal.advance-requires-clause-used
advance-requires-clause-used g c =
    let m = c.args.self.now in
    record {
      opening = c.requires.used.opening;
      at = c.begin_clean.ensures.at c.requires.used.opening c.requires.used.at;
      in_use = used_still c.requires.used.opening m.kernel c.begin_clean.new.self.kernel c.begin_clean.ensures.history c.requires.used.in_use;
    }

pub returns-in_err-advance-clause-at : goal.returns-in_err-advance-clause-at
returns-in_err-advance-clause-at g c = λ o at over. c.advance.ensures.at o (c.begin_clean.ensures.at o at) (used_still o c.args.self.now.kernel c.begin_clean.new.self.kernel c.begin_clean.ensures.history over.mounted)

pub returns-clause-at : goal.returns-clause-at
returns-clause-at g c = λ o at over. c.advance.ensures.at o (c.begin_clean.ensures.at o at) (used_still o c.args.self.now.kernel c.begin_clean.new.self.kernel c.begin_clean.ensures.history over.mounted)

pub returns-in_err-finish-clause-owed : goal.returns-in_err-finish-clause-owed
returns-in_err-finish-clause-owed g c =
    let m = c.args.self.now in
    omega (arith, c.finish.ensures.owed, job_some m.kernel (waits m.meta) (not_left c.requires.used.opening (g.D.BlockDev.state c.args.dev.now) m c.requires.used.at c.requires.used.in_use) (c.requires.used.at.enabled c.requires.enabled))

pub returns-then-eq-clause-owed : goal.returns-then-eq-clause-owed
returns-then-eq-clause-owed g c =
    let m = c.args.self.now in
    omega (arith, c.finish.ensures.owed, job_some m.kernel (waits m.meta) (not_left c.requires.used.opening (g.D.BlockDev.state c.args.dev.now) m c.requires.used.at c.requires.used.in_use) (c.requires.used.at.enabled c.requires.enabled))

pub returns-clause-owed : goal.returns-clause-owed
returns-clause-owed g c =
    let m = c.args.self.now in
    let m1 = c.begin_clean.new.self in
    let d = g.D.BlockDev.state c.args.dev.now in
    let o = c.requires.used.opening in
    let at1 = c.begin_clean.ensures.at o c.requires.used.at in
    let none : m1.disabled ≡ None = ap (λ (x : Mount). x.disabled) c.begin_clean.ensures.same ∙ c.requires.enabled in
    let out : m.kernel.job ≢ LeaveOut = (λ e. search rules) in
    let has = works_at m1.kernel.job c.begin_clean.ensures.begun (c.begin_clean.ensures.out out) (not_left o d m1 at1 (used_still o m.kernel m1.kernel c.begin_clean.ensures.history c.requires.used.in_use)) (at1.enabled none) in
    omega (arith, c.begin_clean.ensures.owed, c.advance.ensures.less has)
