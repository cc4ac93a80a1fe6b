use Rattle.std.proofs.Common.{◌≡◌, ◌∙◌, ℕ, Option, None, refl, sym, ap, subst}
use Rattle.vx_base.specs.declared.refusal.Refusal.TheVariants as no
use Rattle.vx_calls.specs.Calls.{IsAsked}
use Rattle.vx_calls.specs.declared.asked.Asked.{Asked}
use Rattle.vx_calls.proofs.Asking.{refused_replied}
use Rattle.vx_calls.proofs.Keeping.{used_still}
use Rattle.vx_calls.specs.Calls.{HasFailed}
use Rattle.vx_calls.specs.Potentials.{AsksOf}
use Rattle.vx_calls.specs.declared.mount.Mount.{Mount}
use Rattle.vx_calls.proofs.Spending.{begun_job, has_begun, raised_fault, worked}
use Rattle.vx_calls.proofs.mount.Mount.make_place.Goals as goal

pub advance-requires-clause-used : goal.advance-requires-clause-used
advance-requires-clause-used g c =
    let m = c.args.self.now in
    record {
      opening = c.requires.used.opening;
      at = c.begin_commit.ensures.at c.requires.used.opening c.requires.used.at;
      in_use = used_still c.requires.used.opening m.kernel c.begin_commit.new.self.kernel c.begin_commit.ensures.history c.requires.used.in_use;
    }

pub returns-in-Ok-clause-at : goal.returns-in-Ok-clause-at
returns-in-Ok-clause-at g c = λ o at used call built. c.advance.ensures.at o (c.begin_commit.ensures.at o at) (used_still o c.args.self.now.kernel c.begin_commit.new.self.kernel c.begin_commit.ensures.history used)

pub returns-in-Err-clause-at : goal.returns-in-Err-clause-at
returns-in-Err-clause-at g c = λ o at used call built.
    let e = g.D.BlockDev.state c.advance.new.dev in
    subst (λ (x : Asked). IsAsked o e c.advance.new.self call x) (sym c.refused.ensures)
    (refused_replied o e c.advance.new.self (c.advance.ensures.at o (c.begin_commit.ensures.at o at) (used_still o c.args.self.now.kernel c.begin_commit.new.self.kernel c.begin_commit.ensures.history used)) call no.WriteFault built refl)

pub returns-in-Ok-clause-asks : goal.returns-in-Ok-clause-asks
returns-in-Ok-clause-asks g c =
    let m = c.args.self.now in
    let m1 = c.begin_commit.new.self in
    let m2 = c.advance.new.self in
    let d = g.D.BlockDev.state c.args.dev.now in
    let e = g.D.BlockDev.state c.advance.new.dev in
    let o = c.requires.used.opening in
    let none : m1.disabled ≡ None = ap (λ (x : Mount). x.disabled) c.begin_commit.ensures.same ∙ c.requires.enabled in
    let has = has_begun o d m1 (c.begin_commit.ensures.at o c.requires.used.at) (used_still o m.kernel m1.kernel c.begin_commit.ensures.history c.requires.used.in_use) (begun_job c.begin_commit.result m.kernel.gathered m1.kernel.job c.begin_commit.ensures.none c.begin_commit.ensures.begun c.requires.some) (c.begin_commit.ensures.free c.requires.free) none in
    worked d e m m1 m2 c.begin_commit.ensures.owed c.begin_commit.ensures.promised (c.advance.ensures.less has) c.advance.ensures.promised (c.in-Ok.ensures.works has)

pub returns-in-Ok-clause-failed : goal.returns-in-Ok-clause-failed
returns-in-Ok-clause-failed g c = subst (λ (x : Option ℕ). HasFailed x c.advance.new.self.disabled (g.D.BlockDev.state c.args.dev.now) (g.D.BlockDev.state c.advance.new.dev)) (ap (λ (x : Mount). x.disabled) c.begin_commit.ensures.same) c.advance.ensures.failed

pub returns-in-Err-clause-asks : goal.returns-in-Err-clause-asks
returns-in-Err-clause-asks g c =
    let m = c.args.self.now in
    let m1 = c.begin_commit.new.self in
    let m2 = c.advance.new.self in
    let d = g.D.BlockDev.state c.args.dev.now in
    let e = g.D.BlockDev.state c.advance.new.dev in
    subst (λ (x : Asked). AsksOf d e m m2 x) (sym c.refused.ensures)
    (raised_fault d e m m1 m2 e.write_faults c.begin_commit.ensures.owed c.begin_commit.ensures.promised c.advance.ensures.owed c.advance.ensures.promised c.requires.enabled c.in-Err.ensures.disabled)

pub returns-in-Err-clause-failed : goal.returns-in-Err-clause-failed
returns-in-Err-clause-failed g c = subst (λ (x : Option ℕ). HasFailed x c.advance.new.self.disabled (g.D.BlockDev.state c.args.dev.now) (g.D.BlockDev.state c.advance.new.dev)) (ap (λ (x : Mount). x.disabled) c.begin_commit.ensures.same) c.advance.ensures.failed
