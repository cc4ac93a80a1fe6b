use Rattle.std.proofs.Common.{◌≡◌, ◌+◌, ◌<◌, ◌∙◌, ℕ, Option, None, refl, sym, ap, subst, arith, inr}
use Rattle.vx_base.specs.declared.refusal.Refusal.TheVariants as no
use Rattle.vx_calls.specs.Calls.{IsAsked}
use Rattle.vx_calls.specs.declared.asked.Asked.{Asked}
use Rattle.vx_calls.proofs.Asking.{refused_replied}
use Rattle.vx_calls.proofs.Keeping.{used_still}
use Rattle.vx_calls.specs.Calls.{HasFailed}
use Rattle.vx_calls.specs.Potentials.{AsksOf, waits}
use Rattle.vx_calls.specs.declared.mount.Mount.{Mount}
use Rattle.vx_calls.proofs.Spending.{failed_same, freed_owed, freed_promised, has_begun, raised_fault, worked, items_same}
use Rattle.vx_calls.proofs.mount.Mount.make_space.Goals as goal

pub advance-requires-clause-used : goal.advance-requires-clause-used
advance-requires-clause-used g c =
    let m = c.args.self.now in
    record {
      opening = c.requires.used.opening;
      at = c.begin_release.ensures.at c.requires.used.opening c.requires.used.at;
      in_use = used_still c.requires.used.opening m.kernel c.begin_release.new.self.kernel c.begin_release.ensures.history c.requires.used.in_use;
    }

pub returns-in-Ok-clause-at : goal.returns-in-Ok-clause-at
returns-in-Ok-clause-at g c = λ o at used call built. c.advance.ensures.at o (c.begin_release.ensures.at o at) (used_still o c.args.self.now.kernel c.begin_release.new.self.kernel c.begin_release.ensures.history used)

pub returns-in-Err-clause-at : goal.returns-in-Err-clause-at
returns-in-Err-clause-at g c = λ o at used call built.
    let e = g.D.BlockDev.state c.advance.new.dev in
    subst (λ (x : Asked). IsAsked o e c.advance.new.self call x) (sym c.refused.ensures)
    (refused_replied o e c.advance.new.self (c.advance.ensures.at o (c.begin_release.ensures.at o at) (used_still o c.args.self.now.kernel c.begin_release.new.self.kernel c.begin_release.ensures.history used)) call no.WriteFault built refl)

pub release-requires-clause-used : goal.release-requires-clause-used
release-requires-clause-used g c =
    let m = c.args.self.now in
    record {
      opening = c.requires.used.opening;
      at = c.begin_release.ensures.at c.requires.used.opening c.requires.used.at;
      in_use = used_still c.requires.used.opening m.kernel c.begin_release.new.self.kernel c.begin_release.ensures.history c.requires.used.in_use;
    }

pub returns-in-Ok-clause-asks : goal.returns-in-Ok-clause-asks
returns-in-Ok-clause-asks g c =
    let m = c.args.self.now in
    let m1 = c.begin_release.new.self in
    let m2 = c.advance.new.self in
    let d = g.D.BlockDev.state c.args.dev.now in
    let e = g.D.BlockDev.state c.advance.new.dev in
    let o = c.requires.used.opening in
    let none : m1.disabled ≡ None = ap (λ (x : Mount). x.disabled) c.begin_release.ensures.same ∙ c.requires.enabled in
    let has = has_begun o d m1 (c.begin_release.ensures.at o c.requires.used.at) (used_still o m.kernel m1.kernel c.begin_release.ensures.history c.requires.used.in_use) (c.begin_release.ensures.begun c.if-begin_release.false) (c.begin_release.ensures.free c.requires.free) none in
    worked d e m m1 m2 c.begin_release.ensures.owed c.begin_release.ensures.promised (c.advance.ensures.less has) c.advance.ensures.promised (c.in-Ok.ensures.works has)

pub returns-in-Ok-clause-failed : goal.returns-in-Ok-clause-failed
returns-in-Ok-clause-failed g c = subst (λ (x : Option ℕ). HasFailed x c.advance.new.self.disabled (g.D.BlockDev.state c.args.dev.now) (g.D.BlockDev.state c.advance.new.dev)) (ap (λ (x : Mount). x.disabled) c.begin_release.ensures.same) c.advance.ensures.failed

pub returns-in-Err-clause-asks : goal.returns-in-Err-clause-asks
returns-in-Err-clause-asks g c =
    let m = c.args.self.now in
    let m1 = c.begin_release.new.self in
    let m2 = c.advance.new.self in
    let d = g.D.BlockDev.state c.args.dev.now in
    let e = g.D.BlockDev.state c.advance.new.dev in
    subst (λ (x : Asked). AsksOf d e m m2 x) (sym c.refused.ensures)
    (raised_fault d e m m1 m2 e.write_faults c.begin_release.ensures.owed c.begin_release.ensures.promised c.advance.ensures.owed c.advance.ensures.promised c.requires.enabled c.in-Err.ensures.disabled)

pub returns-in-Err-clause-failed : goal.returns-in-Err-clause-failed
returns-in-Err-clause-failed g c = subst (λ (x : Option ℕ). HasFailed x c.advance.new.self.disabled (g.D.BlockDev.state c.args.dev.now) (g.D.BlockDev.state c.advance.new.dev)) (ap (λ (x : Mount). x.disabled) c.begin_release.ensures.same) c.advance.ensures.failed

pub returns-then-begin_release-clause-asks : goal.returns-then-begin_release-clause-asks
returns-then-begin_release-clause-asks g c =
    let m = c.args.self.now in
    let m1 = c.begin_release.new.self in
    let m2 = c.release.new.self in
    let ready = c.begin_release.ensures.ready c.if-begin_release.true in
    let one : waits m1.meta ≡ 1 = ap (λ (x : Mount). waits x.meta) c.begin_release.ensures.same ∙ c.requires.waits in
    let zero_ : waits m2.meta ≡ 0 = c.release.ensures.freed (ready.2 ∙ sym (items_same m1.kernel.history m.kernel.history c.begin_release.ensures.history)) in
    let fewer : waits m2.meta < waits m1.meta = omega (arith, one, zero_) in
    record {
      less = omega (arith, c.begin_release.ensures.owed, freed_owed m1 m2 ready.0 c.release.ensures.kernel c.release.ensures.noted c.release.ensures.due fewer);
      promised = omega (arith, c.begin_release.ensures.promised, freed_promised m1 m2 ready.0 c.release.ensures.kernel c.release.ensures.noted c.release.ensures.due fewer);
      works = inr (c.release.ensures.noted ∙ ap (λ (n : ℕ). n + 1) (items_same m1.kernel.history m.kernel.history c.begin_release.ensures.history));
    }

pub returns-then-begin_release-clause-failed : goal.returns-then-begin_release-clause-failed
returns-then-begin_release-clause-failed g c =
    let m = c.args.self.now in
    let d = g.D.BlockDev.state c.args.dev.now in
    subst (λ (x : Option ℕ). HasFailed m.disabled x d d) (sym (c.release.ensures.disabled ∙ ap (λ (x : Mount). x.disabled) c.begin_release.ensures.same)) (failed_same m.disabled d)
