use Rattle.std.proofs.Common.{◌∙◌, refl, sym, subst}
use Rattle.vx_base.specs.declared.refusal.Refusal.TheVariants as no
use Rattle.vx_calls.specs.Calls.{IsAsked}
use Rattle.vx_calls.specs.declared.asked.Asked.{Asked}
use Rattle.vx_calls.proofs.Asking.{fine_replied, refused_replied}
use Rattle.vx_calls.specs.Potentials.{AsksOf}
use Rattle.vx_calls.proofs.Spending.{failed_same, raised_none}
use Rattle.vx_calls.proofs.mount.Mount.ask.Goals as goal

pub returns-in-Some-clause-at : goal.returns-in-Some-clause-at
returns-in-Some-clause-at g c = λ o at used.
    let d = g.D.BlockDev.state c.args.dev.now in
    subst (λ (x : Asked). IsAsked o d c.args.self.now c.args.call.now x) (sym c.refused.ensures) (refused_replied o d c.args.self.now at c.args.call.now (no.Disabled c.in-Some.write_faults) c.requires.built refl)

pub returns-then-is_for_mount-clause-at : goal.returns-then-is_for_mount-clause-at
returns-then-is_for_mount-clause-at g c = λ o at used. fine_replied o (g.D.BlockDev.state c.args.dev.now) c.args.self.now at c.args.call.now (sym c.is_for_mount.ensures ∙ c.if-is_for_mount.true)

pub returns-then-not-has_place-clause-at : goal.returns-then-not-has_place-clause-at
returns-then-not-has_place-clause-at g c = λ o at used. c.make_place.ensures.at o at used c.args.call.now c.requires.built

pub returns-in-Some-clause-failed : goal.returns-in-Some-clause-failed
returns-in-Some-clause-failed g c = failed_same c.args.self.now.disabled (g.D.BlockDev.state c.args.dev.now)

pub returns-in-Some-clause-asks : goal.returns-in-Some-clause-asks
returns-in-Some-clause-asks g c =
    let d = g.D.BlockDev.state c.args.dev.now in
    let m = c.args.self.now in
    subst (λ (x : Asked). AsksOf d d m m x) (sym c.refused.ensures) (raised_none d m)

pub returns-then-is_for_mount-clause-failed : goal.returns-then-is_for_mount-clause-failed
returns-then-is_for_mount-clause-failed g c = failed_same c.args.self.now.disabled (g.D.BlockDev.state c.args.dev.now)

pub returns-then-is_for_mount-clause-asks : goal.returns-then-is_for_mount-clause-asks
returns-then-is_for_mount-clause-asks g c = raised_none (g.D.BlockDev.state c.args.dev.now) c.args.self.now
