use Rattle.std.proofs.Common.{◌∙◌, ◌≤◌, Bool, sym, subst}
use Rattle.vx_calls.specs.Potentials.{promised}
use Rattle.vx_calls.proofs.Spending.{paid, unpaid}
use Rattle.vx_calls.proofs.mount.Mount.release_passed.Goals as goal

pub returns-then-has_pending-clause-promised : goal.returns-then-has_pending-clause-promised
returns-then-has_pending-clause-promised g c =
    let m = c.args.self.now in
    paid m c.release.new.self c.requires.job c.release.ensures.kernel c.release.ensures.noted (sym c.replace-due.ensures.value ∙ c.if-due.true) (c.release.ensures.due ∙ c.replace-due.ensures.after) c.release.ensures.waits

pub returns-else-due-clause-promised : goal.returns-else-due-clause-promised
returns-else-due-clause-promised g c =
    let m = c.args.self.now in
    subst (λ (b : Bool). promised (record m { due = b }) ≤ promised m) (sym c.replace-due.ensures.after) (unpaid m m c.requires.job)
