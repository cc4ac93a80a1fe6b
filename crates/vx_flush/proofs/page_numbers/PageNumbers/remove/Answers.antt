use Rattle.std.proofs.Common.{◌≡◌, ℕ, Option, true, ap, subst, arith}
use Rattle.std.specs.Prelude.{is_some}
use Rattle.vx_flush.specs.Entries.{Numbers, kept_at, StandsAt}
use Rattle.vx_flush.proofs.Rising.{rising_remove, leaves, number_found}
use Rattle.vx_flush.proofs.page_numbers.PageNumbers.remove.Goals as goal

pub invariant_of-self : goal.invariant_of-self
invariant_of-self c =
    let es = c.self.inside.entries.items in let ino = c.args.ino in let page = c.args.page in (
      rw c.remove.ensures.items (rising_remove ino page es c.in-Ok.at c.self.invariant.0),
      omega (arith, c.self.invariant.1, c.remove.ensures.len),
      omega (arith, c.self.invariant.2, c.remove.ensures.capacity),
    )

pub returns-in-Ok-clause-removed : goal.returns-in-Ok-clause-removed
returns-in-Ok-clause-removed c =
    let es = c.self.inside.entries.items in let ino = c.args.ino in let page = c.args.page in
    let at : StandsAt ino page es c.in-Ok.at = subst (λ (l : Numbers). StandsAt ino page l c.in-Ok.at) c.as_slice.ensures.value c.in-Ok.ensures.found in
    rw (← c.self.view_is, c.remove.ensures.items) (leaves ino page es c.in-Ok.at ((0, 0), 0) c.self.invariant.0 at.place at.within (at.is ((0, 0), 0)))

pub returns-in-Ok-clause-count : goal.returns-in-Ok-clause-count
returns-in-Ok-clause-count c =
    let es = c.self.inside.entries.items in let ino = c.args.ino in let page = c.args.page in
    let at : StandsAt ino page es c.in-Ok.at = subst (λ (l : Numbers). StandsAt ino page l c.in-Ok.at) c.as_slice.ensures.value c.in-Ok.ensures.found in
    let there : is_some (kept_at ino page es) ≡ true = ap (λ (o : Option ℕ). is_some o) (number_found ino page es c.in-Ok.at ((0, 0), 0) c.self.invariant.0 at) in
    rw (← c.self.view_is, there) (omega (arith, c.remove.ensures.len))
