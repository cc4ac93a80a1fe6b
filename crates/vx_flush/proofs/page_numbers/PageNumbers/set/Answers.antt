use Rattle.std.proofs.Common.{inl, inr, ◌≡◌, ◌<◌, ℕ, Some, Option, true, false, length, set, ap, sym, ◌∙◌, subst, arith}
use Rattle.std.specs.Prelude.{is_some}
use Rattle.std.proofs.lemmas.List.{length-set}
use Rattle.vx_flush.specs.Entries.{Numbers, kept_at, StandsAt, LacksAt, Keeps}
use Rattle.vx_flush.proofs.Rising.{rising_set, rising_insert, sets, enters, number_found}
use Rattle.vx_flush.proofs.page_numbers.PageNumbers.set.Goals as goal

pub invariant_of-self : goal.invariant_of-self
invariant_of-self c =
    let es = c.self.inside.entries.items in let ino = c.args.ino in let page = c.args.page in
    let at : StandsAt ino page es c.in-Ok.at = subst (λ (l : Numbers). StandsAt ino page l c.in-Ok.at) c.as_slice.ensures.value c.in-Ok.ensures.found in (
      rising_set ino page c.args.number es c.in-Ok.at c.self.invariant.0 (λ x lt. at.is x),
      omega (arith, c.self.invariant.1, length-set es c.in-Ok.at ((ino, page), c.args.number)),
      c.self.invariant.2,
    )

differs : false ≡ true → ⊥
differs h = cc

pub invariant_of-self-in-Ok-insert : goal.invariant_of-self-in-Ok-insert
invariant_of-self-in-Ok-insert c =
    let es = c.self.inside.entries.items in let ino = c.args.ino in let page = c.args.page in
    let at : LacksAt ino page es c.in-Err.at = subst (λ (l : Numbers). LacksAt ino page l c.in-Err.at) c.as_slice.ensures.value c.in-Err.ensures.missing in
    let room : length es < 262144 = elim c.requires.room [
      | inl there ↦ absurd (differs (ap (λ (o : Option ℕ). is_some o) (sym at.none ∙ ap (kept_at ino page) c.self.view_is) ∙ there))
      | inr few ↦ subst (λ (l : Numbers). length l < 262144) (sym c.self.view_is) few
    ] in (
      rw c.in-Ok-insert.ensures.items (rising_insert ino page c.args.number es c.in-Err.at c.self.invariant.0 at.place at.none),
      omega (arith, room, c.in-Ok-insert.ensures.len),
      omega (arith, c.self.invariant.2, c.in-Ok-insert.ensures.capacity),
    )

pub returns-in-Ok-clause-set : goal.returns-in-Ok-clause-set
returns-in-Ok-clause-set c =
    let es = c.self.inside.entries.items in let ino = c.args.ino in let page = c.args.page in
    let at : StandsAt ino page es c.in-Ok.at = subst (λ (l : Numbers). StandsAt ino page l c.in-Ok.at) c.as_slice.ensures.value c.in-Ok.ensures.found in
    subst (λ (l : Numbers). Keeps ino page (Some c.args.number) l (set es c.in-Ok.at ((ino, page), c.args.number))) c.self.view_is (sets ino page c.args.number es c.in-Ok.at at.place at.within at.is)

pub returns-in-Ok-clause-count : goal.returns-in-Ok-clause-count
returns-in-Ok-clause-count c =
    let es = c.self.inside.entries.items in let ino = c.args.ino in let page = c.args.page in
    let at : StandsAt ino page es c.in-Ok.at = subst (λ (l : Numbers). StandsAt ino page l c.in-Ok.at) c.as_slice.ensures.value c.in-Ok.ensures.found in
    let there : is_some (kept_at ino page es) ≡ true = ap (λ (o : Option ℕ). is_some o) (number_found ino page es c.in-Ok.at ((0, 0), 0) c.self.invariant.0 at) in
    rw (← c.self.view_is, there) (omega (arith, length-set es c.in-Ok.at ((ino, page), c.args.number)))

pub returns-in-Ok-insert-clause-set : goal.returns-in-Ok-insert-clause-set
returns-in-Ok-insert-clause-set c =
    let es = c.self.inside.entries.items in let ino = c.args.ino in let page = c.args.page in
    let at : LacksAt ino page es c.in-Err.at = subst (λ (l : Numbers). LacksAt ino page l c.in-Err.at) c.as_slice.ensures.value c.in-Err.ensures.missing in
    rw (← c.self.view_is, c.in-Ok-insert.ensures.items) (enters ino page c.args.number es c.in-Err.at at.none)
