use Rattle.std.proofs.Common.{◌≡◌, List, None, ap, ◌∙◌, subst, arith}
use Rattle.vx_pages.specs.Indexes.{Tie, slot_at, IsPlace}
use Rattle.vx_pages.proofs.Rising.{rising_insert, enters}
use Rattle.vx_pages.proofs.slot_index.SlotIndex.insert.Goals as goal

pub invariant_of-self : goal.invariant_of-self
invariant_of-self c =
    let ties = c.self.inside.ties.items in let at = c.place_of-at.result in let ino = c.args.ino in let page = c.args.page in
    let place : IsPlace ino page ties at = subst (λ (t : List Tie). IsPlace ino page t at) c.as_slice.ensures.value c.place_of-at.ensures.place in
    let none : slot_at ino page ties ≡ None = ap (slot_at ino page) c.self.view_is ∙ c.requires.new in (
      rw c.in-Ok.ensures.items (rising_insert ino page c.args.slot ties at c.self.invariant.0 place none),
      omega (arith, c.self.invariant.1, c.in-Ok.ensures.capacity),
    )

pub returns-clause-entered : goal.returns-clause-entered
returns-clause-entered c =
    let ties = c.self.inside.ties.items in let at = c.place_of-at.result in let ino = c.args.ino in let page = c.args.page in
    let none : slot_at ino page ties ≡ None = ap (slot_at ino page) c.self.view_is ∙ c.requires.new in
    rw (← c.self.view_is, c.in-Ok.ensures.items) (enters ino page c.args.slot ties at none)
