use Rattle.std.proofs.Common.{◌≡◌, ◌<◌, ℕ, List, None, Some, true, length, slice_index_or, sym, ap, ◌∙◌, subst, arith}
use Rattle.vx_pages.specs.Indexes.{Tie, slot_at, is_of, IsPlace}
use Rattle.vx_pages.proofs.Rising.{rising_remove, leaves, leaves_none, at_place, not_at_place, same_entry}
use Rattle.vx_pages.proofs.slot_index.SlotIndex.remove.Goals.{else-at-len-via-then-at-len+else-is_of, else-at-len-via-else-at-len}
use Rattle.vx_pages.proofs.slot_index.SlotIndex.remove.Goals as goal

abbrev Place : ℕ → ℕ → ℕ → List Tie → Type 0
Place ino page at ties = IsPlace ino page ties at

pub invariant_of-self : goal.invariant_of-self
invariant_of-self c = (
  rw c.remove-slot.ensures.items (rising_remove c.args.ino c.args.page c.self.inside.ties.items c.place_of-at.result c.self.invariant.0),
  omega (arith, c.self.invariant.1, c.remove-slot.ensures.capacity),
)

pub returns-then-is_of-clause-slot : goal.returns-then-is_of-clause-slot
returns-then-is_of-clause-slot c =
    let ties = c.self.inside.ties.items in let at = c.place_of-at.result in let ino = c.args.ino in let page = c.args.page in
    let place = subst (Place ino page at) c.as_slice.ensures.value c.place_of-at.ensures.place in
    let lt : at < length ties = omega (arith, c.if-at-len.true, c.len.ensures) in
    let is : is_of ino page (slice_index_or ties at c.remove-slot.result) ≡ true = ap (is_of ino page) (same_entry ties at c.remove-slot.result c.index.result.now lt ∙ sym c.index.ensures) ∙ sym c.is_of.ensures ∙ c.if-is_of.true in
    rw (← c.self.view_is) (ap (λ (e : Tie). Some e.1) c.remove-slot.ensures.value ∙ sym (at_place ino page ties at c.remove-slot.result c.self.invariant.0 place lt is))

pub returns-then-is_of-clause-left : goal.returns-then-is_of-clause-left
returns-then-is_of-clause-left c =
    let ties = c.self.inside.ties.items in let at = c.place_of-at.result in let ino = c.args.ino in let page = c.args.page in
    let place = subst (Place ino page at) c.as_slice.ensures.value c.place_of-at.ensures.place in
    let lt : at < length ties = omega (arith, c.if-at-len.true, c.len.ensures) in
    let is : is_of ino page (slice_index_or ties at c.index.result.now) ≡ true = ap (is_of ino page) (sym c.index.ensures) ∙ sym c.is_of.ensures ∙ c.if-is_of.true in
    rw (← c.self.view_is, c.remove-slot.ensures.items) (leaves ino page ties at c.index.result.now c.self.invariant.0 place lt is)

missing : (c : goal.Joined-else-at-len) → slot_at c.args.ino c.args.page c.self.inside.ties.items ≡ None
missing c =
    let ties = c.self.inside.ties.items in let at = c.place_of-at.result in let ino = c.args.ino in let page = c.args.page in
    let place = subst (Place ino page at) c.as_slice.ensures.value c.place_of-at.ensures.place in
    elim c.else-at-len.branch [
      | else-at-len-via-then-at-len+else-is_of w ↦ not_at_place ino page ties at w.index.result.now c.self.invariant.0 place
          (λ lt. ap (is_of ino page) (sym w.index.ensures) ∙ sym w.is_of.ensures ∙ w.if-is_of.false)
      | else-at-len-via-else-at-len w ↦ not_at_place ino page ties at ((0, 0), 0) c.self.invariant.0 place (λ lt. absurd (omega (arith, lt, w.if-at-len.false, c.len.ensures)))
    ]

pub returns-else-at-len-clause-slot : goal.returns-else-at-len-clause-slot
returns-else-at-len-clause-slot c = rw (← c.self.view_is) (sym (missing c))

pub returns-else-at-len-clause-left : goal.returns-else-at-len-clause-left
returns-else-at-len-clause-left c = rw (← c.self.view_is) (leaves_none c.args.ino c.args.page c.self.inside.ties.items (missing c))
