use Rattle.std.proofs.Common.{◌≡◌, ℕ, nat_eq, false, slice_index_or, sym, subst, ◌∙◌, arith}
use Rattle.vx_flush.specs.Entries.{Numbers, IsPlace}
use Rattle.vx_flush.proofs.Rising.{rising_stay, drops, fewer_stay, drops_none, lacks_from, LacksFrom, other_number}
use Rattle.vx_flush.proofs.page_numbers.PageNumbers.drop_from.Goals.{else-at-len-via-then-at-len+else-eq, else-at-len-via-else-at-len}
use Rattle.vx_flush.proofs.page_numbers.PageNumbers.drop_from.Goals as goal

pub invariant_of-self : goal.invariant_of-self
invariant_of-self c =
    let es = c.self.inside.entries.items in (
      rw c.keep_others.ensures.items (rising_stay c.args.ino c.args.page es c.self.invariant.0),
      rw c.keep_others.ensures.items (omega (arith, c.self.invariant.1, fewer_stay c.args.ino c.args.page es)),
      omega (arith, c.self.invariant.2, c.keep_others.ensures.capacity),
    )

pub returns-then-eq-clause-dropped : goal.returns-then-eq-clause-dropped
returns-then-eq-clause-dropped c = rw (← c.self.view_is, c.keep_others.ensures.items) (drops c.args.ino c.args.page c.self.inside.entries.items)

pub returns-then-eq-clause-count : goal.returns-then-eq-clause-count
returns-then-eq-clause-count c = rw (← c.self.view_is, c.keep_others.ensures.items) (fewer_stay c.args.ino c.args.page c.self.inside.entries.items)

missing : (c : goal.Joined-else-at-len) → LacksFrom c.args.ino c.args.page c.self.inside.entries.items
missing c =
    let es = c.self.inside.entries.items in let at = c.place_of-at.result in let ino = c.args.ino in let page = c.args.page in
    let place = subst (λ (l : Numbers). IsPlace ino page l at) c.as_slice.ensures.value c.place_of-at.ensures.place in
    elim c.else-at-len.branch [
      | else-at-len-via-then-at-len+else-eq w ↦ lacks_from ino page es at w.index.result.now c.self.invariant.0 place
          (λ lt is. other_number (slice_index_or es at w.index.result.now).0.0 ino (subst (λ (e : (ℕ × ℕ) × ℕ). nat_eq e.0.0 ino ≡ false) w.index.ensures (sym w.eq.ensures ∙ w.if-eq.false)) is)
      | else-at-len-via-else-at-len w ↦ lacks_from ino page es at ((0, 0), 0) c.self.invariant.0 place (λ lt. absurd (omega (arith, lt, w.if-at-len.false, c.len.ensures)))
    ]

pub returns-else-at-len-clause-dropped : goal.returns-else-at-len-clause-dropped
returns-else-at-len-clause-dropped c = rw (← c.self.view_is) (drops_none c.args.ino c.args.page c.self.inside.entries.items (missing c))
