use Rattle.std.proofs.Common.{◌≡◌, ℕ, true, length, is_some, sym, ap, ◌∙◌, subst, arith}
use Rattle.vx_pages.specs.Indexes.{slot_at, Leaves}
use Rattle.vx_pages.proofs.Leaving.{forgets, keeps, one_forgotten, fewer_listed, as_many_listed, one_less}
use Rattle.vx_pages.proofs.page_cache.forget.Goals as goal

pub returns-then-is_used-clause-others : goal.returns-then-is_used-clause-others
returns-then-is_used-clause-others c =
    forgets c.args.number c.args.index.now c.args.slots.now.entries c.in-Some.slot.now (sym c.in-Some.ensures) c.requires.tied c.remove.new.self (sym c.is_used.ensures ∙ c.if-is_used.true)
    (subst (λ (p : ℕ × ℕ). Leaves p.0 p.1 c.args.index.now c.remove.new.self) c.page-ino.ensures c.remove.ensures.left)

pub returns-then-is_used-clause-few : goal.returns-then-is_used-clause-few
returns-then-is_used-clause-few c =
    let s = c.in-Some.slot.now in let index = c.args.index.now in let used : s.used ≡ true = sym c.is_used.ensures ∙ c.if-is_used.true in
    let there = one_forgotten c.args.number index c.args.slots.now.entries s (sym c.in-Some.ensures) c.requires.tied used in
    let fewer = one_less (length c.remove.new.self) (length index) (is_some c.remove.result) c.remove.ensures.count (ap is_some c.remove.ensures.slot ∙ ap (λ (p : ℕ × ℕ). is_some (slot_at p.0 p.1 index)) c.page-ino.ensures ∙ there) in
    fewer_listed c.args.number index c.args.slots.now.entries s (sym c.in-Some.ensures) c.requires.tied (length c.remove.new.self) used (omega (arith, fewer, c.requires.few))

pub returns-else-is_used-clause-others : goal.returns-else-is_used-clause-others
returns-else-is_used-clause-others c =
    keeps c.args.number c.args.index.now c.args.slots.now.entries c.in-Some.slot.now (sym c.in-Some.ensures) c.requires.tied (sym c.is_used.ensures ∙ c.if-is_used.false)

pub returns-else-is_used-clause-few : goal.returns-else-is_used-clause-few
returns-else-is_used-clause-few c =
    as_many_listed c.args.number c.args.index.now c.args.slots.now.entries c.in-Some.slot.now (sym c.in-Some.ensures) c.requires.tied (length c.args.index.now) (sym c.is_used.ensures ∙ c.if-is_used.false) c.requires.few
