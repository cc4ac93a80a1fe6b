use Rattle.std.proofs.Common.{◌≡◌, ◌-◌, ℕ, suc, arith, sym, ap, ◌∙◌}
use Rattle.vx_extents.specs.Uses.{left_before}
use Rattle.vx_extents.proofs.Removes.{left_gone, left_some}
use Rattle.vx_extents.proofs.extent_map.leave_before.Goals as goal

pub returns-then-before-eq0-clause-left : goal.returns-then-before-eq0-clause-left
returns-then-before-eq0-clause-left c =
    let items = c.args.extents.now.items in
    c.remove.ensures.items ∙ left_gone items c.args.at c.requires.bound ∙ ap (λ (k : ℕ). left_before c.args.at k items) (sym c.if-before-eq0.true)

pub returns-else-before-eq0-clause-left : goal.returns-else-before-eq0-clause-left
returns-else-before-eq0-clause-left c =
    let items = c.args.extents.now.items in
    let more : suc (c.args.before - 1) ≡ c.args.before = omega (arith, c.if-before-eq0.false) in
    left_some items c.args.at (c.args.before - 1) c.index-extent.result.now c.requires.bound c.index-extent.ensures ∙ ap (λ (k : ℕ). left_before c.args.at k items) more
