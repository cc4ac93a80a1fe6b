use Rattle.std.proofs.Common.{◌≡◌, ◌+◌, ℕ, suc, List, arith, sym, ap, ◌∙◌, subst}
use Rattle.std.specs.Prelude.{insert}
use Rattle.vx_extents.specs.declared.stretch.Stretch.{Stretch}
use Rattle.vx_extents.specs.Extents.{IsStretch}
use Rattle.vx_extents.specs.Uses.{left_before, piece_after}
use Rattle.vx_extents.proofs.Adds.{is_at}
use Rattle.vx_extents.proofs.Cuts.{yes_less, not_less}
use Rattle.vx_extents.proofs.Removes.{removes_both, removes_end}
use Rattle.vx_extents.proofs.extent_map.remove_page.Goals.{then-before-extent, else-before-extent}
use Rattle.vx_extents.proofs.extent_map.remove_page.Goals as goal

pub piece_after-requires-clause-extent : goal.piece_after-requires-clause-extent
piece_after-requires-clause-extent c =
    subst IsStretch (sym c.index.ensures) (is_at c.args.extents.now.items c.args.at c.index.result.now c.requires.each c.requires.bound)

pub returns-clause-removed : goal.returns-clause-removed
returns-clause-removed c =
    let items = c.args.extents.now.items in
    let e = c.index.result.now in
    let one_on : c.args.at + 1 ≡ suc c.args.at = omega arith in
    elim c.if-before-extent.branch [
      | then-before-extent w ↦
          c.leave_before.ensures.left
          ∙ ap (λ (es : List Stretch). left_before c.args.at c.args.before es) (ap (λ v. v.items) w.extents-is ∙ w.insert_piece.ensures.inserted ∙ ap (λ (x : Stretch). insert items (c.args.at + 1) x) w.piece_after.ensures ∙ ap (λ (n : ℕ). insert items n (piece_after c.args.before e)) one_on)
          ∙ removes_both items c.args.at c.args.before e c.requires.bound c.index.ensures (yes_less c.args.before e.more w.if-before-extent.true)
      | else-before-extent w ↦
          c.leave_before.ensures.left ∙ ap (λ (es : List Stretch). left_before c.args.at c.args.before es) (ap (λ v. v.items) w.extents-is)
          ∙ removes_end items c.args.at c.args.before e c.requires.bound c.index.ensures (not_less c.args.before e.more w.if-before-extent.false)
    ]
