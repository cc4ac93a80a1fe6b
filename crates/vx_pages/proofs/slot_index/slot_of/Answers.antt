use Rattle.std.proofs.Common.{sym, ap, ◌∙◌, arith}
use Rattle.vx_pages.specs.Indexes.{is_of}
use Rattle.vx_pages.proofs.Rising.{at_place, not_at_place, same_entry}
use Rattle.vx_pages.proofs.slot_index.slot_of.Goals.{else-at-ties-via-then-at-ties+else-is_of, else-at-ties-via-else-at-ties}
use Rattle.vx_pages.proofs.slot_index.slot_of.Goals as goal

pub returns-then-is_of : goal.returns-then-is_of
returns-then-is_of c =
    let at = c.place_of-at.result in
    sym (at_place c.args.ino c.args.page c.args.ties.now at c.index-ties-at-then-is_of.result c.requires c.place_of-at.ensures.place c.if-at-ties.true
    (ap (is_of c.args.ino c.args.page) (same_entry c.args.ties.now at c.index-ties-at-then-is_of.result c.index-ties-at.result c.if-at-ties.true ∙ sym c.index-ties-at.is) ∙ sym c.is_of.ensures ∙ c.if-is_of.true))

pub returns-else-at-ties : goal.returns-else-at-ties
returns-else-at-ties c =
    let at = c.place_of-at.result in let ino = c.args.ino in let page = c.args.page in let ties = c.args.ties.now in
    elim c.else-at-ties.branch [
      | else-at-ties-via-then-at-ties+else-is_of w ↦ sym (not_at_place ino page ties at w.index-ties-at.result c.requires c.place_of-at.ensures.place (λ lt. ap (is_of ino page) (sym w.index-ties-at.is) ∙ sym w.is_of.ensures ∙ w.if-is_of.false))
      | else-at-ties-via-else-at-ties w ↦ sym (not_at_place ino page ties at ((0, 0), 0) c.requires c.place_of-at.ensures.place (λ lt. absurd (omega (arith, lt, w.if-at-ties.false))))
    ]
