use Rattle.std.proofs.Common.{slice_index_or, sym, ap, ◌∙◌, arith}
use Rattle.vx_pages.specs.Indexes.{Tie}
use Rattle.vx_pages.proofs.Rising.{at_first, lacks_from, same_number, other_number, same_entry}
use Rattle.vx_pages.proofs.slot_index.first_page_from.Goals.{else-at-ties-via-then-at-ties+else-eq, else-at-ties-via-else-at-ties}
use Rattle.vx_pages.proofs.slot_index.first_page_from.Goals as goal

pub returns-then-eq-clause-found : goal.returns-then-eq-clause-found
returns-then-eq-clause-found c =
    at_first c.args.ino c.args.page c.args.ties.now c.place_of-at.result c.index-ties-at-then-eq.result c.place_of-at.ensures.place c.if-at-ties.true
    (ap (λ (e : Tie). e.0.0) (same_entry c.args.ties.now c.place_of-at.result c.index-ties-at-then-eq.result c.index-ties-at.result c.if-at-ties.true)
    ∙ same_number (slice_index_or c.args.ties.now c.place_of-at.result c.index-ties-at.result).0.0 c.args.ino (sym c.eq.ensures ∙ c.if-eq.true))

pub returns-else-at-ties-clause-none : goal.returns-else-at-ties-clause-none
returns-else-at-ties-clause-none c =
    let at = c.place_of-at.result in let ino = c.args.ino in let page = c.args.page in let ties = c.args.ties.now in
    elim c.else-at-ties.branch [
      | else-at-ties-via-then-at-ties+else-eq w ↦ lacks_from ino page ties at w.index-ties-at.result c.requires c.place_of-at.ensures.place
          (λ lt. other_number (slice_index_or ties at w.index-ties-at.result).0.0 ino (sym w.eq.ensures ∙ w.if-eq.false))
      | else-at-ties-via-else-at-ties w ↦ lacks_from ino page ties at ((0, 0), 0) c.requires c.place_of-at.ensures.place (λ lt. absurd (omega (arith, lt, w.if-at-ties.false)))
    ]
