use Rattle.std.proofs.Common.{sym, ap, ◌∙◌, arith}
use Rattle.vx_flush.specs.Entries.{is_of}
use Rattle.vx_flush.proofs.Rising.{stands_at, not_at_place}
use Rattle.vx_flush.proofs.page_numbers.find.Goals.{else-at-entries-via-then-at-entries+else-is_of, else-at-entries-via-else-at-entries}
use Rattle.vx_flush.proofs.page_numbers.find.Goals as goal

pub returns-then-is_of-clause-found : goal.returns-then-is_of-clause-found
returns-then-is_of-clause-found c =
    stands_at c.args.ino c.args.page c.args.entries.now c.place_of-at.result c.index-entries-at.result c.if-at-entries.true c.place_of-at.ensures.place
    (ap (is_of c.args.ino c.args.page) (sym c.index-entries-at.is) ∙ sym c.is_of.ensures ∙ c.if-is_of.true)

pub returns-else-at-entries-clause-missing : goal.returns-else-at-entries-clause-missing
returns-else-at-entries-clause-missing c =
    let at = c.place_of-at.result in let ino = c.args.ino in let page = c.args.page in let entries = c.args.entries.now in
    record {
      within = c.place_of-at.ensures.bound;
      place = c.place_of-at.ensures.place;
      none = elim c.else-at-entries.branch [
        | else-at-entries-via-then-at-entries+else-is_of w ↦ not_at_place ino page entries at w.index-entries-at.result c.requires c.place_of-at.ensures.place (λ lt. ap (is_of ino page) (sym w.index-entries-at.is) ∙ sym w.is_of.ensures ∙ w.if-is_of.false)
        | else-at-entries-via-else-at-entries w ↦ not_at_place ino page entries at ((0, 0), 0) c.requires c.place_of-at.ensures.place (λ lt. absurd (omega (arith, lt, w.if-at-entries.false)))
      ];
    }
