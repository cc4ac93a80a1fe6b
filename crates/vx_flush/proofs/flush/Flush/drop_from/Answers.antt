use Rattle.std.proofs.Common.{subst}
use Rattle.vx_flush.specs.Entries.{Drops}
use Rattle.vx_flush.specs.Marks.{Marks, mark_of, marks_of}
use Rattle.vx_flush.proofs.Marking.{drops_changed}
use Rattle.vx_flush.proofs.flush.Flush.drop_from.Goals as goal

pub returns-clause-dropped : goal.returns-clause-dropped
returns-clause-dropped c =
    let b = c.self.inside.barriers in
    subst (λ (m : Marks). Drops c.args.ino c.args.p m (marks_of b c.drop_from.new.self)) c.self.view_is
    (drops_changed (mark_of b) c.args.ino c.args.p c.self.inside.numbers c.drop_from.new.self c.drop_from.ensures.dropped)
