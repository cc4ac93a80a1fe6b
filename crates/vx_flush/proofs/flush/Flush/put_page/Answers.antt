use Rattle.std.proofs.Common.{◌≡◌, ◌+◌, Some, None, cond, length, sym, subst}
use Rattle.std.specs.Prelude.{is_some}
use Rattle.vx_flush.specs.Entries.{Keeps}
use Rattle.vx_flush.specs.Marks.{Marks, Owed, mark_at, mark_of, marks_of, HasRoom}
use Rattle.vx_flush.proofs.Marking.{room_for, owed_kept, keeps_changed, one_more, one_fewer}
use Rattle.vx_flush.proofs.flush.Flush.put_page.Goals as goal

pub set-requires : goal.set-requires
set-requires g c = record { room = room_for c.self.inside.barriers c.self.inside.numbers c.args.ino c.args.p (subst (λ (m : Marks). HasRoom m c.args.ino c.args.p) (sym c.self.view_is) c.requires.room) }

pub returns-in-Ok-clause-owed : goal.returns-in-Ok-clause-owed
returns-in-Ok-clause-owed g c =
    let b = c.self.inside.barriers in
    subst (λ (m : Marks). Keeps c.args.ino c.args.p (Some Owed) m (marks_of b c.set.new.self)) c.self.view_is
    (owed_kept b c.args.ino c.args.p c.self.inside.numbers c.set.new.self c.set.ensures.set)

pub returns-in-Ok-clause-more : goal.returns-in-Ok-clause-more
returns-in-Ok-clause-more g c =
    let b = c.self.inside.barriers in
    subst (λ (m : Marks). length (marks_of b c.set.new.self) ≡ length m + cond (is_some (mark_at c.args.ino c.args.p m)) 0 1) c.self.view_is
    (one_more b c.self.inside.numbers c.set.new.self c.args.ino c.args.p c.set.ensures.count)

pub returns-in-Err-clause-unmarked : goal.returns-in-Err-clause-unmarked
returns-in-Err-clause-unmarked g c =
    let b = c.self.inside.barriers in
    subst (λ (m : Marks). Keeps c.args.ino c.args.p None m (marks_of b c.remove.new.self)) c.self.view_is
    (keeps_changed (mark_of b) c.args.ino c.args.p None c.self.inside.numbers c.remove.new.self c.remove.ensures.removed)

pub returns-in-Err-clause-fewer : goal.returns-in-Err-clause-fewer
returns-in-Err-clause-fewer g c =
    let b = c.self.inside.barriers in
    subst (λ (m : Marks). length (marks_of b c.remove.new.self) + cond (is_some (mark_at c.args.ino c.args.p m)) 1 0 ≡ length m) c.self.view_is
    (one_fewer b c.self.inside.numbers c.remove.new.self c.args.ino c.args.p c.remove.ensures.count)
