use Rattle.std.proofs.Common.{sym, ap, ◌∙◌}
use Rattle.vx_flush.specs.Marks.{Marks, mark_at, is_stable}
use Rattle.vx_flush.proofs.Marking.{stable_found, stable_missed}
use Rattle.vx_flush.proofs.flush.Flush.is_stable.Goals as goal

pub returns-in-Some : goal.returns-in-Some
returns-in-Some c =
    stable_found c.self.inside.barriers c.self.inside.numbers c.args.ino c.args.p c.in-Some.number (sym c.in-Some.ensures)
    ∙ ap (λ (m : Marks). is_stable (mark_at c.args.ino c.args.p m)) c.self.view_is

pub returns-in-None : goal.returns-in-None
returns-in-None c =
    stable_missed c.self.inside.barriers c.self.inside.numbers c.args.ino c.args.p (sym c.in-None.ensures)
    ∙ ap (λ (m : Marks). is_stable (mark_at c.args.ino c.args.p m)) c.self.view_is
