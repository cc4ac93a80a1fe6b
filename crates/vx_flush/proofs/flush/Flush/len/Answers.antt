use Rattle.std.proofs.Common.{subst}
use Rattle.vx_flush.specs.Entries.{IsRising}
use Rattle.vx_flush.specs.Marks.{Marks, mark_of}
use Rattle.vx_flush.proofs.Marking.{rising_changed}
use Rattle.vx_flush.proofs.flush.Flush.len.Goals as goal

pub returns-clause-rising : goal.returns-clause-rising
returns-clause-rising c = subst (λ (m : Marks). IsRising m) c.self.view_is (rising_changed (mark_of c.self.inside.barriers) c.self.inside.numbers c.len.ensures.rising)
