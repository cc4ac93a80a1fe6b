use Rattle.std.proofs.Common.{◌+◌, ℕ, List, length, sym, subst}
use Rattle.std.specs.Prelude.{OnOk}
use Rattle.vx_layout.specs.declared.superblock.Super.{Super}
use Rattle.vx_dev.specs.Moments.{Told, Passed}
use Rattle.vx_model.specs.Replays.{ReplaysAs, IsLeft}
use Rattle.vx_replay.specs.Stopped.{IsEmptied}
use Rattle.vx_replay.proofs.Steps.{told_then}
use Rattle.vx_replay.proofs.writing.carry.Goals as goal

pub returns-clause-kept : goal.returns-clause-kept
returns-clause-kept g c = λ t tree h.
    let d0 = g.D.BlockDev.state c.args.dev.now in
    let d1 = g.D.BlockDev.state c.empty_log.new.dev in
    let d2 = g.D.BlockDev.state c.mark_clean.new.dev in
    let emptied : Told d1 (IsEmptied c.empty_log.new.stopped.superblock tree) =
    subst (λ (s : Super). Told d1 (IsEmptied s tree)) (sym c.empty_log.ensures.superblock) (c.in_ok-empty_log.ensures.emptied t tree h) in
    told_then (length t.ops + 1) (λ (other : ℕ → List ℕ). ReplaysAs d0.size other tree) d1 d2 (c.empty_log.ensures.kept t tree h)
    (subst (λ (size : ℕ). Passed (λ (other : ℕ → List ℕ). ReplaysAs size other tree) d1 d2) c.empty_log.ensures.size (c.mark_clean.ensures.passed tree emptied))

pub returns-clause-left : goal.returns-clause-left
returns-clause-left g c = λ t tree h.
    let d1 = g.D.BlockDev.state c.empty_log.new.dev in
    let d2 = g.D.BlockDev.state c.mark_clean.new.dev in
    subst (λ (size : ℕ). OnOk c.mark_clean.result (Told d2 (IsLeft size tree))) c.empty_log.ensures.size
    (c.mark_clean.ensures.left tree (subst (λ (s : Super). Told d1 (IsEmptied s tree)) (sym c.empty_log.ensures.superblock) (c.in_ok-empty_log.ensures.emptied t tree h)))
