use Rattle.std.proofs.Common.{arith, ap, ℕ, take}
use Rattle.vx_run.proofs.Reading.{read_full, read_to_end}
use Rattle.vx_run.proofs.read.read_all.Goals as goal
use Rattle.vx_run.proofs.read.read_all.Goals.{else-loop-piece-test, then-loop-piece-test+in-Ok-eq0}

pub returns-clause-bytes : goal.returns-clause-bytes
returns-clause-bytes g c = elim c.loop-piece-test.branch [
  | else-loop-piece-test w ↦ read_full (g.S.Source.left c.args.source.now) (g.S.Source.left c.loop-piece.source) c.loop-piece.bytes.items c.loop-piece.invariant.read
      (omega (arith, c.loop-piece.invariant.most, c.loop-piece.bytes.ok.0)) (omega (arith, w.loop-piece-test.false, c.len.ensures, c.loop-piece.bytes.ok.0))
  | then-loop-piece-test+in-Ok-eq0 w ↦ read_to_end (g.S.Source.left c.args.source.now) (g.S.Source.left c.loop-piece.source) (g.S.Source.left w.read_piece.new.source) c.loop-piece.bytes.items _ c.loop-piece.invariant.read
      (omega (arith, c.loop-piece.invariant.most, c.loop-piece.bytes.ok.0)) (ap (λ (n : ℕ). take n w.read_piece.new.piece) w.in-Ok-eq0.field-0-test) w.in-Ok-eq0.ensures.bytes (w.in-Ok-eq0.ensures.end w.in-Ok-eq0.field-0-test)
]
