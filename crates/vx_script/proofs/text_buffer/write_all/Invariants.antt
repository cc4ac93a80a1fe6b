use Rattle.std.proofs.Common.{[], length}
use Rattle.vx_script.specs.Puts.{PutsAll}
use Rattle.vx_script.proofs.text_buffer.write_all.Given as goal

-- the rest of the piece is left
abbrev pub invariant-loop-rest : goal.invariant-loop-rest
invariant-loop-rest g l =
    PutsAll (g.K.Sink.taken l.fn.out) (g.K.Sink.taken l.out) (g.K.Sink.fault_count l.fn.out) (g.K.Sink.fault_count l.out) l.piece l.rest []

abbrev pub decreases-loop-rest : goal.decreases-loop-rest
decreases-loop-rest g l = length l.rest
