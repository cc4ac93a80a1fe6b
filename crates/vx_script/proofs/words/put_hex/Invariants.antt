use Rattle.std.proofs.Common.{take}
use Rattle.vx_script.specs.Puts.{PutsAll}
use Rattle.vx_script.specs.Words.{hex_text}
use Rattle.vx_script.proofs.words.put_hex.Given as goal

-- what was put so far
abbrev pub invariant-loop-b : goal.invariant-loop-b
invariant-loop-b g l =
    PutsAll (g.K.Sink.taken l.fn.out) (g.K.Sink.taken l.out) (g.K.Sink.fault_count l.fn.out) (g.K.Sink.fault_count l.out) l.fn.buffer l.buffer (hex_text (take l.b-index l.bytes))
