use Rattle.std.proofs.Common.{take}
use Rattle.vx_script.specs.Puts.{PutsAll}
use Rattle.vx_script.specs.Words.{spaced_words}
use Rattle.vx_script.proofs.words.put_words.Given as goal

-- what was put so far
abbrev pub invariant-loop-word : goal.invariant-loop-word
invariant-loop-word g l =
    PutsAll (g.K.Sink.taken l.fn.out) (g.K.Sink.taken l.out) (g.K.Sink.fault_count l.fn.out) (g.K.Sink.fault_count l.out) l.fn.buffer l.buffer (spaced_words (take l.word-index l.words))
