use Rattle.std.proofs.Common.{take}
use Rattle.std.specs.Prelude.{flat_map}
use Rattle.vx_script.specs.Puts.{PutsAll}
use Rattle.vx_script.specs.Words.{spaced_name}
use Rattle.vx_script.proofs.replies.put_names.Given as goal

-- what was put so far
abbrev pub invariant-loop-name : goal.invariant-loop-name
invariant-loop-name g l =
    PutsAll (g.K.Sink.taken l.fn.out) (g.K.Sink.taken l.out) (g.K.Sink.fault_count l.fn.out) (g.K.Sink.fault_count l.out) l.fn.buffer l.buffer (flat_map spaced_name (take l.name-index l.names))
