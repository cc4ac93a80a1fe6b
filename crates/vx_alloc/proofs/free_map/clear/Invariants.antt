use Rattle.std.proofs.Common.{◌≡◌}
use Rattle.vx_alloc.specs.FreeMaps.{cleared}
use Rattle.vx_alloc.proofs.free_map.clear.Given as goal

abbrev pub invariant-loop-k : goal.invariant-loop-k
invariant-loop-k l = l.bits.items ≡ cleared l.initial.bits.items l.from l.k
