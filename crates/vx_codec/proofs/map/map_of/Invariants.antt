use Rattle.std.proofs.Common.{◌≡◌}
use Rattle.vx_layout.specs.Maps.{map_with}
use Rattle.vx_codec.proofs.map.map_of.Given as goal

abbrev pub invariant-loop-index : goal.invariant-loop-index
invariant-loop-index l = l.value ≡ map_with l.index l.bytes
