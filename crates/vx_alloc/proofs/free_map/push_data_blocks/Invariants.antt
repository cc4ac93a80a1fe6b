use Rattle.std.proofs.Common.{◌≡◌, ◌≤◌, ◌+◌, ◌++◌, vec_len}
use Rattle.std.specs.Vec.{vec_capacity}
use Rattle.vx_alloc.specs.FreeMaps.{data_bits}
use Rattle.vx_alloc.proofs.free_map.push_data_blocks.Given as goal

-- the blocks so far, and no less room
abbrev pub invariant-loop-i : goal.invariant-loop-i
invariant-loop-i l = record {
  items : l.bits.items ≡ l.initial.bits.items ++ data_bits l.per_unit l.i;
  len : vec_len l.bits ≡ vec_len l.initial.bits + l.i;
  capacity : vec_capacity l.initial.bits ≤ vec_capacity l.bits;
}
