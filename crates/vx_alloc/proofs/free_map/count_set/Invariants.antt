use Rattle.std.proofs.Common.{◌≡◌, ◌≤◌, take}
use Rattle.std.specs.List.{count_by}
use Rattle.vx_alloc.proofs.free_map.count_set.Given as goal

abbrev pub invariant-loop-bit : goal.invariant-loop-bit
invariant-loop-bit l = record {
  counted : l.count ≡ count_by (λ bit. bit) (take l.bit-index l.bits);
  few : l.count ≤ l.bit-index;
}
