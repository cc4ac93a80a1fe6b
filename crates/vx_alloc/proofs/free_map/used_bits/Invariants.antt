use Rattle.std.proofs.Common.{◌≡◌, ℕ, ◌<◌, false, length, get_or}
use Rattle.vx_alloc.proofs.UsedBits.{is_bit}
use Rattle.vx_alloc.proofs.free_map.used_bits.Given as goal

abbrev pub invariant-loop-j : goal.invariant-loop-j
invariant-loop-j l = record {
  len : length l.used ≡ 4096;
  bits : (k : ℕ) → k < l.j → get_or l.used k false ≡ is_bit l.free l.pending l.lead k;
}
