use Rattle.std.proofs.Common.{◌≡◌, ◌≤◌, ℕ, false, length, get_or, nat_lt}
use Rattle.vx_mkfs.proofs.formatting.new_bitmap.Given as goal

abbrev pub invariant-loop-j : goal.invariant-loop-j
invariant-loop-j l = record {
  len : length l.used ≡ 4096;
  low : l.j ≤ 33;
  is : (k : ℕ) → get_or l.used k false ≡ nat_lt k l.j;
}
