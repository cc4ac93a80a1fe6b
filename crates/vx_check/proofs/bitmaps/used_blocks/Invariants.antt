use Rattle.std.proofs.Common.{◌≡◌, ◌<◌, ◌+◌, ℕ, false, get_or, length}
use Rattle.std.specs.Prelude.{nat_lt, ◌||◌}
use Rattle.vx_layout.specs.Places.{unit_block}
use Rattle.vx_check.proofs.bitmaps.used_blocks.Given as goal

abbrev pub invariant-loop-j : goal.invariant-loop-j
invariant-loop-j l = record {
  long : length l.used ≡ 4096;
  bits : (k : ℕ) → k < l.j → get_or l.used k false ≡ (nat_lt k 33 || get_or l.marks (unit_block l.volume l.u + k) false);
}
