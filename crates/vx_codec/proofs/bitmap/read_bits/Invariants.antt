use Rattle.std.proofs.Common.{◌≡◌, ℕ, ◌<◌, length, get_or, false}
use Rattle.vx_layout.specs.Bits.{is_set}
use Rattle.vx_codec.proofs.bitmap.read_bits.Given as goal

abbrev pub invariant-loop-j : goal.invariant-loop-j
invariant-loop-j l = record { len : length l.used ≡ 4096; bits : (k : ℕ) → k < l.j → get_or l.used k false ≡ is_set l.sector k }
