use Rattle.std.proofs.Common.{◌≡◌, length, get_or, false}
use Rattle.vx_layout.specs.Bits.{bits_from}
use Rattle.vx_codec.proofs.bitmap.write_bits.Given as goal

abbrev pub invariant-loop-i : goal.invariant-loop-i
invariant-loop-i l = record { len : length l.sheet ≡ l.i; text : l.sheet ≡ bits_from (λ j. get_or l.used j false) 0 l.i }
