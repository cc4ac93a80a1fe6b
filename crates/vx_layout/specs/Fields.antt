-- Numbers at places of a list of bytes.
use Rattle.std.specs.Prelude.{ℕ, List, drop}
use Rattle.std.specs.Int.{Width, from_le_bytes}

-- the number of width w that stands at `at`
unfoldable pub number_at : Width → ℕ → List ℕ → ℕ
number_at w at bytes = from_le_bytes w (drop at bytes)
