-- How the bitmap of a unit is spelled.
use Rattle.std.specs.Prelude.{ℕ, zero, suc, ◌+◌, ◌*◌, ◌/◌, ◌%◌, ◌^◌, ◌==◌, Bool, List, [], ◌∷◌, slice_index, if◌then◌else◌}

abbrev pub bit_value : Bool → ℕ
bit_value b = if b then 1 else 0

-- eight bits, the lowest first
unfoldable pub bit_byte : (ℕ → Bool) → ℕ → ℕ
bit_byte f i =
    bit_value (f i) + 2 * bit_value (f (i + 1)) + 4 * bit_value (f (i + 2)) + 8 * bit_value (f (i + 3))
    + 16 * bit_value (f (i + 4)) + 32 * bit_value (f (i + 5)) + 64 * bit_value (f (i + 6)) + 128 * bit_value (f (i + 7))

-- n bytes of bits, from bit i on
unfoldable pub bits_from : (ℕ → Bool) → ℕ → ℕ → List ℕ
bits_from f i zero = []
bits_from f i (suc n) = bit_byte f i ∷ bits_from f (i + 8) n

-- a sector that has bit j set where f says so of j
unfoldable pub bits_bytes : (ℕ → Bool) → List ℕ
bits_bytes f = bits_from f 0 512

-- bit j of a sector
abbrev pub is_set : List ℕ → ℕ → Bool
is_set s j = slice_index s (j / 8) / 2 ^ (j % 8) % 2 == 1
