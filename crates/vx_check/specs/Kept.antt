-- What was read of a device, as it is kept.
use Rattle.std.specs.Prelude.{ℕ, zero, suc, List, Option, None, slice_get}

-- what a place stands for: 0 for no bytes, and any other for those at the index before it
abbrev pub bytes_at : List (List ℕ) → ℕ → Option (List ℕ)
bytes_at sectors zero = None
bytes_at sectors (suc i) = slice_get sectors i
