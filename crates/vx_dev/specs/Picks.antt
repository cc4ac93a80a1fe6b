-- Which of a sector's possible values a seed picks.
use Rattle.std.specs.Prelude.{◌==◌, ◌<◌, ◌+◌, ◌-◌, ◌*◌, ◌/◌, ◌%◌, ◌^◌, ℕ, List, [], ◌∷◌, ◌++◌, length, get_or, if◌then◌else◌, Contains}
use Rattle.vx_dev.specs.declared.device.Operation.{Operation}
use Rattle.vx_dev.specs.declared.device.Operation.TheVariants.{Put, Barrier}

-- each write is to one of n sectors
abbrev pub IsWithin : ℕ → List Operation → Type 0
IsWithin n ops = (s : ℕ) (bytes : List ℕ) → Contains ops (Put s bytes) → s < n

-- what an operation puts into the sector s
unfoldable pub put_by : ℕ → Operation → List (List ℕ)
put_by s (Put t bytes) = if t == s then bytes ∷ [] else []
put_by s Barrier = []

-- what the operations put into the sector s, oldest first
unfoldable pub put_values : ℕ → List Operation → List (List ℕ)
put_values s [] = []
put_values s (op ∷ ops) = put_by s op ++ put_values s ops

-- the number, from 0, of the one that the seed picks of so many values of the sector s
abbrev pub value_number : ℕ → ℕ → ℕ → ℕ
value_number seed s count = if seed == 0 then count - 1 else if seed == 1 then 0 else (((seed + s) % 2 ^ 64 * 0x9E3779B97F4A7C15) % 2 ^ 64 / 2 ^ 32) % count

-- the value that the seed picks of the values of the sector s, oldest first
abbrev pub picked_value : ℕ → ℕ → List (List ℕ) → List ℕ
picked_value seed s values = get_or values (value_number seed s (length values)) []
