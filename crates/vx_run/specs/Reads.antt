-- What was read of a script.
use Rattle.std.specs.Prelude.{◌≡◌, ℕ, List, take, Option, IfSome}

-- all bytes that were left, or as many of them as a script may have and one more
abbrev pub HasRead : Option (List ℕ) → List ℕ → Type 0
HasRead left bytes = IfSome left (λ all. bytes ≡ take 4194305 all)
