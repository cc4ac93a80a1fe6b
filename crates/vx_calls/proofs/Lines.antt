-- A session's line that is there.
use Rattle.std.proofs.Common.{◌≡◌, ℕ, zero, suc, ◌<◌, List, [], ◌∷◌, length, Option, Some, arith}
use Rattle.std.specs.Prelude.{slice_get}
use Rattle.vx_base.specs.declared.call.Call.{Call}
use Rattle.vx_base.specs.Lines.{lines_of, line_after}
use Rattle.vx_calls.specs.Calls.{IsBuilt}

below : (xs : List Call) (i : ℕ) → IsBuilt (slice_get xs i) → i < length xs
below [] i is = absurd is
below (x ∷ xs) zero is = omega arith
below (x ∷ xs) (suc i) is = let rest = below xs i is in omega (arith, rest)

pub is_there : (lines : List (List Call)) (session answered : ℕ) → IsBuilt (line_after lines session answered) → answered < length (lines_of lines session)
unfolding line_after
is_there lines session answered is = below (lines_of lines session) answered is

pub same_line : {x : Option Call} {a b : Call} → x ≡ Some a → x ≡ Some b → a ≡ b
same_line one two = cc
