-- The lines of the sessions of a script.
use Rattle.std.specs.Prelude.{ℕ, List, [], slice_get, unwrap_or, Option}
use Rattle.vx_base.specs.declared.call.Call.{Call}

-- the lines of a session
unfoldable pub lines_of : List (List Call) → ℕ → List Call
lines_of lines session = unwrap_or (slice_get lines session) []

-- a session's line after so many, if it has so many
unfoldable pub line_after : List (List Call) → (session answered : ℕ) → Option Call
line_after lines session answered = slice_get (lines_of lines session) answered
