-- Sectors of the log as writes.
use Rattle.std.specs.Prelude.{◌+◌, ℕ, List, [], ◌∷◌}
use Rattle.vx_layout.specs.LogForms.{log_at}

-- sectors of the log of n sectors, as writes from a position on
abbrev pub log_writes : ℕ → ℕ → List (List ℕ) → List (ℕ × List ℕ)
log_writes n position [] = []
log_writes n position (x ∷ xs) = (log_at n position, x) ∷ log_writes n (position + 1) xs
