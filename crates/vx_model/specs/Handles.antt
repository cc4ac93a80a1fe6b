-- Open handles.
use Rattle.std.specs.Prelude.{ℕ, Bool, ◌==◌, nat_lt}
use Rattle.std.specs.List.{count_by}
use Rattle.std.specs.FinMap as map
use Rattle.vx_model.specs.Tree.{HandleKey, Opened, Tree}

abbrev pub key_of : (session handle : ℕ) → HandleKey
key_of session handle = record { session = session; handle = handle }

-- how many handles are open on a file
abbrev pub open_on : Tree → ℕ → ℕ
open_on t ino = count_by (λ (o : Opened). o.ino == ino) (map.values t.handles)

abbrev pub is_open : Tree → ℕ → Bool
is_open t ino = nat_lt 0 (open_on t ino)
