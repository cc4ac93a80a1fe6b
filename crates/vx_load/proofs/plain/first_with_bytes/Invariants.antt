use Rattle.std.specs.Prelude.{◌≡◌, ◌<◌, ℕ, true, None, get_or}
use Rattle.vx_load.specs.Plain.{is_plain}
use Rattle.vx_load.proofs.plain.first_with_bytes.Given as goal

-- no inode below n is a file with bytes
abbrev pub invariant-inodes : goal.invariant-inodes
invariant-inodes l = (k : ℕ) → k < l.n → is_plain (get_or l.inodes k None) ≡ true
