use Rattle.std.proofs.Common.{◌≡◌, ◌+◌, ◌*◌, ◌<◌, ℕ, length, get_or}
use Rattle.std.specs.Int.{w32}
use Rattle.vx_layout.specs.Fields.{number_at}
use Rattle.vx_log.proofs.read.names_of.Given as goal

-- the numbers so far
abbrev pub invariant-loop-i : goal.invariant-loop-i
invariant-loop-i l = record {
  long : length l.homes ≡ 124;
  count : l.count ≡ l.count-2;
  each : (k : ℕ) → k < l.i → get_or l.homes k 0 ≡ number_at w32 (16 + 4 * k) l.sector;
}
