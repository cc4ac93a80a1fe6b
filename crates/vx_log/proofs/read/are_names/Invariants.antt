use Rattle.std.proofs.Common.{◌+◌, ◌<◌, ℕ, get_or}
use Rattle.vx_layout.specs.LogForms.{IsNameable}
use Rattle.vx_log.proofs.read.are_names.Given as goal

-- the sectors so far
abbrev pub invariant-loop-i : goal.invariant-loop-i
invariant-loop-i l = record {
  each : (k : ℕ) → k < l.i → IsNameable l.sectors l.size (get_or l.homes k 0);
  rising : (k : ℕ) → k + 1 < l.i → get_or l.homes k 0 < get_or l.homes (k + 1) 0;
}
