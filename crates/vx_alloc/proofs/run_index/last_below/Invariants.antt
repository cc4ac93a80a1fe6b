use Rattle.std.proofs.Common.{ℕ, ◌-◌, ◌<◌, ◌≤◌, length, get_or}
use Rattle.vx_alloc.specs.declared.run_index.Run.{Run}
use Rattle.vx_alloc.proofs.run_index.last_below.Given as goal

-- the last i runs start at the limit or past it
abbrev pub invariant-loop-i : goal.invariant-loop-i
invariant-loop-i l = (k : ℕ) (d : Run) → length l.runs - l.i ≤ k → k < length l.runs → l.limit ≤ (get_or l.runs k d).start
