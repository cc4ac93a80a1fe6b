use Rattle.std.proofs.Common.{ℕ, ◌<◌, length, get_or}
use Rattle.vx_alloc.specs.declared.run_index.Run.{Run}
use Rattle.vx_alloc.proofs.Counts.{IsCountedTo}
use Rattle.vx_alloc.proofs.run_index.count_below.Given as goal

abbrev pub invariant-loop-k : goal.invariant-loop-k
invariant-loop-k l = record {
  counted : IsCountedTo l.runs l.k l.count;
  earlier : (j : ℕ) (d : Run) → j < l.k → j < length l.runs → (get_or l.runs j d).start < l.limit;
}
