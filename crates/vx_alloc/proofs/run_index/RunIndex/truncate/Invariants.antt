use Rattle.std.proofs.Common.{◌≡◌, ◌-◌, take}
use Rattle.vx_alloc.proofs.run_index.RunIndex.truncate.Given as goal

-- the last runs are gone
abbrev pub invariant-loop-gone : goal.invariant-loop-gone
invariant-loop-gone l = record {
  runs : l.self.runs ≡ take (l.count - l.gone) l.fn.self.runs;
  room : l.self.room ≡ l.fn.self.room;
}
