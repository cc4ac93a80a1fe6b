use Rattle.std.proofs.Common.{◌≡◌, ◌||◌, ℕ}
use Rattle.vx_alloc.specs.RunIndexes.{covers, is_unit_data}
use Rattle.vx_alloc.proofs.free_map.add_units.Given as goal

-- the data blocks of the units so far
abbrev pub invariant-loop-unit : goal.invariant-loop-unit
invariant-loop-unit l = record {
  added : (i : ℕ) → covers l.runs.runs i ≡ covers l.fn.runs.runs i || is_unit_data l.per_unit l.from l.unit i;
  room : l.runs.room ≡ l.fn.runs.room;
}
