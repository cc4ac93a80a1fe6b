use Rattle.std.proofs.Common.{◌≡◌, ◌+◌, ◌≤◌, length, take}
use Rattle.std.specs.Prelude.{vec_capacity}
use Rattle.vx_layout.specs.LogForms.{log_sectors}
use Rattle.vx_replay.specs.LogReads.{starts_at}
use Rattle.vx_replay.proofs.load.starts_of.Given as goal

-- the records so far
abbrev pub invariant-loop-record : goal.invariant-loop-record
invariant-loop-record l = record {
  position : l.position ≡ l.tail + length (log_sectors l.tail (take l.record-index l.records));
  starts : l.starts.items ≡ starts_at l.tail (take l.record-index l.records);
  room : l.log_blocks ≤ vec_capacity l.starts;
}
