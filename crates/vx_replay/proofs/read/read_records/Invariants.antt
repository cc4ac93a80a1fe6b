use Rattle.std.proofs.Common.{◌≤◌, ◌-◌}
use Rattle.vx_dev.specs.Tape.{Tape, now}
use Rattle.vx_layout.specs.LogForms.{log_sectors}
use Rattle.vx_replay.specs.LogReads.{Shows, IsRead, StandThere, AreRecords}
use Rattle.vx_replay.proofs.read.read_records.Given as goal

-- the records up to this position
abbrev pub invariant-loop-position : goal.invariant-loop-position
invariant-loop-position g l = record {
  read : IsRead (g.D.BlockDev.state l.fn.dev) (g.D.BlockDev.state l.dev);
  within : l.position ≤ l.ends.head;
  are : AreRecords l.sectors (g.D.BlockDev.state l.fn.dev).size l.ends.tail l.position l.records.items;
  stand : (t : Tape) → Shows (g.D.BlockDev.state l.fn.dev) t → StandThere l.sectors (now t) l.ends.tail (log_sectors l.ends.tail l.records.items);
}

abbrev pub decreases-loop-position : goal.decreases-loop-position
decreases-loop-position g l = l.ends.head - l.position
