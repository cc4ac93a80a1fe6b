use Rattle.std.proofs.Common.{◌≡◌, ◌≤◌, [], length, take}
use Rattle.vx_replay.specs.LogReads.{image_count}
use Rattle.vx_replay.specs.Stopped.{noted_all}
use Rattle.vx_replay.proofs.load.homes_of.Given as goal

-- the records so far
abbrev pub invariant-loop-record : goal.invariant-loop-record
invariant-loop-record l = record {
  homes : l.homes ≡ noted_all [] (take l.record-index l.records);
  few : length l.homes ≤ image_count (take l.record-index l.records);
}
