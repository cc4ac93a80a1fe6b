use Rattle.std.proofs.Common.{◌≡◌, ◌+◌, ◌-◌, ◌≤◌, length}
use Rattle.std.specs.List.{AllByRecursion}
use Rattle.vx_layout.specs.Dirs.{entries_bytes, IsEntry}
use Rattle.vx_codec.proofs.DirLaws.{StandBehind}
use Rattle.vx_codec.proofs.directory.entries_of.Given as goal

abbrev pub invariant-loop : goal.invariant-loop
invariant-loop l = record {
  long : length l.value ≡ l.counter;
  size : l.at ≡ 4 + length (entries_bytes l.value);
  within : l.at ≤ length l.bytes;
  each : AllByRecursion IsEntry l.value;
  stand : StandBehind l.count l.value (l.count - l.counter) l.at l.bytes;
}
