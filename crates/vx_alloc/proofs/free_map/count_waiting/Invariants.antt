use Rattle.std.proofs.Common.{◌≡◌, ◌≤◌, take}
use Rattle.std.specs.List.{count_by}
use Rattle.std.specs.Option.{is_some}
use Rattle.vx_alloc.proofs.free_map.count_waiting.Given as goal

abbrev pub invariant-loop-place : goal.invariant-loop-place
invariant-loop-place l = record {
  counted : l.count ≡ count_by is_some (take l.place-index l.places);
  few : l.count ≤ l.place-index;
}
