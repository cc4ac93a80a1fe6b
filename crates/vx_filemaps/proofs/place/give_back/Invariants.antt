use Rattle.std.proofs.Common.{◌≡◌, ◌+◌, length}
use Rattle.vx_alloc.specs.FreeMaps.{FreeMapView}
use Rattle.vx_filemaps.specs.FileMaps.{IsReady, IsTaken}
use Rattle.vx_filemaps.proofs.place.give_back.Given as goal

-- the blocks that are left were taken
abbrev pub invariant-loop-i : goal.invariant-loop-i
invariant-loop-i l = record {
  some : (base : FreeMapView) × (IsReady base × IsTaken base l.taken.items l.free);
  each : (base : FreeMapView) → IsReady base → IsTaken base l.initial.taken.items l.initial.free → IsTaken base l.taken.items l.free;
  count : length l.taken.items + l.i ≡ length l.initial.taken.items;
}
