use Rattle.std.proofs.Common.{◌≡◌, ◌-◌, List}
use Rattle.vx_layout.specs.Places.{Volume}
use Rattle.vx_alloc.specs.FreeMaps.{FreeMapView}
use Rattle.vx_extents.specs.Extents.{Mapped}
use Rattle.vx_space.specs.Placing.{place_maps}
use Rattle.vx_filemaps.specs.FileMaps.{volume_in, filling_in, IsReady, IsTaken, Begins}
use Rattle.vx_filemaps.proofs.place.place_maps.Given as goal

-- the map blocks so far are placed, and the others are left
abbrev pub invariant-loop-i : goal.invariant-loop-i
invariant-loop-i l = record {
  left : (v : Volume) (pages : List Mapped) → v ≡ volume_in l.initial.free
      → place_maps v l.more (filling_in l.initial.free pages l.initial.chain.items) ≡ place_maps v (l.more - l.i) (filling_in l.free pages l.chain.items);
  taken : (base : FreeMapView) → IsTaken base l.initial.taken.items l.initial.free → IsTaken base l.taken.items l.free;
  begins : Begins l.initial.chain.items l.chain.items;
  ready : IsReady l.free;
  volume : volume_in l.free ≡ volume_in l.initial.free;
}
