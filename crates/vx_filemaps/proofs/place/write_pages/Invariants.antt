use Rattle.std.proofs.Common.{◌≡◌, ◌+◌, ◌*◌, ◌-◌, ℕ, List}
use Rattle.vx_alloc.specs.FreeMaps.{FreeMapView}
use Rattle.vx_space.specs.Placing.{Request, write_page, each_page}
use Rattle.vx_filemaps.specs.FileMaps.{volume_in, filling_in, IsFor, IsReady, IsTaken, IsPast}
use Rattle.vx_filemaps.proofs.place.write_pages.Given as goal

-- the pages so far are placed, and the others are left
abbrev pub invariant-loop-i : goal.invariant-loop-i
invariant-loop-i l = record {
  left : (r : Request) (maps : List ℕ) → IsFor r l.initial.free l.first
      → each_page (write_page r) l.n l.from (filling_in l.initial.free l.initial.pages.pages maps) ≡ each_page (write_page r) (l.n - l.i) (l.from + l.i) (filling_in l.free l.pages.pages maps);
  taken : (base : FreeMapView) → IsTaken base l.initial.taken.items l.initial.free → IsTaken base l.taken.items l.free;
  past : IsPast (2 * l.i) l.initial.pages l.pages;
  ready : IsReady l.free;
  volume : volume_in l.free ≡ volume_in l.initial.free;
}
