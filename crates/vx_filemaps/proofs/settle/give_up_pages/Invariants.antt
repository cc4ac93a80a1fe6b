use Rattle.std.proofs.Common.{◌≡◌, ◌+◌, ◌-◌}
use Rattle.vx_extents.specs.Extents.{mapped_at}
use Rattle.vx_filemaps.specs.Settles.{without_pages, CanGo}
use Rattle.vx_filemaps.proofs.settle.give_up_pages.Given as goal

-- the pages so far are gone, and the others are left
abbrev pub invariant-loop-i : goal.invariant-loop-i
invariant-loop-i l = record {
  left : without_pages l.place (mapped_at l.settled.pages) (mapped_at l.present.pages) l.n l.from l.initial.free ≡ without_pages l.place (mapped_at l.settled.pages) (mapped_at l.present.pages) (l.n - l.i) (l.from + l.i) l.free;
  used : CanGo l.place (mapped_at l.settled.pages) (mapped_at l.present.pages) (l.n - l.i) (l.from + l.i) l.free;
}
