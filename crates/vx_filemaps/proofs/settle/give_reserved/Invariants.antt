use Rattle.std.proofs.Common.{◌≡◌, ◌+◌, ◌-◌}
use Rattle.vx_filemaps.specs.Settles.{none_at, reserved_at, without_pages, CanGo}
use Rattle.vx_filemaps.proofs.settle.give_reserved.Given as goal

-- the reserved pages so far are gone, and the others are left
abbrev pub invariant-loop-i : goal.invariant-loop-i
invariant-loop-i l = record {
  left : without_pages 0 none_at (reserved_at l.present.pages) l.n l.from l.initial.free ≡ without_pages 0 none_at (reserved_at l.present.pages) (l.n - l.i) (l.from + l.i) l.free;
  used : CanGo 0 none_at (reserved_at l.present.pages) (l.n - l.i) (l.from + l.i) l.free;
}
