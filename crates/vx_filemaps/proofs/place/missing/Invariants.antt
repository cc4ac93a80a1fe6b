use Rattle.std.proofs.Common.{◌≡◌, ◌+◌, ◌-◌, ◌≤◌}
use Rattle.vx_space.specs.Placing.{missing_in}
use Rattle.vx_filemaps.proofs.place.missing.Given as goal

-- those so far are counted
abbrev pub invariant-loop-i : goal.invariant-loop-i
invariant-loop-i l = record {
  counted : l.count + missing_in l.pages.pages (l.from + l.i) (l.n - l.i) ≡ missing_in l.pages.pages l.from l.n;
  few : l.count ≤ l.i;
}
