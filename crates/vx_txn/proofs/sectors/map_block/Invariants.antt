use Rattle.std.proofs.Common.{◌≡◌, take, drop, length}
use Rattle.vx_extents.specs.Extents.{stretches}
use Rattle.vx_txn.proofs.sectors.map_block.Given as goal

-- the extents so far
abbrev pub invariant-loop-i : goal.invariant-loop-i
invariant-loop-i l = record {
  same : take l.i l.extents ≡ take l.i (drop 6 (stretches l.pages.pages));
  len : length l.extents ≡ 63;
}
