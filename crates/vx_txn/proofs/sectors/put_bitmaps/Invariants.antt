use Rattle.std.proofs.Common.{take}
use Rattle.vx_txn.specs.Staged.{Adds, HasBitmap, Each}
use Rattle.vx_txn.proofs.sectors.put_bitmaps.Given as goal

abbrev pub invariant-loop-unit : goal.invariant-loop-unit
invariant-loop-unit l = record {
  adds : Adds l.meta l.unit-index l.fn.batch l.batch;
  has : Each (HasBitmap l.meta l.batch) (take l.unit-index l.units);
}
