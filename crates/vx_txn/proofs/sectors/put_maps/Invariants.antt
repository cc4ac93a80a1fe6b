use Rattle.std.proofs.Common.{◌*◌, take}
use Rattle.vx_txn.specs.Staged.{Adds, HasMaps, Each}
use Rattle.vx_txn.proofs.sectors.put_maps.Given as goal

abbrev pub invariant-loop-ino : goal.invariant-loop-ino
invariant-loop-ino l = record {
  adds : Adds l.meta (2 * l.ino-index) l.fn.batch l.batch;
  has : Each (HasMaps l.meta l.batch) (take l.ino-index l.inodes);
}
