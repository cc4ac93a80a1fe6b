use Rattle.std.proofs.Common.{◌*◌, take}
use Rattle.vx_txn.specs.Staged.{Adds, HasBlock, EachPlace}
use Rattle.vx_txn.proofs.sectors.put_blocks.Given as goal

abbrev pub invariant-loop-place : goal.invariant-loop-place
invariant-loop-place l = record {
  adds : Adds l.meta (2 * l.place-index) l.fn.batch l.batch;
  has : EachPlace (HasBlock l.meta l.batch) (take l.place-index l.blocks);
}
