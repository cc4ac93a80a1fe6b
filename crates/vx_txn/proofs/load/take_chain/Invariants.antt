use Rattle.std.proofs.Common.{◌≡◌, drop}
use Rattle.vx_txn.specs.Loads.{CanTake, without_blocks}
use Rattle.vx_txn.proofs.load.take_chain.Given as goal

-- the blocks so far are taken, and the others are left
abbrev pub invariant-loop-b : goal.invariant-loop-b
invariant-loop-b l = record {
  left : without_blocks l.blocks l.initial.free ≡ without_blocks (drop l.b-index l.blocks) l.free;
  free : CanTake (drop l.b-index l.blocks) l.free;
}
