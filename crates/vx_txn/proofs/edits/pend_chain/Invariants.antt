use Rattle.std.proofs.Common.{◌≡◌, drop}
use Rattle.vx_filemaps.specs.Settles.{pended, CanWait}
use Rattle.vx_txn.proofs.edits.pend_chain.Given as goal

-- the blocks so far wait, and the others are left
abbrev pub invariant-loop-b : goal.invariant-loop-b
invariant-loop-b l = record {
  left : pended l.place l.blocks l.initial.free ≡ pended l.place (drop l.b-index l.blocks) l.free;
  used : CanWait l.place (drop l.b-index l.blocks) l.free;
}
