use Rattle.std.proofs.Common.{◌≡◌, drop}
use Rattle.vx_txn.specs.Loads.{AreNext, with_extents}
use Rattle.vx_txn.proofs.directory.load_extents.Given as goal

-- the extents so far are taken, and the others are left
abbrev pub invariant-loop-extent : goal.invariant-loop-extent
invariant-loop-extent l = record {
  left : with_extents l.extents l.initial.pages ≡ with_extents (drop l.extent-index l.extents) l.pages;
  next : AreNext (drop l.extent-index l.extents) l.pages.space.present;
}
