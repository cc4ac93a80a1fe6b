use Rattle.vx_model.specs.State.{State}
use Rattle.vx_txn.specs.Loads.{IsLoadedTo}
use Rattle.vx_load.specs.Listed.{AreOf}
use Rattle.vx_load.proofs.loading.metadata_of.Given as goal

-- the inodes below n are loaded
abbrev pub invariant-inodes : goal.invariant-inodes
invariant-inodes l = (s : State) → AreOf l.sizes s l.inodes l.contents → IsLoadedTo s l.n l.meta
