use Rattle.std.proofs.Common.{◌≡◌, drop}
use Rattle.vx_model.specs.State.{State}
use Rattle.vx_model.specs.Walks.{root, walk}
use Rattle.vx_txn.specs.Metas.{Stands}
use Rattle.vx_txn.proofs.walk.walk.Given as goal

-- the rest of the walk from here is the whole walk
abbrev pub invariant-loop-name : goal.invariant-loop-name
invariant-loop-name l = (s : State) → Stands l.meta s → walk s.tree.nodes l.at (drop l.name-index l.names) ≡ walk s.tree.nodes root l.names
