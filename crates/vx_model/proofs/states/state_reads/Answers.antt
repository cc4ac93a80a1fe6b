use Rattle.vx_model.proofs.SettledTrees as trees
use Rattle.vx_model.proofs.StateReads as laws
use Rattle.vx_model.proofs.states.state_reads.Goals as goal

pub returns-clause-reads : goal.returns-clause-reads
returns-clause-reads c = λ s image t is stands settled. laws.state_reads c.state_says.ensures s image (record { laid_out = is; stands = stands }) t settled

pub returns-clause-tree : goal.returns-clause-tree
returns-clause-tree c = λ s data_at is. (trees.settled_tree s is data_at, trees.settled_tree_is s is data_at)

pub returns-clause-shape : goal.returns-clause-shape
returns-clause-shape c = trees.settled_shape

pub returns-clause-plain : goal.returns-clause-plain
returns-clause-plain c = trees.plain_settled

pub returns-clause-own : goal.returns-clause-own
returns-clause-own c s data_at t is plain settled = trees.settled_once s data_at t s.tree settled (trees.plain_settled s data_at is plain)
