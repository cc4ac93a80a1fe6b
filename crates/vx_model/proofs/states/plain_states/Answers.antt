use Rattle.vx_model.proofs.SettledTrees as trees
use Rattle.vx_model.proofs.states.plain_states.Goals as goal

pub returns-clause-held : goal.returns-clause-held
returns-clause-held c = trees.plain_held

pub returns-clause-on_device : goal.returns-clause-on_device
returns-clause-on_device c = trees.plain_on_device

pub returns-clause-closed : goal.returns-clause-closed
returns-clause-closed c = trees.plain_closed

pub returns-clause-last : goal.returns-clause-last
returns-clause-last c = trees.plain_last
