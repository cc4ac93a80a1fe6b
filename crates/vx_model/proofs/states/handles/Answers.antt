use Rattle.vx_model.proofs.Handles as handles
use Rattle.vx_model.proofs.states.handles.Goals as goal

pub returns-clause-closed : goal.returns-clause-closed
returns-clause-closed c = handles.closed_is

pub returns-clause-unopened : goal.returns-clause-unopened
returns-clause-unopened c = handles.unopened_is
