use Rattle.vx_model.proofs.Loops.{step_loops, history_loops}
use Rattle.vx_model.proofs.laws.loops.Goals as goal

pub returns-clause-step : goal.returns-clause-step
returns-clause-step c = step_loops

pub returns-clause-history : goal.returns-clause-history
returns-clause-history c = history_loops
