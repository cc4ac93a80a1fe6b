use Rattle.vx_model.proofs.Unused as laws
use Rattle.vx_model.proofs.states.unused_inodes.Goals as goal

pub returns-clause-low : goal.returns-clause-low
returns-clause-low c = laws.unused_low

pub returns-clause-unused : goal.returns-clause-unused
returns-clause-unused c = laws.unused_free
