use Rattle.vx_model.proofs.Replaying as laws
use Rattle.vx_model.proofs.reads.reads_once.Goals as goal

pub returns : goal.returns
returns c = laws.reads_once
