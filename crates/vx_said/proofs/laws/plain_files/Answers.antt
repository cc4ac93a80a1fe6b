use Rattle.vx_said.proofs.Plainness.{plain_files}
use Rattle.vx_said.proofs.laws.plain_files.Goals as goal

pub returns : goal.returns
returns c = plain_files c.state_says.ensures
