use Rattle.vx_dir.proofs.Sorting.{one_result}
use Rattle.vx_dir.proofs.laws.one_tightening.Goals as goal

pub returns : goal.returns
returns c = one_result
