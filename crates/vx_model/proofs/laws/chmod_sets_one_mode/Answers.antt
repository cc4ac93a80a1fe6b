use Rattle.vx_model.proofs.LinkChanges.{chmod_sets}
use Rattle.vx_model.proofs.laws.chmod_sets_one_mode.Goals as goal

pub returns : goal.returns
returns c = chmod_sets
