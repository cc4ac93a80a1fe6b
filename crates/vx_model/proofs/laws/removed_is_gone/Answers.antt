use Rattle.vx_model.proofs.NameChanges.{unlink_removes, rmdir_removes}
use Rattle.vx_model.proofs.laws.removed_is_gone.Goals as goal

pub returns-clause-unlink : goal.returns-clause-unlink
returns-clause-unlink c = unlink_removes

pub returns-clause-rmdir : goal.returns-clause-rmdir
returns-clause-rmdir c = rmdir_removes
