use Rattle.vx_model.proofs.NameChanges.{create_creates, mkdir_creates}
use Rattle.vx_model.proofs.laws.created_is_listed.Goals as goal

pub returns-clause-create : goal.returns-clause-create
returns-clause-create c = create_creates

pub returns-clause-mkdir : goal.returns-clause-mkdir
returns-clause-mkdir c = mkdir_creates
