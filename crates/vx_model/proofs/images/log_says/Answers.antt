use Rattle.vx_model.proofs.Standing as laws
use Rattle.vx_model.proofs.images.log_says.Goals as goal

pub returns-clause-stands : goal.returns-clause-stands
returns-clause-stands c = laws.log_stands

pub returns-clause-next : goal.returns-clause-next
returns-clause-next c = laws.says_on

pub returns-clause-covered : goal.returns-clause-covered
returns-clause-covered c = laws.covered
