use Rattle.vx_model.proofs.IntoItself.{refused_into, only_into}
use Rattle.vx_model.proofs.laws.nothing_goes_into_itself.Goals as goal

pub returns-clause-refused : goal.returns-clause-refused
returns-clause-refused c = refused_into

pub returns-clause-only : goal.returns-clause-only
returns-clause-only c = only_into
