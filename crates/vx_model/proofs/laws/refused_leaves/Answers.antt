use Rattle.vx_model.proofs.Replies.{refused}
use Rattle.vx_model.proofs.laws.refused_leaves.Goals as goal

pub returns : goal.returns
returns c = refused
