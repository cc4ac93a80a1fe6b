use Rattle.vx_dev.proofs.RunLemmas.{ran_none, ran_more, ran_nothing, broke_off, puts-push, run_settles}
use Rattle.vx_dev.proofs.laws.run_laws.Goals as goal

pub returns : goal.returns
returns c = record { none = ran_none; more = ran_more; nothing = ran_nothing; broke = broke_off; push = puts-push; settles = run_settles }
