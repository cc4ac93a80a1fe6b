use Rattle.std.proofs.Common.{Some}
use Rattle.vx_txn.proofs.SlotLaws.{at_set, at_others}
use Rattle.vx_txn.proofs.slots.put_at.Goals as goal

pub returns-clause-here : goal.returns-clause-here
returns-clause-here c = at_set c.args.slots.now c.args.at (Some c.args.directory) c.requires

pub returns-clause-others : goal.returns-clause-others
returns-clause-others c = λ n ne. at_others c.args.slots.now c.args.at n _ ne
