use Rattle.vx_txn.proofs.PendingBlocks.{some_counted}
use Rattle.vx_txn.proofs.meta.Meta.has_pending.Goals as goal

pub returns-clause-some : goal.returns-clause-some
returns-clause-some c = λ s is yes. some_counted c.args.self.now s is c.pending.result c.pending.ensures yes
