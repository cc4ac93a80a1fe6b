use Rattle.vx_txn.proofs.CallLaws.{reply_fits}
use Rattle.vx_txn.proofs.meta.short_reply.Goals as goal

pub returns-in-Stat-clause-fits : goal.returns-in-Stat-clause-fits
returns-in-Stat-clause-fits c = reply_fits c.args.touched.now c.stat.result c.requires.empty
