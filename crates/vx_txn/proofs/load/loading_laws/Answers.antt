use Rattle.vx_txn.proofs.Loading.{loading}
use Rattle.vx_txn.proofs.load.loading_laws.Goals as goal

pub returns : goal.returns
returns c = loading
