use Rattle.std.proofs.Common.{refl}
use Rattle.vx_txn.proofs.Loading.{file_loaded}
use Rattle.vx_txn.proofs.meta.Meta.put_file.Goals as goal

pub returns-clause-loaded : goal.returns-clause-loaded
returns-clause-loaded c = λ s laid loaded there. file_loaded s c.args.ino c.args.inode.now laid there c.args.self.now _ loaded c.in_ok-put.ensures.ok (λ q. refl) refl refl
