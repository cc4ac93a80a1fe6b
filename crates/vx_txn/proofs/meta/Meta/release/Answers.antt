use Rattle.std.proofs.Common.{refl}
use Rattle.vx_txn.proofs.MetaLaws.{released_is}
use Rattle.vx_txn.proofs.meta.Meta.release.Goals as goal

pub returns : goal.returns
returns c = λ s laid plain is. released_is c.args.self.now s (record { laid_out = laid; plain = plain; is = is }) c.args.upto _ refl (λ n. refl) c.release.ensures.released refl
