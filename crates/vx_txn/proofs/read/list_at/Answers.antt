use Rattle.std.proofs.Common.{subst}
use Rattle.vx_dir.specs.Directories.{Directory, IsKept, AreNames}
use Rattle.vx_txn.proofs.Listing.{listing_settled}
use Rattle.vx_txn.proofs.read.list_at.Goals as goal

pub returns-in_ok-names-in-Ok-clause-done : goal.returns-in_ok-names-in-Ok-clause-done
returns-in_ok-names-in-Ok-clause-done c = λ s is.
    listing_settled c.args.meta.now s is c.args.ino c.in-Ok.directory.now c.in_ok-names-in-Ok.field-0 c.in-Ok.ensures.found
    (subst (λ (n : Directory). IsKept n) c.names.ensures c.kept.ensures) (subst (λ (n : Directory). AreNames n c.in_ok-names-in-Ok.field-0) c.names-in-Ok.ensures c.in_ok-names-in-Ok.ensures)
