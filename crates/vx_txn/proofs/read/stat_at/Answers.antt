use Rattle.std.proofs.Common.{sym, subst}
use Rattle.vx_dir.specs.Directories.{Directory, IsKept}
use Rattle.vx_txn.proofs.ReadLaws.{directory_settled}
use Rattle.vx_txn.proofs.read.stat_at.Goals as goal

pub returns-in-Some-directory-clause-done : goal.returns-in-Some-directory-clause-done
returns-in-Some-directory-clause-done c = λ s is.
    directory_settled c.args.meta.now s is c.args.ino c.in-Some-directory.directory.now c.in-Some.inode.now c.names-in-Some-directory.result.now c.entries.result
    (sym c.in-Some-directory.ensures) c.in-Some.ensures.value (subst (λ (n : Directory). IsKept n) c.names.ensures c.kept.ensures) c.names-in-Some-directory.ensures c.entries.ensures
