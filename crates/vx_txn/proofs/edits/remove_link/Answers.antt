use Rattle.std.proofs.Common.{refl}
use Rattle.vx_txn.proofs.InodeEdits.{unlink_gone}
use Rattle.vx_txn.proofs.edits.remove_link.Goals as goal

pub returns-clause-set : goal.returns-clause-set
returns-clause-set c = λ base s f gone there.
    unlink_gone c.edit_laws.ensures base s c.args.meta.now _ c.args.touched.now c.add_inode.new.self gone c.args.ino (λ n. refl) refl refl c.add_inode.ensures f there c.requires.links c.unlink-left.ensures.unlinked
