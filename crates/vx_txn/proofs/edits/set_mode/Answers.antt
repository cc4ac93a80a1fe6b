use Rattle.std.proofs.Common.{refl}
use Rattle.vx_txn.proofs.InodeEdits.{mode_gone}
use Rattle.vx_txn.proofs.edits.set_mode.Goals as goal

pub returns-clause-set : goal.returns-clause-set
returns-clause-set c = λ base s node gone there.
    mode_gone c.edit_laws.ensures base s c.args.meta.now _ c.args.touched.now c.add_inode.new.self gone c.args.ino (λ n. refl) refl refl c.add_inode.ensures c.args.mode node c.requires.mode there c.set_mode.ensures
