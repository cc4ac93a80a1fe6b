use Rattle.std.proofs.Common.{refl}
use Rattle.vx_inode.specs.Tables.{new_inode}
use Rattle.vx_txn.proofs.NodeEdits.{refusal_is, made_lowest, made_gone, taken_back_table, used_after}
use Rattle.vx_txn.proofs.edits.make_node.Goals as goal

pub returns-in-Err-clause-full : goal.returns-in-Err-clause-full
returns-in-Err-clause-full c = λ s is. refusal_is c.args.meta.now s is c.in-Err.why c.in-Err.ensures.answer

pub drop_inode-requires : goal.drop_inode-requires
drop_inode-requires c = used_after c.args.meta.now.inodes c.make.new.self c.in-Ok.ino (new_inode c.args.kind c.args.mode) c.in-Ok.ensures.made

pub returns-in-Ok-put_directory-clause-made : goal.returns-in-Ok-put_directory-clause-made
returns-in-Ok-put_directory-clause-made c = λ base s gone.
    made_gone c.edit_laws.ensures base s c.args.meta.now _ c.args.touched.now c.add_inode.new.self gone c.in-Ok.ino c.args.kind c.args.mode c.requires.mode c.in-Ok.ensures.unused.0 c.in-Ok.ensures.unused.1 c.in-Ok.ensures.unused.2
    c.in-Ok.ensures.made c.in-Ok-put_directory.ensures.here c.in-Ok-put_directory.ensures.others refl refl c.add_inode.ensures

pub returns-in-Ok-put_directory-clause-lowest : goal.returns-in-Ok-put_directory-clause-lowest
returns-in-Ok-put_directory-clause-lowest c = λ s is. made_lowest c.args.meta.now s is c.in-Ok.ino c.in-Ok.ensures.answer

pub returns-in-Err-put_directory-clause-unchanged : goal.returns-in-Err-put_directory-clause-unchanged
returns-in-Err-put_directory-clause-unchanged c = record {
  inodes = taken_back_table c.args.meta.now.inodes c.make.new.self c.drop_inode.new.self c.in-Ok.ino (new_inode c.args.kind c.args.mode) c.in-Ok.ensures.unused.2 c.in-Ok.ensures.made c.drop_inode.ensures;
  directories = λ n. c.in-Err-put_directory.ensures.err n;
  free = refl;
  first = refl;
}
