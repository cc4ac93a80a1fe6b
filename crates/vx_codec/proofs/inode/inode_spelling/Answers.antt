use Rattle.vx_codec.proofs.InodeLaws.{inode_again, inode_unique}
use Rattle.vx_codec.proofs.inode.inode_spelling.Goals as goal

pub returns-clause-again : goal.returns-clause-again
returns-clause-again c = inode_again

pub returns-clause-unique : goal.returns-clause-unique
returns-clause-unique c = inode_unique
