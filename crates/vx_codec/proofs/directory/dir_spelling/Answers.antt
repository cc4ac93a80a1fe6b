use Rattle.vx_codec.proofs.DirLaws.{dir_again, dir_unique}
use Rattle.vx_codec.proofs.directory.dir_spelling.Goals as goal

pub returns-clause-again : goal.returns-clause-again
returns-clause-again c = dir_again

pub returns-clause-unique : goal.returns-clause-unique
returns-clause-unique c = dir_unique
