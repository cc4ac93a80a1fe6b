use Rattle.vx_codec.proofs.MapLaws.{block_again, map_unique}
use Rattle.vx_codec.proofs.map.map_spelling.Goals as goal

pub returns-clause-again : goal.returns-clause-again
returns-clause-again c = block_again

pub returns-clause-unique : goal.returns-clause-unique
returns-clause-unique c = map_unique
