use Rattle.vx_grammar.proofs.ReadingLaws.{reading_whole}
use Rattle.vx_grammar.proofs.script.reading_law.Goals as goal

pub returns : goal.returns
returns c = reading_whole c.args.bytes.now
