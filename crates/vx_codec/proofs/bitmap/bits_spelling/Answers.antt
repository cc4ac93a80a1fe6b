use Rattle.vx_codec.proofs.BitLaws.{bits_unique}
use Rattle.vx_codec.proofs.bitmap.bits_spelling.Goals as goal

pub returns : goal.returns
returns c = bits_unique
