use Rattle.std.proofs.Common.{refl}
use Rattle.vx_space.proofs.Parts.{lasting_part}
use Rattle.vx_space.proofs.settle_laws.Goals as goal

pub returns : goal.returns
returns c = record {
  part = λ noreserve size x. lasting_part noreserve x.present;
  again = λ noreserve size x. refl;
}
