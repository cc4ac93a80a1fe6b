use Rattle.vx_space.proofs.Closes.{none_goes, reserved_go, trim_is}
use Rattle.vx_space.proofs.close_laws.Goals as goal

pub returns : goal.returns
returns c = record {
  settled = none_goes;
  present = reserved_go;
  trimmed = λ from x reserved part. trim_is from x reserved part;
}
