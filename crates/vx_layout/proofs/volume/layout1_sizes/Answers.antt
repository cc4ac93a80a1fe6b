use Rattle.vx_layout.proofs.Sizes.{layout1_is}
use Rattle.vx_layout.proofs.volume.layout1_sizes.Goals as goal

pub returns : goal.returns
returns c = layout1_is
