use Rattle.vx_check.specs.Overlays.{image_shown}
use Rattle.vx_check.proofs.Laying.{all_agree}
use Rattle.vx_check.proofs.overlaid.check_overlaid.Goals as goal

pub returns-clause-finds : goal.returns-clause-finds
returns-clause-finds g c = λ image is.
    let d = g.D.BlockDev.state c.args.dev.now in
    c.check_metadata.ensures.finds image (c.check_metadata.ensures.read.right image is (all_agree (image_shown d.told d.doubt c.args.homes.now) image is))
