use Rattle.std.proofs.Common.{◌≡◌, ◌*◌, ◌∙◌, arith}
use Rattle.vx_layout.specs.Places.{per_block, unit_block, bitmap_sector}
use Rattle.vx_layout.proofs.volume.Volume.bitmap_place.Goals as goal

pub returns : goal.returns
returns c =
    let whole : unit_block c.args.self.now c.args.u * per_block c.args.self.now ≡ bitmap_sector c.args.self.now c.args.u = omega arith in
    c.new.ensures ∙ (λ i. (c.get.ensures ∙ c.unit_start.ensures) i * c.per_block.ensures i) ∙ whole
