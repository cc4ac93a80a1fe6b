use Rattle.std.proofs.Common.{arith}
use Rattle.vx_layout.specs.Places.{bitmap_sector}
use Rattle.vx_model.specs.Contents.{parsed_of}
use Rattle.vx_model.specs.Layout.{volume}
use Rattle.vx_txn.proofs.Gains.{adds_set, has_new}
use Rattle.vx_txn.proofs.UnitSectors.{bitmap_right, is_volume}
use Rattle.vx_txn.proofs.sectors.put_bitmap.Goals as goal

pub returns-clause-adds : goal.returns-clause-adds
returns-clause-adds c =
    adds_set c.args.meta.now c.args.batch.now c.set.new.self c.sector_of_unit.result c.bitmap.result c.set.ensures (λ s stands.
    bitmap_right s c.args.unit c.sector_of_unit.result c.bitmap.result
    (c.sector_contents.ensures.bitmap (volume s.layout) (parsed_of s) c.args.unit (is_volume s.layout) (omega (arith, c.if-unit-units.false, c.units.ensures, stands.is.units)))
    (c.sector_of_unit.ensures.place s stands) (c.bitmap.ensures s stands))

pub returns-clause-has : goal.returns-clause-has
returns-clause-has c = λ s stands lt.
    has_new c.args.batch.now c.set.new.self c.sector_of_unit.result (bitmap_sector (volume s.layout) c.args.unit) c.bitmap.result c.set.ensures (c.sector_of_unit.ensures.place s stands)
