use Rattle.std.proofs.Common.{ℕ, ◌/◌, ap, ◌∙◌, arith}
use Rattle.vx_layout.specs.Places.{pair_sector, inode_sector}
use Rattle.vx_model.specs.Layout.{volume}
use Rattle.vx_txn.proofs.Gains.{adds_set, has_new}
use Rattle.vx_txn.proofs.UnitSectors.{pair_right}
use Rattle.vx_txn.proofs.sectors.put_inode.Goals as goal

pub returns-clause-adds : goal.returns-clause-adds
returns-clause-adds c =
    adds_set c.args.meta.now c.args.batch.now c.set.new.self c.sector_of_pair.result c.pair_bytes.result c.set.ensures (λ s stands.
    pair_right c.sector_contents.ensures.inodes s c.get-pair.result c.sector_of_pair.result c.pair_bytes.result
    (omega (arith, c.if-get-units.false, c.get.ensures, c.get-pair.ensures, c.units.ensures, stands.is.units))
    (c.sector_of_pair.ensures s stands) (c.pair_bytes.ensures s stands))

pub returns-clause-has : goal.returns-clause-has
returns-clause-has c = λ s stands lt.
    has_new c.args.batch.now c.set.new.self c.sector_of_pair.result (inode_sector (volume s.layout) c.args.ino) c.pair_bytes.result c.set.ensures
    (c.sector_of_pair.ensures s stands ∙ ap (λ (n : ℕ). pair_sector (volume s.layout) (n / 2)) c.get-pair.ensures)
