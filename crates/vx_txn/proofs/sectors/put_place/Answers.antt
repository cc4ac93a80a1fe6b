use Rattle.std.proofs.Common.{◌≡◌, ◌≤◌, length, Some, sym, ap, ◌∙◌, arith}
use Rattle.std.specs.Option.{option_copied}
use Rattle.vx_dir.specs.Directories.{Directory}
use Rattle.vx_txn.specs.Metas.{directory_of}
use Rattle.vx_txn.proofs.BlockSectors.{past_blocks}
use Rattle.vx_txn.proofs.sectors.put_place.Goals as goal

pub returns-else-index-blocks-clause-has : goal.returns-else-index-blocks-clause-has
returns-else-index-blocks-clause-has c =
    let m = c.args.meta.now in
    let d = c.in-Some.directory.now in
    let p = c.args.place.now in
    let there : directory_of m p.ino ≡ Some d = sym (sym (ap option_copied c.in-Some.is) ∙ c.directory.ensures ∙ ap (directory_of m) c.ino.ensures) in
    let count = ap (λ (x : Directory). length x.blocks) c.names.ensures in
    let past : length d.names.blocks ≤ p.index = (let test = c.if-index-blocks.false in let end = c.blocks-in-Some.ensures in let index = c.index.ensures in omega arith) in
    past_blocks m p.ino d p.index c.args.batch.now there past
