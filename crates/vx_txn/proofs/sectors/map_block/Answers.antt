use Rattle.std.proofs.Common.{drop, ◌∙◌, arith, length-set, length-drop}
use Rattle.vx_extents.specs.Extents.{stretches}
use Rattle.vx_txn.proofs.BlockSectors.{get_dropped, take_next}
use Rattle.vx_txn.proofs.sectors.map_block.Goals as goal

pub loop-i-preserved : goal.loop-i-preserved
loop-i-preserved c =
    let s = stretches c.args.pages.now.pages in
    let len = c.loop-i.invariant.len in
    let most = c.requires.is.most in
    let count = length-drop 6 s in
    let lt = c.loop-i-test.true in
    let have = c.extents.ensures in
    record {
      same = take_next c.loop-i.extents (drop 6 s) c.loop-i.i c.stretch.result (omega arith) (get_dropped 6 s c.loop-i.i ∙ c.stretch.ensures) c.loop-i.invariant.same;
      len = length-set c.loop-i.extents c.loop-i.i c.stretch.result ∙ len;
    }
