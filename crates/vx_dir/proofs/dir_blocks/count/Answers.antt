use Rattle.std.proofs.Common.{◌≤◌, length, sym, subst, ap, arith}
use Rattle.std.proofs.lemmas.List.Sums.{sum_by_more}
use Rattle.vx_dir.specs.Sizes.{Entries, used_by}
use Rattle.vx_dir.proofs.Places.{length_le_used}
use Rattle.vx_dir.proofs.dir_blocks.count.Goals as goal

pub overflow_cast-count : goal.overflow_cast-count
overflow_cast-count c =
    let few : used_by c.block-item.result ≤ 8192 = subst (λ (b : Entries). used_by b ≤ 8192) (sym c.block-item.is) (c.requires.fits c.loop-block.block-index c.block-item.result c.loop-block-test.true) in
    omega (arith, length_le_used c.block-item.result)

pub overflow_add-count : goal.overflow_add-count
overflow_add-count c =
    let few : used_by c.block-item.result ≤ 8192 = subst (λ (b : Entries). used_by b ≤ 8192) (sym c.block-item.is) (c.requires.fits c.loop-block.block-index c.block-item.result c.loop-block-test.true) in
    omega (arith, length_le_used c.block-item.result)

pub loop-block-preserved : goal.loop-block-preserved
loop-block-preserved c =
    let few : used_by c.block-item.result ≤ 8192 = subst (λ (b : Entries). used_by b ≤ 8192) (sym c.block-item.is) (c.requires.fits c.loop-block.block-index c.block-item.result c.loop-block-test.true) in
    let more = sum_by_more (λ (b : Entries). length b) c.args.blocks.now c.loop-block.block-index c.block-item.result c.loop-block-test.true in
    let same = ap (λ (b : Entries). length b) c.block-item.is in
    record { counted = omega (arith, more, same); few = omega (arith, length_le_used c.block-item.result) }
