use Rattle.std.proofs.Common.{◌*◌, ◌+◌, subst, arith}
use Rattle.vx_txn.specs.Staged.{HasBlock}
use Rattle.vx_txn.proofs.Gains.{adds_more, each_place_all, each_place_more}
use Rattle.vx_txn.proofs.sectors.put_blocks.Goals as goal

pub loop-place-preserved : goal.loop-place-preserved
loop-place-preserved c =
    let m = c.args.meta.now in
    let i = c.loop-place.place-index in
    record {
      adds = adds_more m (2 * i) 2 (2 * (i + 1)) c.args.batch.now c.loop-place.batch c.put_place.new.batch c.loop-place.invariant.adds c.put_place.ensures.adds (omega arith);
      has =
          each_place_more (HasBlock m c.loop-place.batch) (HasBlock m c.put_place.new.batch) c.args.blocks.now i c.place-item.result c.loop-place-test.true c.loop-place.invariant.has
          (λ p has s stands j d got lt. c.put_place.ensures.adds.keeps _ (has s stands j d got lt)) (subst (HasBlock m c.put_place.new.batch) c.place-item.is c.put_place.ensures.has);
    }

pub returns-clause-has : goal.returns-clause-has
returns-clause-has c =
    each_place_all (HasBlock c.args.meta.now c.loop-place.batch) c.args.blocks.now c.loop-place.place-index (omega (arith, c.loop-place-test.false)) c.loop-place.invariant.has
