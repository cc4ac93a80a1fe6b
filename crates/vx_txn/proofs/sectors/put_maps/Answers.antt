use Rattle.std.proofs.Common.{◌*◌, ◌+◌, subst, arith}
use Rattle.std.proofs.lemmas.List.{get_or_read}
use Rattle.vx_txn.specs.Staged.{HasMaps}
use Rattle.vx_txn.proofs.Gains.{adds_more, each_all, each_more}
use Rattle.vx_txn.proofs.sectors.put_maps.Goals as goal

pub loop-ino-preserved : goal.loop-ino-preserved
loop-ino-preserved c =
    let m = c.args.meta.now in
    let i = c.loop-ino.ino-index in
    record {
      adds = adds_more m (2 * i) 2 (2 * (i + 1)) c.args.batch.now c.loop-ino.batch c.put_chain.new.batch c.loop-ino.invariant.adds c.put_chain.ensures.adds (omega arith);
      has =
          each_more (HasMaps m c.loop-ino.batch) (HasMaps m c.put_chain.new.batch) c.args.inodes.now i c.loop-ino-test.true c.loop-ino.invariant.has
          (λ n has s stands k j x got lt. c.put_chain.ensures.adds.keeps _ (has s stands k j x got lt))
          (subst (HasMaps m c.put_chain.new.batch) (get_or_read c.args.inodes.now i c.ino-item.result c.loop-ino-test.true c.ino-item.is 0) c.put_chain.ensures.has);
    }

pub returns-clause-has : goal.returns-clause-has
returns-clause-has c =
    each_all (HasMaps c.args.meta.now c.loop-ino.batch) c.args.inodes.now c.loop-ino.ino-index (omega (arith, c.loop-ino-test.false)) c.loop-ino.invariant.has
