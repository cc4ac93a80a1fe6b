use Rattle.std.proofs.Common.{◌≡◌, ℕ, true, List, sym, subst}
use Rattle.vx_model.specs.Images.{among}
use Rattle.vx_model.specs.Touching.{BlockPlace, has_place}
use Rattle.vx_txn.proofs.sectors.stage.Goals as goal

pub returns-clause-whole : goal.returns-clause-whole
returns-clause-whole c = λ s stands. record {
  inodes = λ n has lt.
      c.put_bitmaps.ensures.adds.keeps _ (c.put_maps.ensures.adds.keeps _ (c.put_blocks.ensures.adds.keeps _
      (c.put_inodes.ensures.has n (subst (λ (xs : List ℕ). among xs n ≡ true) (sym c.inodes.ensures) has) s stands lt)));
  blocks = λ n i j d has got lt.
      c.put_bitmaps.ensures.adds.keeps _ (c.put_maps.ensures.adds.keeps _ (c.put_blocks.ensures.has n i (subst (λ (ps : List BlockPlace). has_place ps n i ≡ true) (sym c.blocks-2.ensures) has) s stands j d got lt));
  maps = λ n k j x has got lt.
      c.put_bitmaps.ensures.adds.keeps _ (c.put_maps.ensures.has n (subst (λ (xs : List ℕ). among xs n ≡ true) (sym c.maps.ensures) has) s stands k j x got lt);
  units = λ u has lt. c.put_bitmaps.ensures.has u (subst (λ (xs : List ℕ). among xs u ≡ true) (sym c.units.ensures) has) s stands lt;
}
