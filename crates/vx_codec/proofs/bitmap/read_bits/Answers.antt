use Rattle.std.proofs.Common.{◌≢◌, ◌<◌, length, get_or, false, arith, get_or-set_other, get_or-set_same, length-set, below_more}
use Rattle.vx_codec.proofs.BitLaws.{bits_there}
use Rattle.vx_codec.proofs.bitmap.read_bits.Goals as goal

pub loop-j-preserved : goal.loop-j-preserved
loop-j-preserved c =
    let there : c.loop-j.j < length c.loop-j.used = omega (arith, c.loop-j.invariant.len, c.loop-j-test.true) in
    record {
      len = rw length-set c.loop-j.invariant.len;
      bits = below_more _ _
          (λ k h. let ne : k ≢ c.loop-j.j = omega arith in rw get_or-set_other (c.loop-j.invariant.bits k h))
          (rw get_or-set_same c.bit_of.ensures);
    }

pub returns : goal.returns
returns c = bits_there (λ j. get_or c.loop-j.used j false) c.args.sector.now c.told-sector c.fits-sector (λ k h. c.loop-j.invariant.bits k (omega arith))
