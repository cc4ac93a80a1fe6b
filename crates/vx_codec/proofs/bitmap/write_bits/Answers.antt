use Rattle.std.proofs.Common.{length, arith, ap, length-append, get_or, false, ℕ}
use Rattle.vx_codec.proofs.Bitmaps.{grown, ended}
use Rattle.vx_codec.proofs.bitmap.write_bits.Goals as goal

pub loop-i-preserved : goal.loop-i-preserved
loop-i-preserved c = record {
  len = omega (arith, ap length c.put_u8.ensures, length-append {A = ℕ}, c.loop-i.invariant.len);
  text = grown (λ j. get_or c.args.used.now j false) c.loop-i.i c.byte_of.result c.loop-i.sheet c.put_u8.new.self c.loop-i.invariant.text c.put_u8.ensures c.byte_of.ensures;
}

pub returns : goal.returns
returns c = ended (λ j. get_or c.args.used.now j false) c.loop-i.i c.loop-i.sheet c.finish.result c.loop-i.invariant.text (omega arith) c.loop-i.invariant.len c.finish.ensures
