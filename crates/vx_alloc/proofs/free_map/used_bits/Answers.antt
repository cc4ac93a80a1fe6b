use Rattle.std.proofs.Common.{true, false, refl, sym, ◌∙◌, arith}
use Rattle.std.proofs.lemmas.List.{get_or-replicate}
use Rattle.vx_alloc.proofs.UsedBits.{is_lead}
use Rattle.vx_alloc.proofs.free_map.used_bits.Goals as goal

pub loop-j-init : goal.loop-j-init
loop-j-init c = record {
  len = refl;
  bits = λ k lt. get_or-replicate 4096 k true false (omega (arith, lt, c.requires.lead)) ∙ sym (is_lead c.args.free.now c.args.pending.now c.args.lead k lt);
}
