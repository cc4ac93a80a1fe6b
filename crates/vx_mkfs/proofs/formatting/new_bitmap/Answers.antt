use Rattle.std.proofs.Common.{◌≡◌, ◌∙◌, ℕ, false, get_or, nat_lt, sym, subst, arith, rules}
use Rattle.vx_layout.specs.Bits.{bits_bytes}
use Rattle.vx_mkfs.proofs.BitLaws.{none_set, not_below_zero, one_more}
use Rattle.vx_mkfs.proofs.formatting.new_bitmap.Goals as goal

pub loop-j-init : goal.loop-j-init
loop-j-init c = record {
  len = cc;
  low = omega arith;
  is = λ k. none_set 4096 k ∙ sym (not_below_zero k);
}

pub loop-j-preserved : goal.loop-j-preserved
loop-j-preserved c = record {
  len = search rules;
  low = omega (arith, c.loop-j-test.true);
  is = one_more c.loop-j.used c.loop-j.j (omega (arith, c.loop-j.invariant.len, c.loop-j-test.true)) c.loop-j.invariant.is;
}

pub returns : goal.returns
returns c =
    let last : c.loop-j.j ≡ 33 = omega (arith, c.loop-j.auto.j-end, c.loop-j-test.false) in
    let is = subst (λ (j : ℕ). (k : ℕ) → get_or c.loop-j.used k false ≡ nat_lt k j) last c.loop-j.invariant.is in
    c.write_bits.ensures ∙ (λ i. bits_bytes (λ k. is k i))
