use Rattle.std.proofs.Common.{◌≡◌, ◌+◌, ◌<◌, ℕ, false, length, get_or, set, sym, subst, ◌∙◌, inl, inr, arith, length-set, get_or-set_same, get_or-set_other}
use Rattle.std.specs.Prelude.{◌||◌, nat_lt}
use Rattle.std.proofs.lemmas.Bool.{cases_eq}
use Rattle.vx_layout.specs.Places.{unit_block}
use Rattle.vx_check.proofs.bitmaps.used_blocks.Goals as goal

pub loop-j-preserved : goal.loop-j-preserved
loop-j-preserved c =
    let v = c.args.volume.now in
    let j = c.loop-j.j in
    let long = c.loop-j.invariant.long in
    let inside : j < length c.loop-j.used = omega arith in
    record {
      long = length-set c.loop-j.used j c.is_used.result ∙ long;
      bits = λ k low. elim (cases_eq k j) [
        | inl e ↦ subst (λ (x : ℕ). get_or (set c.loop-j.used j c.is_used.result) x false ≡ (nat_lt x 33 || get_or c.args.marks.now (unit_block v c.args.u + x) false)) (sym e)
            (get_or-set_same c.loop-j.used j c.is_used.result false inside ∙ c.is_used.ensures)
        | inr ne ↦ get_or-set_other c.loop-j.used j k c.is_used.result false ne ∙ c.loop-j.invariant.bits k (omega arith)
      ];
    }
