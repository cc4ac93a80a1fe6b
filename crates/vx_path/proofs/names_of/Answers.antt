use Rattle.std.proofs.Common.{◌≡◌, ◌++◌, ◌∷◌, [], inr, sym, ◌∙◌, ap, arith, take}
use Rattle.vx_base.specs.Paths.{FileName}
use Rattle.std.specs.Prelude.{List}
use Rattle.vx_path.proofs.Names.{texts, not_names, one_more, names_more}
use Rattle.vx_path.proofs.names_of.Goals as goal

pub returns-then-not-is_name-clause-err : goal.returns-then-not-is_name-clause-err
returns-then-not-is_name-clause-err c = inr (not_names c.args.parts.now c.loop-part.part-index _ c.loop-part-test.true (sym c.is_name.ensures ∙ c.if-not-is_name.true))

pub loop-part-preserved : goal.loop-part-preserved
loop-part-preserved c = record {
  names = c.in_ok-push.ensures.ok ∙ ap (λ (names : List FileName). names ++ c.in_ok-from_slice.field-0 ∷ []) c.loop-part.invariant.names
      ∙ ap (λ x. take c.loop-part.part-index (texts c.args.parts.now) ++ x ∷ []) c.in_ok-from_slice.ensures ∙ sym (one_more c.args.parts.now c.loop-part.part-index _ c.loop-part-test.true);
  good = names_more c.args.parts.now c.loop-part.part-index _ c.loop-part-test.true c.loop-part.invariant.good (sym c.is_name.ensures ∙ c.if-not-is_name.false);
}
