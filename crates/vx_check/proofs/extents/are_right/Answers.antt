use Rattle.std.proofs.Common.{rules, ◌≡◌, ◌<◌, true, length, take, get_or, sym, subst, arith}
use Rattle.std.proofs.lemmas.Grind.{common_steps}
use Rattle.std.proofs.lemmas.List.{get_or_default}
use Rattle.std.specs.List.{AllByRecursion}
use Rattle.vx_sound.specs.Facts.{IsExtentRight}
use Rattle.vx_check.proofs.Ordering.{all_more}
use Rattle.vx_check.proofs.extents.are_right.Goals as goal

pub loop-extent-preserved : goal.loop-extent-preserved
loop-extent-preserved c = λ v block.
    let e = c.extent-item.result in
    let lt : c.loop-extent.extent-index < length c.args.extents.now = omega arith in
    let is : get_or c.args.extents.now c.loop-extent.extent-index e ≡ e = first_of (search (rules, get_or_default), grind (arith, common_steps, get_or_default)) in
    let fine : c.is_right.result ≡ true = first_of (search rules, grind (arith, common_steps)) in
    all_more (IsExtentRight v c.args.value.now) c.args.extents.now c.loop-extent.extent-index e lt (c.loop-extent.invariant v block)
    (subst (IsExtentRight v c.args.value.now) (sym is) (c.is_right.ensures.right v block fine))

pub returns-clause-right : goal.returns-clause-right
returns-clause-right c = λ v block _.
    let all : take c.loop-extent.extent-index c.args.extents.now ≡ c.args.extents.now = first_of (search rules, grind (arith, common_steps)) in
    subst (AllByRecursion (IsExtentRight v c.args.value.now)) all (c.loop-extent.invariant v block)
