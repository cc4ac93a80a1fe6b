use Rattle.std.proofs.Common.{rules, ◌≡◌, ◌+◌, ◌-◌, ◌<◌, ◌≤◌, ℕ, true, false, length, get_or, sym, subst, arith}
use Rattle.std.proofs.lemmas.Grind.{common_steps}
use Rattle.std.proofs.lemmas.List.{get_or_default}
use Rattle.vx_base.specs.declared.inode.Extent.{Extent}
use Rattle.vx_sound.specs.Facts.{Follows}
use Rattle.vx_check.proofs.Ordering.{ordered_start, ordered_more, order_of, order_at}
use Rattle.vx_check.proofs.extents.are_in_order.Goals as goal

pub loop-t-init : goal.loop-t-init
loop-t-init c = record { some = omega arith; ordered = ordered_start c.args.extents.now }

pub returns-then-not-follows-clause-wrong : goal.returns-then-not-follows-clause-wrong
returns-then-not-follows-clause-wrong c = λ _ order.
    let es = c.args.extents.now in
    let t = c.loop-t.t in
    let e = c.index-extents-t.result in
    let f = c.index-extents-t-in-loop-t.result in
    let some = c.loop-t.invariant.some in
    let lt : t - 1 + 1 < length es = omega arith in
    let same : t - 1 + 1 ≡ t = omega arith in
    let e_is : get_or es (t - 1) e ≡ e = first_of (search (rules, get_or_default), grind (arith, common_steps, get_or_default)) in
    let f_is : get_or es t e ≡ f = first_of (search (rules, get_or_default), grind (arith, common_steps, get_or_default)) in
    let bad : c.follows.result ≡ false = first_of (search rules, grind (arith, common_steps)) in
    let h = order_at es (t - 1) e lt order in
    c.follows.ensures.wrong bad (subst (λ (x : Extent). Follows x f) e_is (subst (λ (x : Extent). Follows (get_or es (t - 1) e) x) f_is (subst (λ (k : ℕ). Follows (get_or es (t - 1) e) (get_or es k e)) same h)))

pub loop-t-preserved : goal.loop-t-preserved
loop-t-preserved c =
    let es = c.args.extents.now in
    let t = c.loop-t.t in
    let e = c.index-extents-t.result in
    let f = c.index-extents-t-in-loop-t.result in
    let some = c.loop-t.invariant.some in
    let lt : t < length es = omega arith in
    let fine : c.follows.result ≡ true = first_of (search rules, grind (arith, common_steps)) in
    record {
      some = omega arith;
      ordered = ordered_more es t some lt c.loop-t.invariant.ordered (λ d.
          let before : t - 1 < length es = omega arith in
          let e_is : get_or es (t - 1) d ≡ e = first_of (search (rules, get_or_default), grind (arith, common_steps, get_or_default)) in
          let f_is : get_or es t d ≡ f = first_of (search (rules, get_or_default), grind (arith, common_steps, get_or_default)) in
          subst (λ (x : Extent). Follows x (get_or es t d)) (sym e_is) (subst (λ (x : Extent). Follows e x) (sym f_is) (c.follows.ensures.right fine)));
    }

pub returns-clause-right : goal.returns-clause-right
returns-clause-right c = λ _. let end : length c.args.extents.now ≤ c.loop-t.t = omega arith in order_of c.args.extents.now c.loop-t.t end c.loop-t.invariant.ordered
