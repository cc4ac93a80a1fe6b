use Rattle.std.proofs.Common.{◌-◌, get_or, arith}
use Rattle.std.proofs.lemmas.List.Sums.{sum_by-set}
use Rattle.vx_grammar.proofs.Ordering.{nothing_yet, one_answered, some_left, some_inside, furthest_is}
use Rattle.vx_grammar.proofs.order.furthest.Goals as goal

pub lines-init : goal.lines-init
lines-init c = nothing_yet c.args.lines.now c.all_left-left.result c.all_left-left.ensures

pub overflow_sub-left : goal.overflow_sub-left
overflow_sub-left c = some_left c.args.lines.now c.lines.left c.in-Some.session c.lines.invariant c.in-Some.ensures.1

pub lines-smaller : goal.lines-smaller
lines-smaller c =
    let some = some_left c.args.lines.now c.lines.left c.in-Some.session c.lines.invariant c.in-Some.ensures.1 in
    let sums = sum_by-set (λ x. x) c.lines.left c.in-Some.session (get_or c.lines.left c.in-Some.session 0 - 1) 0 (some_inside c.lines.left c.in-Some.session some) in
    omega (arith, sums, some)

pub lines-preserved : goal.lines-preserved
lines-preserved c = one_answered c.args.lines.now c.lines.left c.in-Some.session c.lines.invariant c.in-Some.ensures.1

pub returns : goal.returns
returns c = furthest_is c.args.lines.now c.lines.left c.requires c.lines.invariant c.in_default.ensures
