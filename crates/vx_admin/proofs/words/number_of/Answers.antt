use Rattle.std.proofs.Common.{arith}
use Rattle.vx_admin.proofs.Numbers.{value_below}
use Rattle.vx_admin.proofs.words.number_of.Goals as goal

pub overflow_mul-value : goal.overflow_mul-value
overflow_mul-value c =
    let below = value_below c.args.digits.now _ _ c.requires c.loop-digit-test.true c.loop-digit.invariant.small in
    omega arith

pub overflow_add-value : goal.overflow_add-value
overflow_add-value c =
    let below = value_below c.args.digits.now _ _ c.requires c.loop-digit-test.true c.loop-digit.invariant.small in
    omega (arith, c.type_inv.digits c.loop-digit.digit-index)
