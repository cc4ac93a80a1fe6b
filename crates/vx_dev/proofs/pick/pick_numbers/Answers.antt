use Rattle.std.proofs.Common.{◌+◌, ℕ, arith}
use Rattle.vx_dev.specs.Picks.{value_number}
use Rattle.vx_dev.proofs.Picks.{numbers_done, numbers_rest}
use Rattle.vx_dev.proofs.pick.pick_numbers.Goals as goal

pub loop-s-preserved : goal.loop-s-preserved
loop-s-preserved c = record {
  done = numbers_done (λ (s n : ℕ). value_number c.args.seed s (n + 1)) c.args.numbers.now c.loop-s.numbers c.loop-s.s c.number_of_value.result (omega arith) c.number_of_value.ensures c.loop-s.invariant.done c.loop-s.invariant.rest;
  rest = numbers_rest c.args.numbers.now c.loop-s.numbers c.loop-s.s c.number_of_value.result c.loop-s.invariant.rest;
}
