use Rattle.std.proofs.Common.{◌≡◌, ◌+◌, ◌<◌, ◌≤◌, ℕ, get_or}
use Rattle.vx_dev.specs.Picks.{value_number}
use Rattle.vx_dev.proofs.pick.pick_numbers.Given as goal

abbrev pub invariant-loop-s : goal.invariant-loop-s
invariant-loop-s l = record {
  done : (s : ℕ) → s < l.s → get_or l.numbers s 0 ≡ value_number l.seed s (get_or l.initial.numbers s 0 + 1);
  rest : (s : ℕ) → l.s ≤ s → get_or l.numbers s 0 ≡ get_or l.initial.numbers s 0;
}
