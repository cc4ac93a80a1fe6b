use Rattle.std.proofs.Common.{◌≡◌, ◌<◌, ℕ, length, get_or}
use Rattle.vx_base.specs.Lines.{lines_of}
use Rattle.vx_grammar.proofs.order.all_left.Given as goal

abbrev pub invariant-sessions : goal.invariant-sessions
invariant-sessions l = record {
  len : length l.left ≡ 16;
  so_far : (s : ℕ) → s < l.session → get_or l.left s 0 ≡ length (lines_of l.lines s);
}
