use Rattle.std.proofs.Common.{◌≡◌, ◌<◌, ℕ, false}
use Rattle.vx_base.specs.Lines.{line_after}
use Rattle.vx_grammar.specs.Orders.{is_met_by, so_far}
use Rattle.vx_grammar.proofs.order.next_session.Given as goal

abbrev pub invariant-sessions : goal.invariant-sessions
invariant-sessions l = (s : ℕ) → s < l.session → is_met_by (so_far l.lines l.left) (line_after l.lines s (so_far l.lines l.left s)) ≡ false
