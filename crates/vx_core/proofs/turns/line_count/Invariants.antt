use Rattle.std.proofs.Common.{◌≡◌, ◌*◌, ◌≤◌, length}
use Rattle.vx_base.specs.Lines.{lines_of}
use Rattle.vx_core.specs.Works.{sum_below}
use Rattle.vx_core.proofs.turns.line_count.Given as goal

-- the lines of the sessions so far
abbrev pub invariant-loop-session : goal.invariant-loop-session
invariant-loop-session l = record {
  sum : l.count ≡ sum_below (λ s. length (lines_of l.lines s)) l.session;
  few : l.count ≤ l.session * 65535;
}
