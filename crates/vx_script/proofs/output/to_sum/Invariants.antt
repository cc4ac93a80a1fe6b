use Rattle.std.proofs.Common.{◌≡◌, ◌*◌, ◌≤◌, ◌^◌, take}
use Rattle.std.specs.Prelude.{sum_by}
use Rattle.vx_script.specs.Output.{moved_to}
use Rattle.vx_script.proofs.output.to_sum.Given as goal

-- the sum so far
abbrev pub invariant-loop-event : goal.invariant-loop-event
invariant-loop-event l = record {
  sum : l.sum ≡ sum_by moved_to (take l.event-index l.history);
  small : l.sum ≤ l.event-index * 2 ^ 32;
}
