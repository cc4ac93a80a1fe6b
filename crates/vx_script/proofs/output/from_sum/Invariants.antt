use Rattle.std.proofs.Common.{◌≡◌, ◌*◌, ◌≤◌, ◌^◌, take}
use Rattle.std.specs.Prelude.{sum_by}
use Rattle.vx_script.specs.Output.{moved_from}
use Rattle.vx_script.proofs.output.from_sum.Given as goal

-- the sum so far
abbrev pub invariant-loop-event : goal.invariant-loop-event
invariant-loop-event l = record {
  sum : l.sum ≡ sum_by moved_from (take l.event-index l.history);
  small : l.sum ≤ l.event-index * 2 ^ 32;
}
