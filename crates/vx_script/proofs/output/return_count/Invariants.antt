use Rattle.std.proofs.Common.{◌≡◌, ◌≤◌, take}
use Rattle.std.specs.Prelude.{count_by}
use Rattle.vx_script.specs.Output.{is_return}
use Rattle.vx_script.proofs.output.return_count.Given as goal

-- the count so far
abbrev pub invariant-loop-event : goal.invariant-loop-event
invariant-loop-event l = record {
  count : l.count ≡ count_by is_return (take l.event-index l.history);
  small : l.count ≤ l.event-index;
}
