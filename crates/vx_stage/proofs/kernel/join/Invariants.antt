use Rattle.std.proofs.Common.{◌≡◌, take}
use Rattle.vx_log.specs.Batches.{with_notes}
use Rattle.vx_stage.proofs.kernel.join.Given as goal

abbrev pub invariant-loop-entry : goal.invariant-loop-entry
invariant-loop-entry l = l.batch ≡ with_notes l.initial.batch (take l.entry-index l.transaction)
