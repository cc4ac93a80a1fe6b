use Rattle.vx_check.proofs.Counting.{IsCounted}
use Rattle.vx_check.proofs.counts.count_names.Given as goal

abbrev pub invariant-loop-targets : goal.invariant-loop-targets
invariant-loop-targets l = IsCounted l.counts.items l.children l.targets-index
