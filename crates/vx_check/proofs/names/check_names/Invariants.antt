use Rattle.vx_check.proofs.NameLists.{IsNamed}
use Rattle.vx_check.proofs.names.check_names.Given as goal

abbrev pub invariant-loop-entry : goal.invariant-loop-entry
invariant-loop-entry l = IsNamed l.fn.names l.names l.entries l.entry-index
