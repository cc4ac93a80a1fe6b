use Rattle.std.proofs.Common.{◌≡◌, drop}
use Rattle.vx_model.specs.Moving.{begins_with}
use Rattle.vx_txn.proofs.rename.begins_with.Given as goal

-- the names so far are the same
abbrev pub invariant-loop-i : goal.invariant-loop-i
invariant-loop-i l = begins_with l.above l.names ≡ begins_with (drop l.i l.above) (drop l.i l.names)
