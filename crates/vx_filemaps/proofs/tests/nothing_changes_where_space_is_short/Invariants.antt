use Rattle.vx_filemaps.specs.FileMaps.{IsReady}
use Rattle.vx_filemaps.proofs.tests.nothing_changes_where_space_is_short.Given as goal

-- what is free doesn't wait
abbrev pub invariant-loop-i : goal.invariant-loop-i
invariant-loop-i g l = IsReady l.free
