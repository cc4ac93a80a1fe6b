use Rattle.vx_filemaps.specs.FileMaps.{IsReady}
use Rattle.vx_filemaps.proofs.tests.two_files_in_turn.Given as goal

-- what is free doesn't wait
abbrev pub invariant-loop-p : goal.invariant-loop-p
invariant-loop-p g l = IsReady l.free
