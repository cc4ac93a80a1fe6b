use Rattle.vx_mount.specs.Cores.{Opening}
use Rattle.vx_mount.proofs.Stepping.{UnmountsSoFar}
use Rattle.vx_mount.proofs.driver.take_unmount_turns.Given as goal

-- the unmount's turns so far
abbrev pub invariant-turns : goal.invariant-turns
invariant-turns g l = record {
  so_far : UnmountsSoFar (g.T.Turns.view l.initial.core) (g.T.Turns.view l.core);
  sound : g.T.Turns.sound l.core;
  kept : (o : Opening) → g.T.Turns.kept o l.initial.core → g.T.Turns.kept o l.core;
}

abbrev pub decreases-turns : goal.decreases-turns
decreases-turns g l = g.T.Turns.work l.core
