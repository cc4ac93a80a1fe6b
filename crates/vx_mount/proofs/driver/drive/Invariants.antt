use Rattle.vx_mount.specs.Cores.{Opening}
use Rattle.vx_mount.proofs.Stepping.{TakesRounds}
use Rattle.vx_mount.proofs.driver.drive.Given as goal

-- so many rounds
abbrev pub invariant-rounds : goal.invariant-rounds
invariant-rounds g l = record {
  rounds : TakesRounds (g.T.Turns.view l.initial.core) (g.T.Turns.view l.core);
  sound : g.T.Turns.sound l.core;
  kept : (o : Opening) → g.T.Turns.kept o l.initial.core → g.T.Turns.kept o l.core;
}

abbrev pub decreases-rounds : goal.decreases-rounds
decreases-rounds g l = g.T.Turns.work l.core
