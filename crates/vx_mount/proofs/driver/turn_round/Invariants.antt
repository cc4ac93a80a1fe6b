use Rattle.vx_mount.specs.Cores.{CanGoOn, Opening}
use Rattle.vx_mount.proofs.Going.{Round}
use Rattle.vx_mount.proofs.driver.turn_round.Given as goal

-- the round so far
abbrev pub invariant-round : goal.invariant-round
invariant-round g l = record {
  keeps : CanGoOn (g.T.Turns.view l.initial.core);
  round : Round g.T.Turns.view g.T.Turns.work l.initial.core l.core l.actor l.busy;
  sound : g.T.Turns.sound l.core;
  kept : (o : Opening) → g.T.Turns.kept o l.initial.core → g.T.Turns.kept o l.core;
}
