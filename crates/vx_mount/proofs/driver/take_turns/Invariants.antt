use Rattle.std.proofs.Common.{take}
use Rattle.vx_mount.specs.Cores.{TakesTurns, Opening}
use Rattle.vx_mount.proofs.driver.take_turns.Given as goal

-- the turns so far
abbrev pub invariant-schedule : goal.invariant-schedule
invariant-schedule g l = record {
  turns : TakesTurns (g.T.Turns.view l.initial.core) (take l.actor-index l.actors) (g.T.Turns.view l.core);
  sound : g.T.Turns.sound l.core;
  kept : (o : Opening) → g.T.Turns.kept o l.initial.core → g.T.Turns.kept o l.core;
}
