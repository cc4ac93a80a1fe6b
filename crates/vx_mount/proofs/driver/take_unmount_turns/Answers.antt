use Rattle.vx_mount.proofs.Stepping.{unmount_begins, unmount_goes_on}
use Rattle.vx_mount.proofs.driver.take_unmount_turns.Goals as goal
use Rattle.vx_mount.proofs.driver.take_unmount_turns.Goals.{in-Turned, in_default}

pub turns-init : goal.turns-init
turns-init g c = record { so_far = unmount_begins (g.T.Turns.view c.args.core.now) c.requires.finished; sound = c.requires.sound; kept = λ o k. k }

pub turns-preserved : goal.turns-preserved
turns-preserved g c = record {
  so_far = elim c.match-matches.branch [
    | in-Turned w ↦ unmount_goes_on (g.T.Turns.view c.args.core.now) (g.T.Turns.view c.turns.core) (g.T.Turns.view c.unmount_turn.new.self) c.turns.invariant.so_far w.in-Turned.ensures.turn
    | in_default w ↦ absurd (cc)
  ];
  sound = c.unmount_turn.ensures.sound;
  kept = λ o k. c.unmount_turn.ensures.kept o (c.turns.invariant.kept o k);
}
