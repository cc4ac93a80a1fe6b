use Rattle.vx_mount.proofs.Stepping.{no_rounds, rounds_more, driven}
use Rattle.vx_mount.proofs.Taking.{answers_driven}
use Rattle.vx_mount.proofs.driver.drive.Goals as goal

pub rounds-init : goal.rounds-init
rounds-init g c = record { rounds = no_rounds (g.T.Turns.view c.take_turns.new.core); sound = c.take_turns.ensures.sound; kept = λ o k. k }

pub rounds-preserved : goal.rounds-preserved
rounds-preserved g c = record {
  rounds = rounds_more (g.T.Turns.view c.take_turns.new.core) (g.T.Turns.view c.rounds.core) (g.T.Turns.view c.turn_round.new.core) c.rounds.invariant.rounds c.turn_round.ensures.round;
  sound = c.turn_round.ensures.sound;
  kept = λ o k. c.turn_round.ensures.kept o (c.rounds.invariant.kept o k);
}

pub returns-clause-kept : goal.returns-clause-kept
returns-clause-kept g c = λ o k. c.turn_round.ensures.kept o (c.rounds.invariant.kept o (c.take_turns.ensures.kept o k))

pub returns-clause-driven : goal.returns-clause-driven
returns-clause-driven g c =
    let begun = g.T.Turns.view c.take_turns.new.core in
    let new = g.T.Turns.view c.turn_round.new.core in
    driven (g.T.Turns.view c.args.core.now) begun new c.args.schedule.now c.take_turns.ensures.turns
    (rounds_more begun (g.T.Turns.view c.rounds.core) new c.rounds.invariant.rounds c.turn_round.ensures.round)
    (c.turn_round.ensures.ended c.rounds-test.false)

pub returns-clause-answers : goal.returns-clause-answers
returns-clause-answers g c = λ b.
    let begun = g.T.Turns.view c.take_turns.new.core in
    let new = g.T.Turns.view c.turn_round.new.core in
    answers_driven (g.T.Turns.view c.args.core.now) c.args.schedule.now new
    (driven (g.T.Turns.view c.args.core.now) begun new c.args.schedule.now c.take_turns.ensures.turns
    (rounds_more begun (g.T.Turns.view c.rounds.core) new c.rounds.invariant.rounds c.turn_round.ensures.round)
    (c.turn_round.ensures.ended c.rounds-test.false))
    b
