use Rattle.std.proofs.Common.{◌≡◌, not, ◌||◌, ◌+◌, length, sym, ap, subst, arith}
use Rattle.vx_mount.specs.Cores.{TakesTurns}
use Rattle.vx_grammar.specs.Orders.{below}
use Rattle.vx_mount.proofs.Going.{Round, round_begins, round_goes_on, round_works}
use Rattle.vx_mount.proofs.driver.turn_round.Goals as goal

pub round-init : goal.round-init
round-init g c = record { keeps = c.facts.ensures; round = round_begins g.T.Turns.view g.T.Turns.work c.args.core.now; sound = c.requires; kept = λ o k. k }

pub round-preserved : goal.round-preserved
round-preserved g c = record {
  keeps = c.round.invariant.keeps;
  round = subst (λ b. Round g.T.Turns.view g.T.Turns.work c.args.core.now c.turn-answer.new.self (c.round.actor + 1) (c.round.busy || not b)) (sym c.is_finished.ensures)
      (round_goes_on g.T.Turns.view g.T.Turns.work c.args.core.now c.round.core c.turn-answer.new.self c.round.actor c.round.busy c.turn-answer.result
      c.turn-answer.ensures.turn c.turn-answer.ensures.less c.turn-answer.ensures.idle c.round.invariant.round);
  sound = c.turn-answer.ensures.sound;
  kept = λ o k. c.turn-answer.ensures.kept o (c.round.invariant.kept o k);
}

pub returns-clause-round : goal.returns-clause-round
returns-clause-round g c =
    let all : c.round.actor ≡ length (g.T.Turns.view c.args.core.now).lines = omega (arith, c.sessions-actor-end.ensures) in
    subst (λ n. TakesTurns (g.T.Turns.view c.args.core.now) (below n) (g.T.Turns.view c.round.core)) all c.round.invariant.round.turns

pub returns-clause-less : goal.returns-clause-less
returns-clause-less g c = λ e.
    let all : c.round.actor ≡ length (g.T.Turns.view c.args.core.now).lines = omega (arith, c.sessions-actor-end.ensures) in
    round_works g.T.Turns.view g.T.Turns.work c.args.core.now c.round.core c.round.actor all c.round.invariant.keeps
    (c.order_law.ensures (g.T.Turns.view c.args.core.now).lines c.round.invariant.keeps.order)
    (subst (λ b. Round g.T.Turns.view g.T.Turns.work c.args.core.now c.round.core c.round.actor b) e c.round.invariant.round)

pub returns-clause-ended : goal.returns-clause-ended
returns-clause-ended g c = λ e session lt.
    let same : length (g.T.Turns.view c.round.core).lines ≡ length (g.T.Turns.view c.args.core.now).lines = ap length c.round.invariant.round.turns.same_lines in
    (c.round.invariant.round.idle e).1.ended e session (omega (arith, c.sessions-actor-end.ensures))
