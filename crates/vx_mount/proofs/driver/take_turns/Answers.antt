use Rattle.std.proofs.Common.{◌<◌, length, get_or, take, sym, subst, arith}
use Rattle.std.proofs.lemmas.List.{take_more}
use Rattle.vx_mount.specs.Cores.{TakesTurns}
use Rattle.vx_mount.proofs.Stepping.{turns_more}
use Rattle.vx_mount.proofs.driver.take_turns.Goals as goal

pub schedule-preserved : goal.schedule-preserved
schedule-preserved g c =
    let actors = c.args.actors.now in
    let i = c.schedule.actor-index in
    let lt : i < length actors = omega arith in
    let old = g.T.Turns.view c.args.core.now in
    let now = g.T.Turns.view c.turn.new.self in
    record {
      turns = subst (λ a. TakesTurns old a now) (sym (take_more actors i 0 lt))
          (turns_more old (g.T.Turns.view c.schedule.core) now (take i actors) (get_or actors i 0) c.turn.result c.schedule.invariant.turns c.turn.ensures.turn);
      sound = c.turn.ensures.sound;
      kept = λ o k. c.turn.ensures.kept o (c.schedule.invariant.kept o k);
    }
