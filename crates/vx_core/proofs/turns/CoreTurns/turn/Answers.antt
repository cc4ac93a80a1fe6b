use Rattle.std.proofs.Common.{◌<◌, sym, subst, ◌∙◌}
use Rattle.vx_core.specs.Facts.{AreFree}
use Rattle.vx_core.proofs.ScriptLines.{length_script}
use Rattle.vx_core.proofs.turns.CoreTurns.turn.Goals as goal

pub take_turn-requires-clause-actor : goal.take_turn-requires-clause-actor
take_turn-requires-clause-actor g c =
    let core = c.args.self.now in
    subst (λ n. c.args.actor < n) (length_script core.lines (g.M.Calls.view core.mount).history ∙ sym c.requires.sound.facts.counts) c.requires.actor

pub returns-clause-sound : goal.returns-clause-sound
returns-clause-sound g c = record { free = subst AreFree (sym c.take_turn.ensures.locks) c.requires.sound.free; world = c.requires.sound.world; facts = c.take_turn.ensures.kept c.requires.sound.world c.requires.sound.facts; room = c.take_turn.ensures.room }

pub returns-clause-kept : goal.returns-clause-kept
returns-clause-kept g c = λ o kept. record { facts = c.take_turn.ensures.kept o.world kept.facts; order = c.take_turn.ensures.order o.write_faults kept.order; logging = c.take_turn.ensures.logging ∙ kept.logging }
