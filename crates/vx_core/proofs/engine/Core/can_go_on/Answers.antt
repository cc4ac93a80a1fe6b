use Rattle.vx_core.proofs.engine.Core.can_go_on.Goals as goal

pub returns : goal.returns
returns g c = record { order = c.requires.sound.1.script.order; holders = λ _ ino holder e. absurd (c.requires.free ino holder e) }
