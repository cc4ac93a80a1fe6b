use Rattle.vx_wellformed.proofs.laws.sound_alike.Goals as goal

pub returns : goal.returns
returns c = c.alike_laws.ensures.sound
