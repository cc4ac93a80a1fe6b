use Rattle.vx_sound.proofs.Readings as readings
use Rattle.vx_sound.proofs.Volumes.{spelling}
use Rattle.vx_sound.proofs.reading_laws.Goals as goal

pub returns : goal.returns
returns c = record { stands = λ strict v image whole. readings.stands strict v image (spelling v whole) }
