use Rattle.std.proofs.Common.{true}
use Rattle.vx_said.proofs.Files.{said_files}
use Rattle.vx_said.proofs.laws.said_files.Goals as goal

pub returns : goal.returns
returns c v device_sectors image sizes room sound pages =
    said_files (record { reading = c.reading_laws.ensures; claim = c.claim_laws.ensures; once = c.sound_laws.ensures.claimed_once true }) v device_sectors image
    (record { sizes = sizes; room = room; sound = sound; pages = pages })
