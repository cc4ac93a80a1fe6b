use Rattle.vx_layout.proofs.Standing.{super_volume, super_fits, past_log, on_device}
use Rattle.vx_layout.proofs.volume.super_places.Goals as goal

pub returns-clause-volume : goal.returns-clause-volume
returns-clause-volume c = super_volume

pub returns-clause-fits : goal.returns-clause-fits
returns-clause-fits c = super_fits

pub returns-clause-past_log : goal.returns-clause-past_log
returns-clause-past_log c = past_log

pub returns-clause-on_device : goal.returns-clause-on_device
returns-clause-on_device c = on_device
