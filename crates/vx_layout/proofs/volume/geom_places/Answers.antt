use Rattle.vx_layout.proofs.Sizes.{geom_volume, geom_data, geom_fits}
use Rattle.vx_layout.proofs.volume.geom_places.Goals as goal

pub returns-clause-volume : goal.returns-clause-volume
returns-clause-volume c = geom_volume

pub returns-clause-data_blocks : goal.returns-clause-data_blocks
returns-clause-data_blocks c = geom_data

pub returns-clause-fits : goal.returns-clause-fits
returns-clause-fits c = geom_fits
