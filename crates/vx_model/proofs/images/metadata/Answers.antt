use Rattle.vx_model.proofs.Standing.{metadata_stands, stands_metadata, metadata_inside}
use Rattle.vx_model.proofs.images.metadata.Goals as goal

pub returns-clause-stands : goal.returns-clause-stands
returns-clause-stands c = metadata_stands

pub returns-clause-holds : goal.returns-clause-holds
returns-clause-holds c = stands_metadata

pub returns-clause-inside : goal.returns-clause-inside
returns-clause-inside c = metadata_inside
