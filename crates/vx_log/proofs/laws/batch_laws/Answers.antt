use Rattle.vx_log.proofs.Bodies.{length-body}
use Rattle.vx_log.proofs.Overlays.{overlay_all-records_of, overlay-batch_set, overlay_lacks, batch_decides}
use Rattle.vx_log.proofs.RecordForms.{records_form}
use Rattle.vx_log.proofs.laws.batch_laws.Goals as goal

pub returns-clause-records : goal.returns-clause-records
returns-clause-records c = overlay_all-records_of

pub returns-clause-set : goal.returns-clause-set
returns-clause-set c = overlay-batch_set

pub returns-clause-lacks : goal.returns-clause-lacks
returns-clause-lacks c = overlay_lacks

pub returns-clause-decides : goal.returns-clause-decides
returns-clause-decides c = batch_decides

pub returns-clause-length : goal.returns-clause-length
returns-clause-length c = length-body

pub returns-clause-form : goal.returns-clause-form
returns-clause-form c = records_form
