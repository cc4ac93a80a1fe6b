use Rattle.vx_layout.proofs.LogSpelling.{heads_same, records_same}
use Rattle.vx_layout.proofs.spelling.log_spelling.Goals as goal

pub returns-clause-head : goal.returns-clause-head
returns-clause-head c = heads_same

pub returns-clause-records : goal.returns-clause-records
returns-clause-records c = records_same
