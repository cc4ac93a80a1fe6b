use Rattle.vx_layout.proofs.LogSpelling.{head_serial, head_tail, head_head, count_again, homes_again}
use Rattle.vx_layout.proofs.spelling.log_fields.Goals as goal

pub returns-clause-serial : goal.returns-clause-serial
returns-clause-serial c = head_serial

pub returns-clause-tail : goal.returns-clause-tail
returns-clause-tail c = head_tail

pub returns-clause-head : goal.returns-clause-head
returns-clause-head c = head_head

pub returns-clause-count : goal.returns-clause-count
returns-clause-count c = count_again

pub returns-clause-homes : goal.returns-clause-homes
returns-clause-homes c = homes_again
