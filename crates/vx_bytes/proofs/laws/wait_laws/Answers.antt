use Rattle.vx_bytes.proofs.Waiting.{waiting_begins, waiting_event, waiting_close, waiting_commit}
use Rattle.vx_bytes.proofs.laws.wait_laws.Goals as goal

pub returns : goal.returns
returns c = record { begins = waiting_begins; event = waiting_event; close = waiting_close; commit = waiting_commit }
