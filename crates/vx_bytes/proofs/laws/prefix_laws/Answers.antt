use Rattle.vx_bytes.proofs.AllFiles.{files_renewed}
use Rattle.vx_bytes.proofs.Filing.{files_close, files_commit}
use Rattle.vx_bytes.proofs.laws.prefix_laws.Goals as goal

pub returns : goal.returns
returns c = record { close = files_close; commit = files_commit; renewed = files_renewed }
