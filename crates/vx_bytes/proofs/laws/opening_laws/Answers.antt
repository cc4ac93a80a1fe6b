use Rattle.vx_bytes.proofs.FileCalls.{laid_spaces}
use Rattle.vx_bytes.proofs.Opening.{opened_files, start_uses, fresh_files, fresh_uses}
use Rattle.vx_bytes.proofs.laws.opening_laws.Goals as goal

pub returns : goal.returns
returns c = record { files = opened_files; blocks = λ o laid. start_uses o laid (laid_spaces o.state laid); fresh = fresh_files; fresh_blocks = fresh_uses }
