use Rattle.std.proofs.Common.{◌++◌, ◌∷◌, []}
use Rattle.vx_bytes.specs.Histories.{present}
use Rattle.vx_bytes.proofs.FileCalls.{laid_spaces}
use Rattle.vx_bytes.proofs.BlockTurns.{uses_event, uses_close, uses_commit}
use Rattle.vx_bytes.proofs.Releasing.{uses_release}
use Rattle.vx_bytes.proofs.laws.block_laws.Goals as goal

pub returns : goal.returns
returns c = record { happens = λ o h e committed closing low low_closing laid gives stays old. uses_event o h e committed closing low low_closing laid.use_of_blocks (laid_spaces (present o (h ++ e ∷ [])) laid) gives stays old; release = uses_release; close = uses_close; commit = uses_commit }
