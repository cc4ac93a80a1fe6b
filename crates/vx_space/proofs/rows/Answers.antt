use Rattle.std.proofs.Common.{refl}
use Rattle.vx_space.specs.Placement.{run_start, aligned_start}
use Rattle.vx_space.proofs.rows.Goals as goal

pub returns-clause-run : goal.returns-clause-run
unfolding run_start
returns-clause-run c = refl

pub returns-clause-aligned : goal.returns-clause-aligned
unfolding aligned_start
returns-clause-aligned c = refl
