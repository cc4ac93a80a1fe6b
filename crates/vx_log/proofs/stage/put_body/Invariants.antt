use Rattle.std.proofs.Common.{◌≡◌, ◌+◌}
use Rattle.std.specs.Prelude.{slice_range}
use Rattle.vx_layout.specs.LogForms.{body_of}
use Rattle.vx_dev.specs.Runs.{Ran, puts}
use Rattle.vx_log.specs.Writes.{log_writes}
use Rattle.vx_log.proofs.stage.put_body.Given as goal

abbrev pub invariant-loop-i : goal.invariant-loop-i
invariant-loop-i g l = record {
  ran : Ran (puts (log_writes l.sectors (l.head + l.from) (slice_range (body_of l.head l.batch) l.from l.i))) (g.D.BlockDev.state l.fn.dev) (g.D.BlockDev.state l.dev);
  certain : (g.D.BlockDev.state l.dev).doubt ≡ (g.D.BlockDev.state l.fn.dev).doubt;
  reads : (g.D.BlockDev.state l.dev).read_faults ≡ (g.D.BlockDev.state l.fn.dev).read_faults;
  fine : (g.D.BlockDev.state l.dev).write_faults ≡ (g.D.BlockDev.state l.fn.dev).write_faults;
}
