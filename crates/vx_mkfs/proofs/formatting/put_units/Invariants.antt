use Rattle.std.proofs.Common.{◌≡◌, ◌+◌, ◌*◌}
use Rattle.vx_layout.specs.Supers.{volume_of}
use Rattle.vx_dev.specs.Moments.{Told}
use Rattle.vx_dev.specs.Runs.{Onward}
use Rattle.vx_mkfs.specs.Formats.{HasUnits}
use Rattle.vx_mkfs.proofs.formatting.put_units.Given as goal

abbrev pub invariant-loop-u : goal.invariant-loop-u
invariant-loop-u g l = record {
  units : Told (g.D.BlockDev.state l.dev) (HasUnits (volume_of l.initial.superblock) l.u);
  onward : Onward (g.D.BlockDev.state l.initial.dev) (g.D.BlockDev.state l.dev);
  count : (g.D.BlockDev.state l.dev).count ≡ (g.D.BlockDev.state l.initial.dev).count + 66 * l.u;
  fine : (g.D.BlockDev.state l.dev).write_faults ≡ (g.D.BlockDev.state l.initial.dev).write_faults;
}
