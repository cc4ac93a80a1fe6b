use Rattle.std.proofs.Common.{◌≡◌, ◌+◌, ◌≤◌}
use Rattle.vx_layout.specs.Places.{bitmap_sector}
use Rattle.vx_layout.specs.Supers.{volume_of}
use Rattle.vx_dev.specs.Moments.{Told}
use Rattle.vx_dev.specs.Runs.{Onward}
use Rattle.vx_mkfs.proofs.Formatted.{IsWithin}
use Rattle.vx_mkfs.proofs.formatting.put_unit.Given as goal

abbrev pub invariant-loop-i : goal.invariant-loop-i
invariant-loop-i g l = record {
  start : l.start ≡ bitmap_sector (volume_of l.initial.superblock) l.initial.u;
  limit : l.i ≤ 66;
  within : Told (g.D.BlockDev.state l.dev) (IsWithin (volume_of l.initial.superblock) l.initial.u l.i);
  onward : Onward (g.D.BlockDev.state l.initial.dev) (g.D.BlockDev.state l.dev);
  count : (g.D.BlockDev.state l.dev).count ≡ (g.D.BlockDev.state l.initial.dev).count + l.i;
  fine : (g.D.BlockDev.state l.dev).write_faults ≡ (g.D.BlockDev.state l.initial.dev).write_faults;
}
