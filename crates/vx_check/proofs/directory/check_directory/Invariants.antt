use Rattle.std.proofs.Common.{◌≡◌, length, take}
use Rattle.std.specs.Prelude.{map}
use Rattle.vx_sound.specs.Said.{entries_said}
use Rattle.vx_check.specs.Parts.{Known, HasRead}
use Rattle.vx_check.specs.Directories.{AreBelow}
use Rattle.vx_check.proofs.Directories.{IsRead}
use Rattle.vx_check.proofs.directory.check_directory.Given as goal

abbrev pub invariant-loop-k : goal.invariant-loop-k
invariant-loop-k g l = record {
  read : HasRead (g.D.Sectors.view l.fn.dev) (g.D.Sectors.view l.dev);
  below : AreBelow (length l.used) l.targets.items;
  listed : Known (g.D.Sectors.view l.dev) (λ image. l.listed.items ≡ map (entries_said l.volume image) (take l.k l.blocks));
  known : Known (g.D.Sectors.view l.dev) (λ image. IsRead l.volume image l.ino l.blocks l.names l.targets.items l.k);
}
