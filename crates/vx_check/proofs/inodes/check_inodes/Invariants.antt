use Rattle.std.proofs.Common.{◌≡◌, true, length}
use Rattle.vx_sound.specs.Said.{inode_count}
use Rattle.vx_check.specs.Parts.{Known, HasRead, HasRoom}
use Rattle.vx_check.specs.Reaching.{AreInside}
use Rattle.vx_check.proofs.Passing.{ArePassed}
use Rattle.vx_check.proofs.Keeping.{AreContentsBelow}
use Rattle.vx_check.proofs.inodes.check_inodes.Given as goal

abbrev pub invariant-loop-n : goal.invariant-loop-n
invariant-loop-n g l = record {
  read : HasRead (g.D.Sectors.view l.fn.dev) (g.D.Sectors.view l.dev);
  room : HasRoom l.volume l.marks;
  count : length l.children.items ≡ l.n;
  inside : AreInside (inode_count l.volume) l.children.items;
  kept : l.keep ≡ true → length l.contents.items ≡ l.n;
  contents : Known (g.D.Sectors.view l.dev) (λ image. l.keep ≡ true → AreContentsBelow l.volume image l.n l.contents.items);
  known : Known (g.D.Sectors.view l.dev) (λ image. ArePassed l.volume image l.n l.marks l.children.items);
}
