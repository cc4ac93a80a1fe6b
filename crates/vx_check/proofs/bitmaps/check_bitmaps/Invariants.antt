use Rattle.std.proofs.Common.{Bool}
use Rattle.std.specs.List.{flat_map, AllByRecursion}
use Rattle.vx_sound.specs.FirstFault.{numbers}
use Rattle.vx_sound.specs.Checks.{Holds, bitmap_checks}
use Rattle.vx_check.specs.Parts.{Known, HasRead}
use Rattle.vx_check.proofs.bitmaps.check_bitmaps.Given as goal

abbrev pub invariant-loop-u : goal.invariant-loop-u
invariant-loop-u g l = record {
  read : HasRead (g.D.Sectors.view l.fn.dev) (g.D.Sectors.view l.dev);
  known : (strict : Bool) → Known (g.D.Sectors.view l.dev) (λ image. AllByRecursion (Holds strict l.volume image) (flat_map bitmap_checks (numbers 0 l.u)));
}
