use Rattle.std.proofs.Common.{◌≡◌}
use Rattle.std.specs.Prelude.{is_some, nat_lt}
use Rattle.vx_check.specs.Parts.{Known, HasRead, HasRoom}
use Rattle.vx_check.proofs.MapChains.{IsGoing}
use Rattle.vx_check.proofs.chain.check_maps.Given as goal

abbrev pub invariant-loop-k : goal.invariant-loop-k
invariant-loop-k g l = record {
  read : HasRead (g.D.Sectors.view l.fn.dev) (g.D.Sectors.view l.dev);
  room : HasRoom l.volume l.marks;
  more : is_some l.at ≡ nat_lt l.k l.value.maps;
  known : Known (g.D.Sectors.view l.dev) (λ image. IsGoing l.volume image l.ino l.value l.marks l.k l.at l.fn.extents.items l.extents.items l.maps.items);
}
