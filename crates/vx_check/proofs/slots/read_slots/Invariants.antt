use Rattle.vx_check.specs.Parts.{Known, HasRead}
use Rattle.vx_check.specs.Slots.{AreSlotsRead, HaveForms, AreLong}
use Rattle.vx_check.proofs.slots.read_slots.Given as goal

abbrev pub invariant-loop-n : goal.invariant-loop-n
invariant-loop-n g l = record {
  read : HasRead (g.D.Sectors.view l.fn.dev) (g.D.Sectors.view l.dev);
  long : AreLong l.n l.values.items l.bad.items l.used.items;
  forms : HaveForms l.values.items;
  known : Known (g.D.Sectors.view l.dev) (λ image. AreSlotsRead l.volume image l.n l.values.items l.bad.items l.used.items);
}
