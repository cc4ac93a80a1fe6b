use Rattle.std.proofs.Common.{◌≡◌, take}
use Rattle.vx_dev.specs.Tape.{Tape, now}
use Rattle.vx_layout.specs.LogForms.{homes_of}
use Rattle.vx_replay.specs.LogReads.{Shows, IsRead, images_of, StandThere}
use Rattle.vx_replay.proofs.read.read_images.Given as goal

-- the after-images so far
abbrev pub invariant-loop-i : goal.invariant-loop-i
invariant-loop-i g l = record {
  read : IsRead (g.D.BlockDev.state l.fn.dev) (g.D.BlockDev.state l.dev);
  homes : homes_of l.record ≡ take l.i l.homes;
  images : (t : Tape) → Shows (g.D.BlockDev.state l.fn.dev) t → StandThere l.sectors (now t) l.position (images_of l.record);
}
