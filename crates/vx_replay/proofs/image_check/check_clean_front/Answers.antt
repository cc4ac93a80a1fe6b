use Rattle.std.proofs.Common.{true, refl, ◌∙◌}
use Rattle.vx_dev.specs.Tape.{now}
use Rattle.vx_replay.proofs.ImageChecking.{front_of}
use Rattle.vx_replay.proofs.image_check.check_clean_front.Goals as goal

pub returns-in-Ok-clause-is : goal.returns-in-Ok-clause-is
returns-in-Ok-clause-is g c =
    let sound = c.in-Ok.ensures.sound in
    let settled = c.in-Ok.ensures.settled refl in
    record { is_super = sound.is; clean = settled.1; room = sound.room; is_ends = sound.ends; level = settled.0 }

pub returns-in-Ok-clause-shows : goal.returns-in-Ok-clause-shows
returns-in-Ok-clause-shows g c = λ t shows.
    let d = g.D.BlockDev.state c.args.dev.now in
    let f = c.in-Ok.front in
    let is = c.in-Ok.ensures.front t shows in
    record {
      front = front_of true d.size (now t) f c.in-Ok.ensures.sound is (λ e. (c.in-Ok.ensures.settled e).0) (λ e. (c.in-Ok.ensures.settled e).1);
      first = refl;
      ends = refl;
      superblock_is = is.here ∙ is.spelled;
      head_is = is.head_is;
    }
