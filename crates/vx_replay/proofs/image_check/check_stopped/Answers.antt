use Rattle.std.proofs.Common.{◌≡◌, ℕ, List, subst}
use Rattle.std.specs.Prelude.{Option, Some}
use Rattle.vx_dev.specs.Tape.{State, Tape, now}
use Rattle.vx_layout.specs.LogForms.{AfterImage, overlay}
use Rattle.vx_layout.specs.Places.{Volume}
use Rattle.vx_layout.specs.Supers.{volume_of}
use Rattle.vx_sound.specs.Sound.{IsSound}
use Rattle.vx_check.specs.Overlays.{image_shown}
use Rattle.vx_check.specs.Parts.{IsStopped}
use Rattle.vx_replay.specs.LogReads.{Shows}
use Rattle.vx_replay.proofs.ImageChecking.{laid_is}
use Rattle.vx_replay.proofs.image_check.check_stopped.Goals as goal

seen : (d : State) (t : Tape) (homes : List AfterImage) → Shows d t → image_shown d.told d.doubt homes ≡ Some (λ (q : ℕ). overlay homes q (now t q))
seen d t homes shows = λ i. image_shown (shows.told i) (shows.certain i) homes

pub returns-in-Ok-clause-finds : goal.returns-in-Ok-clause-finds
returns-in-Ok-clause-finds g c = λ t shows h.
    let d = g.D.BlockDev.state c.args.dev.now in
    let homes = c.args.stopped.now.homes in
    let over : ℕ → List ℕ = λ q. overlay homes q (now t q) in
    subst (IsSound c.args.strict (volume_of c.args.stopped.now.superblock)) (laid_is c.note_laws.ensures d.size (now t) c.args.stopped.now h)
    (subst (λ (v : Volume). IsSound c.args.strict v over) c.volume-volume.ensures (c.in-Ok.ensures.finds over (seen d t homes shows)))

pub returns-in-Err-clause-finds : goal.returns-in-Err-clause-finds
returns-in-Err-clause-finds g c = λ t shows h.
    let d = g.D.BlockDev.state c.args.dev.now in
    let homes = c.args.stopped.now.homes in
    let over : ℕ → List ℕ = λ q. overlay homes q (now t q) in
    subst (λ (image : ℕ → List ℕ). IsStopped c.args.strict (volume_of c.args.stopped.now.superblock) image c.in-Err.why) (laid_is c.note_laws.ensures d.size (now t) c.args.stopped.now h)
    (subst (λ (v : Volume). IsStopped c.args.strict v over c.in-Err.why) c.volume-volume.ensures (c.in-Err.ensures.finds over (seen d t homes shows)))
