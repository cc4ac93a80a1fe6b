use Rattle.std.proofs.Common.{◌≡◌, ◌+◌, List, sym, ◌∙◌, ap}
use Rattle.std.specs.Prelude.{IfOk, Result, Ok, Err}
use Rattle.vx_dev.specs.Tape.{now}
use Rattle.vx_layout.specs.LogForms.{AfterImage, homes_of, descriptor, log_at, record_sectors}
use Rattle.vx_replay.specs.LogReads.{images_of, StandThere}
use Rattle.vx_replay.specs.declared.refusal.ReplayRefusal.{ReplayRefusal}
use Rattle.vx_replay.proofs.LogReading.{still_shows, stand_record}
use Rattle.vx_replay.proofs.read.read_record.Goals as goal

both_ok : (r : Result (List AfterImage) ReplayRefusal) (P Q R : List AfterImage → Type 0) → ((x : List AfterImage) → P x → Q x → R x) → IfOk r P → IfOk r Q → IfOk r R
both_ok (Ok x) P Q R f h k = f x h k
both_ok (Err e) P Q R f h k = tt

pub returns-else-head-position-clause-stand : goal.returns-else-head-position-clause-stand
returns-else-head-position-clause-stand g c = λ t shows.
    let n = c.args.sectors in
    let position = c.args.position in
    let first : now t (log_at n position) ≡ descriptor position c.homes-homes.result.now =
    ap (now t) (sym c.log_sector-place.ensures.place) ∙ sym (c.in-Ok.ensures.value t shows) ∙ c.in-Some.ensures.found.1 ∙ ap (descriptor position) (sym c.homes-homes.ensures) in
    let later = still_shows (g.D.BlockDev.state c.args.dev.now) (g.D.BlockDev.state c.read_sector.new.dev) t c.read_sector.ensures.read shows in
    both_ok c.read_images.result (λ r. homes_of r ≡ c.homes-homes.result.now) (λ r. StandThere n (now t) (position + 1) (images_of r)) (λ r. StandThere n (now t) position (record_sectors position r))
    (λ r homes images. stand_record n (now t) position r (first ∙ ap (descriptor position) (sym homes)) images)
    c.read_images.ensures.homes (c.read_images.ensures.images t later)
