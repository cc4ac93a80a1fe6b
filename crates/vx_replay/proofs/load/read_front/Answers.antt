use Rattle.std.proofs.Common.{◌≡◌, ◌*◌, ℕ, sym, subst, ap, ◌∙◌}
use Rattle.std.specs.Prelude.{Ok, Err}
use Rattle.vx_dev.specs.Tape.{now}
use Rattle.vx_replay.specs.BadImages.{checked_super, WhyBadLog}
use Rattle.vx_replay.specs.declared.refusal.ReplayRefusal.TheVariants.{BadLog}
use Rattle.vx_replay.proofs.BadReads.{first_read}
use Rattle.vx_replay.proofs.LogReading.{still_shows}
use Rattle.vx_replay.proofs.load.read_front.Goals as goal

pub returns-in-Err-read_log-clause-bad_log : goal.returns-in-Err-read_log-clause-bad_log
returns-in-Err-read_log-clause-bad_log g c = λ t sector shows is.
    let d0 = g.D.BlockDev.state c.args.dev.now in
    let d1 = g.D.BlockDev.state c.read_sector.new.dev in
    let why : c.in-Err-read_log.why ≡ BadLog sector = cc in
    let first = c.in-Ok-checked_super.first in
    record {
      first = first;
      first_is = first_read d0.size (now t) c.in-Ok.first_sector (Ok first) (λ none. c.if-size-eq0.false (c.sectors-size.ensures ∙ none)) (c.in-Ok.ensures.value t shows)
          (sym c.in-Ok-checked_super.is ∙ c.checked_super.ensures.exact ∙ ap (λ (n : ℕ). checked_super n c.in-Ok.first_sector) c.sectors-size.ensures);
      why = subst (λ (size : ℕ). WhyBadLog size (now t) (2 * first.log_blocks) sector) c.in-Ok.ensures.read.size
          (c.read_log.ensures.bad t sector (still_shows d0 d1 t c.in-Ok.ensures.read shows) (c.in-Err-read_log.is ∙ ap Err why));
    }
