use Rattle.std.proofs.Common.{◌≡◌, ℕ, List, sym, subst, ap, ◌∙◌, refl}
use Rattle.std.specs.Prelude.{Err}
use Rattle.vx_dev.specs.Tape.{now}
use Rattle.vx_layout.specs.LogForms.{overlay_all}
use Rattle.vx_replay.specs.BadImages.{checked_again}
use Rattle.vx_replay.specs.Fronts.{IsFrontOf}
use Rattle.vx_layout.specs.Supers.{volume_of}
use Rattle.vx_check.specs.Parts.{IsStopped}
use Rattle.vx_replay.specs.ImageChecks.{IsFault, IsPassed, HasBadMeta, laid}
use Rattle.vx_replay.specs.Stopped.{IsReadFrom}
use Rattle.vx_replay.proofs.LogReading.{still_shows}
use Rattle.vx_replay.proofs.ImageChecking.{front_of, fault_last, passed, bad_meta}
use Rattle.vx_replay.proofs.image_check.check.Goals as goal

pub returns-in-Err-loaded-clause-fault : goal.returns-in-Err-loaded-clause-fault
returns-in-Err-loaded-clause-fault g c = λ t shows.
    let d = g.D.BlockDev.state c.args.dev.now in
    let f = c.in-Ok.front in
    let is = c.in-Ok.ensures.front t shows in
    let level = c.in-Ok.ensures.settled in
    subst (IsFault c.args.strict d.size (now t)) (sym c.refusal_of.ensures)
    (fault_last c.args.strict d.size (now t) c.in-Err-loaded.why c.in-Err-loaded.ensures.cause
    (λ field same. record {
      front = front_of c.args.strict d.size (now t) f c.in-Ok.ensures.sound is (λ e. (level e).0) (λ e. (level e).1);
      last_is = ap (λ (n : ℕ). checked_again n f.first.log_blocks (overlay_all f.log.records.items 0 (now t 0))) (sym c.sectors-size.ensures)
          ∙ ap (λ (x : List ℕ). checked_again c.sectors-size.result f.first.log_blocks (overlay_all f.log.records.items 0 x)) is.here
          ∙ c.loaded.ensures.bad field (c.in-Err-loaded.is ∙ ap Err same);
    }))

pub returns-in-Ok-check_stopped-clause-passed : goal.returns-in-Ok-check_stopped-clause-passed
returns-in-Ok-check_stopped-clause-passed g c = λ t shows.
    let d0 = g.D.BlockDev.state c.args.dev.now in
    let d1 = g.D.BlockDev.state c.read_settled.new.dev in
    let f = c.in-Ok.front in
    let s = c.in-Ok-loaded.stopped in
    let size : d0.size ≡ d1.size = sym c.in-Ok.ensures.unwritten.size in
    let first = c.in-Ok.ensures.front t shows in
    let is : IsFrontOf d1.size (now t) f = subst (λ (n : ℕ). IsFrontOf n (now t) f) size first in
    let read0 : IsReadFrom c.sectors-size.result (now t) s = c.in-Ok-loaded.ensures.read (now t) (subst (λ (n : ℕ). IsFrontOf n (now t) f) (sym c.sectors-size.ensures) first) in
    let read : IsReadFrom d1.size (now t) s = subst (λ (n : ℕ). IsReadFrom n (now t) s) (c.sectors-size.ensures ∙ size) read0 in
    let level = c.in-Ok.ensures.settled in
    subst (λ (n : ℕ). IsPassed c.args.strict n (now t) (record { superblock = s.superblock; tail = f.log.ends.tail; head = f.log.ends.head })) (sym size)
    (passed c.note_laws.ensures c.super_spelling.ensures.again c.args.strict d1.size (now t) f s is read c.in-Ok-loaded.ensures.sound.superblock c.in-Ok-loaded.ensures.ends.0 c.in-Ok-loaded.ensures.ends.1 (λ e. (level e).0) (λ e. (level e).1)
    (c.in-Ok-check_stopped.ensures.finds t (still_shows d0 d1 t c.in-Ok.ensures.unwritten shows) read) (record { superblock = s.superblock; tail = f.log.ends.tail; head = f.log.ends.head }) refl refl refl)

pub returns-in-Err-BadMeta-clause-fault : goal.returns-in-Err-BadMeta-clause-fault
returns-in-Err-BadMeta-clause-fault g c = λ t shows.
    let d0 = g.D.BlockDev.state c.args.dev.now in
    let d1 = g.D.BlockDev.state c.read_settled.new.dev in
    let f = c.in-Ok.front in
    let s = c.in-Ok-loaded.stopped in
    let size : d0.size ≡ d1.size = sym c.in-Ok.ensures.unwritten.size in
    let first = c.in-Ok.ensures.front t shows in
    let is : IsFrontOf d1.size (now t) f = subst (λ (n : ℕ). IsFrontOf n (now t) f) size first in
    let read0 : IsReadFrom c.sectors-size.result (now t) s = c.in-Ok-loaded.ensures.read (now t) (subst (λ (n : ℕ). IsFrontOf n (now t) f) (sym c.sectors-size.ensures) first) in
    let read : IsReadFrom d1.size (now t) s = subst (λ (n : ℕ). IsReadFrom n (now t) s) (c.sectors-size.ensures ∙ size) read0 in
    let level = c.in-Ok.ensures.settled in
    subst (HasBadMeta c.args.strict d0.size (now t)) (sym c.from.ensures) (subst (λ (n : ℕ). HasBadMeta c.args.strict n (now t) c.in-Err-BadMeta.sector) (sym size)
    (bad_meta c.note_laws.ensures c.super_spelling.ensures.again c.args.strict d1.size (now t) f s is read c.in-Ok-loaded.ensures.sound.superblock c.in-Ok-loaded.ensures.ends.0 c.in-Ok-loaded.ensures.ends.1 (λ e. (level e).0) (λ e. (level e).1) c.in-Err-BadMeta.sector
    (subst (IsStopped c.args.strict (volume_of s.superblock) (laid read.records (now t))) c.in-Err-BadMeta.field-0-is (c.in-Err-BadMeta.ensures.finds t (still_shows d0 d1 t c.in-Ok.ensures.unwritten shows) read))))
