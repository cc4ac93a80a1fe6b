use Rattle.std.proofs.Common.{◌≡◌, false, sym, subst, ap, ◌∙◌, refl}
use Rattle.std.specs.Prelude.{Err}
use Rattle.vx_dev.specs.Tape.{now}
use Rattle.vx_replay.specs.ImageChecks.{IsFault}
use Rattle.vx_replay.specs.declared.image_check.CheckRefusal.TheVariants as no
use Rattle.vx_replay.proofs.ImageChecking.{front_of, unsettled, settled, fault_first, never_meta}
use Rattle.vx_replay.proofs.image_check.read_settled.Goals as goal

pub returns-in-Err-clause-fault : goal.returns-in-Err-clause-fault
returns-in-Err-clause-fault g c = λ t shows.
    let d = g.D.BlockDev.state c.args.dev.now in
    subst (IsFault c.args.strict d.size (now t)) (sym c.refusal_of.ensures)
    (fault_first d (g.D.BlockDev.state c.read_front.new.dev) c.args.strict d.size (now t) c.in-Err.why c.in-Err.ensures.cause
    (λ field is. c.read_front.ensures.bad_super t field shows (c.in-Err.is ∙ ap Err is))
    (λ sector is. c.read_front.ensures.bad_log t sector shows (c.in-Err.is ∙ ap Err is)))

pub returns-in-Err-clause-never : goal.returns-in-Err-clause-never
returns-in-Err-clause-never g c = λ sector is.
    never_meta (g.D.BlockDev.state c.args.dev.now) (g.D.BlockDev.state c.read_front.new.dev) c.in-Err.why sector c.in-Err.ensures.cause (let same : c.refusal_of.result ≡ no.BadMeta sector = cc in sym c.refusal_of.ensures ∙ same)

pub returns-then-is_unsettled-clause-fault : goal.returns-then-is_unsettled-clause-fault
returns-then-is_unsettled-clause-fault g c = λ t shows.
    let d = g.D.BlockDev.state c.args.dev.now in
    let f = c.in-Ok.front in
    let why = unsettled c.args.strict f.first.clean f.log.ends.tail f.log.ends.head (sym c.is_unsettled.ensures ∙ c.if-is_unsettled.true) in (
      why.0,
      record {
        front = front_of false d.size (now t) f c.in-Ok.ensures.sound (c.in-Ok.ensures.front t shows) (λ e. absurd cc) (λ e. absurd cc);
        tail_is = refl;
        head_is = refl;
        why = why.1;
      },
    )

pub returns-clause-settled : goal.returns-clause-settled
returns-clause-settled g c =
    let f = c.in-Ok.front in
    settled c.args.strict f.first.clean f.log.ends.tail f.log.ends.head (sym c.is_unsettled.ensures ∙ c.if-is_unsettled.false)
