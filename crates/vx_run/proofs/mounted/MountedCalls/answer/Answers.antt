use Rattle.std.proofs.Common.{ap, arith}
use Rattle.vx_base.specs.declared.event.Event.TheVariants as event
use Rattle.vx_run.proofs.Mounting.{used, not_busy, has_room, may_answer, keeps, phase_ret, promised_one}
use Rattle.vx_run.proofs.mounted.MountedCalls.answer.Goals as goal

pub answer-requires-clause-used : goal.answer-requires-clause-used
answer-requires-clause-used g c =
    let x = c.args.self.now in
    let d = g.D.BlockDev.state x.dev in
    used x.room x.mount d c.requires.used

pub answer-requires-clause-free : goal.answer-requires-clause-free
answer-requires-clause-free g c =
    let x = c.args.self.now in
    let d = g.D.BlockDev.state x.dev in
    not_busy x.mount.kernel.job c.requires.free

pub answer-requires-clause-room : goal.answer-requires-clause-room
answer-requires-clause-room g c =
    let x = c.args.self.now in
    let d = g.D.BlockDev.state x.dev in
    has_room x.room x.mount d c.requires.used.opening _ c.requires.used.keeps (omega (arith, c.requires.room)) (omega (arith, x.mount.kernel.history.ok.0))

pub returns-clause-kept : goal.returns-clause-kept
returns-clause-kept g c =
    let x = c.args.self.now in
    let d = g.D.BlockDev.state x.dev in
    let later = c.answer.new.self in
    λ o k may.
    let at = c.answer.ensures.at o k.at (may_answer o x.room x.mount d c.args.place c.args.answer k.at may) in
    let one = promised_one x.mount later (event.Ret d.count c.args.place c.args.answer) c.answer.ensures.history c.answer.ensures.debt in
    keeps o x.room x.mount later d d k at (omega (arith, one, c.requires.room)) c.answer.ensures.capacity (ap (λ k. k.first) (ap (λ m. m.kernel) c.answer.ensures.same))
    (λ left. absurd (phase_ret o x.mount.kernel.history.items later.kernel.history.items d.count c.args.place c.args.answer c.answer.ensures.history may.mounted left))
