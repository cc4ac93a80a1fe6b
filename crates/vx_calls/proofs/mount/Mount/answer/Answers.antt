use Rattle.std.proofs.Common.{ap}
use Rattle.vx_base.specs.declared.event.Event.TheVariants as event
use Rattle.vx_stage.specs.declared.kernel.Kernel.{Kernel}
use Rattle.vx_calls.proofs.Keeping.{same_job, in_use_still}
use Rattle.vx_calls.proofs.mount.Mount.answer.Goals as goal

pub returns-clause-at : goal.returns-clause-at
returns-clause-at g c = λ o at may.
    let m = c.args.self.now in
    let d = g.D.BlockDev.state c.args.dev.now in
    same_job o d d m at c.ret.new.self (event.Ret d.count c.args.place c.args.answer) c.ret.ensures.items (c.ret.ensures.run o at.run may) (c.ret.ensures.live o at.run may at.live) c.ret.ensures.fit
    (ap (λ (x : Kernel). x.job) c.ret.ensures.same) (in_use_still o m.kernel may.mounted) m.meta at.meta at.plain
