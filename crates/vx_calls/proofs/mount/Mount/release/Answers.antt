use Rattle.std.proofs.Common.{ap, arith}
use Rattle.vx_base.specs.declared.event.Event.TheVariants as event
use Rattle.vx_stage.specs.Kernels.{present}
use Rattle.vx_stage.specs.declared.kernel.Kernel.{Kernel}
use Rattle.vx_calls.proofs.Keeping.{same_job, in_use_still, released_plain}
use Rattle.vx_calls.proofs.Spending.{one_more}
use Rattle.vx_calls.proofs.Waiting.{all_released, released_wait}
use Rattle.vx_calls.proofs.mount.Mount.release.Goals as goal

pub returns-clause-at : goal.returns-clause-at
returns-clause-at g c = λ o at used.
    let m = c.args.self.now in
    let d = g.D.BlockDev.state c.args.dev.now in
    same_job o d d m at c.release.new.self (event.Release d.count m.kernel.committed) c.release.ensures.items (c.release.ensures.run o at.run used) (c.release.ensures.live o at.run used at.live) c.release.ensures.fit
    (ap (λ (x : Kernel). x.job) c.release.ensures.same) (in_use_still o m.kernel used) c.release-2.new.self (c.release-2.ensures (present o m.kernel) at.run.mounted_now.consistent.laid_out at.plain at.meta)
    (released_plain (present o m.kernel) m.kernel.committed at.plain)

pub returns-clause-waits : goal.returns-clause-waits
returns-clause-waits g c =
    let m = c.args.self.now in
    let at = c.requires.used.at in
    let s = present c.requires.used.opening m.kernel in
    released_wait m.meta c.release-2.new.self s m.kernel.committed at.meta (c.release-2.ensures s at.run.mounted_now.consistent.laid_out at.plain at.meta)

pub returns-clause-freed : goal.returns-clause-freed
returns-clause-freed g c = λ all.
    let m = c.args.self.now in
    let at = c.requires.used.at in
    let s = present c.requires.used.opening m.kernel in
    all_released c.release-2.new.self s m.kernel.committed (c.release-2.ensures s at.run.mounted_now.consistent.laid_out at.plain at.meta) (λ b p is. omega (arith, all, at.run.pending b p is))

pub returns-clause-noted : goal.returns-clause-noted
returns-clause-noted g c = one_more c.args.self.now.kernel.history.items c.release.new.self.history.items _ c.release.ensures.items
