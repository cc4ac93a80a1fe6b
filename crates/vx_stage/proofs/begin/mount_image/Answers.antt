use Rattle.std.proofs.Common.{ℕ, subst, arith}
use Rattle.vx_dev.specs.Moments.{Told}
use Rattle.vx_model.specs.Legal.{opening}
use Rattle.vx_stage.specs.Kernels.{HasRun, IsLive}
use Rattle.vx_stage.proofs.begin.mount_image.Goals as goal

pub returns-clause-run : goal.returns-clause-run
returns-clause-run g c = λ s m free.
    let d = g.D.BlockDev.state c.mark.new.dev in
    subst (λ (n : ℕ). HasRun (opening n s) d c.begin.result) c.ops-first.ensures.number (c.begin.ensures.run s d m free (omega (arith, c.ops-first.ensures.number)))

pub returns-clause-live : goal.returns-clause-live
returns-clause-live g c = λ s t m told left.
    let d = g.D.BlockDev.state c.mark.new.dev in
    subst (λ (n : ℕ). Told d (IsLive (opening n s) c.begin.result)) c.ops-first.ensures.number
    (c.begin.ensures.live s d m c.ops-first.ensures.number (g.met.D.BlockDev.in_step c.mark.new.dev)
    (c.in_ok-mark.ensures.begun s c.args.room.log.serial c.args.room.log.head t m told left))
