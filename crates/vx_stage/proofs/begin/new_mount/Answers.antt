use Rattle.std.proofs.Common.{ℕ, refl, sym, subst, lit≤, arith}
use Rattle.vx_layout.specs.Supers.{volume_of}
use Rattle.vx_log.specs.Logs.{LogView}
use Rattle.vx_dev.specs.Moments.{Told}
use Rattle.vx_model.specs.Contents.{parsed_of}
use Rattle.vx_model.specs.Legal.{opening}
use Rattle.vx_model.specs.State.{directory_blocks}
use Rattle.vx_stage.specs.Kernels.{IsBegun, HasRun, IsLive}
use Rattle.vx_stage.proofs.Formatted.{new, mounted, told_begun}
use Rattle.vx_stage.proofs.begin.new_mount.Goals as goal

pub returns-clause-run : goal.returns-clause-run
returns-clause-run g c =
    let v = c.args.sizes in
    let size = (g.D.BlockDev.state c.args.dev.now).size in
    let d = g.D.BlockDev.state c.make.new.dev in
    let fits = (c.state_sound.ensures.consistent (new v size) (c.well_formed_laws.ensures.fresh v directory_blocks size c.requires.is (lit≤ tt) c.requires.size)).0 in
    subst (λ (n : ℕ). HasRun (opening n (new v size)) d c.begin.result) c.ops-first.ensures.number
    (c.begin.ensures.run (new v size) d (mounted v size fits) (λ b. refl) (omega (arith, c.ops-first.ensures.number)))

pub returns-clause-live : goal.returns-clause-live
returns-clause-live g c =
    let v = c.args.sizes in
    let size = (g.D.BlockDev.state c.args.dev.now).size in
    let d = g.D.BlockDev.state c.make.new.dev in
    let fits = (c.state_sound.ensures.consistent (new v size) (c.well_formed_laws.ensures.fresh v directory_blocks size c.requires.is (lit≤ tt) c.requires.size)).0 in
    let begun = told_begun v size (λ image is. c.fresh_reads.ensures.stands v directory_blocks size image c.requires.is is)
    (λ image stands q there. c.metadata.ensures.holds (volume_of v) (parsed_of (new v size)) image stands q there) d c.in_ok-make.ensures.new in
    subst (λ (n : ℕ). Told d (IsLive (opening n (new v size)) c.begin.result)) c.ops-first.ensures.number
    (c.begin.ensures.live (new v size) d (mounted v size fits) c.ops-first.ensures.number (g.met.D.BlockDev.in_step c.make.new.dev)
    (subst (λ (l : LogView). Told d (IsBegun v (new v size) l.serial l.head)) (sym c.requires.log) begun))
