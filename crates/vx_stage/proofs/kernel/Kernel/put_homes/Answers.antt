use Rattle.vx_stage.proofs.Counts.{homes_few, ran_few, broke_few, ran_on, ran_works, homes_some}
use Rattle.std.proofs.Common.{◌≡◌, ◌+◌, length, sym, subst, ℕ, arith}
use Rattle.std.specs.Prelude.{min}
use Rattle.vx_dev.specs.Moments.{Told}
use Rattle.vx_stage.specs.declared.kernel.Job.{Job}
use Rattle.vx_stage.specs.declared.kernel.Job.TheVariants.{Homes}
use Rattle.vx_stage.specs.Kernels.{JobFits, IsLive}
use Rattle.vx_stage.proofs.Stages.{min_above, min_below}
use Rattle.vx_stage.proofs.HomeStages.{homes_more, homes_out, homes_broke}
use Rattle.vx_stage.proofs.kernel.Kernel.put_homes.Goals.{then-end-len, else-end-len}
use Rattle.vx_stage.proofs.Closes.{run_with, broke_later}
use Rattle.vx_stage.specs.declared.kernel.Job.TheVariants as jobs
use Rattle.vx_stage.proofs.kernel.Kernel.put_homes.Goals as goal

pub returns-clause-live : goal.returns-clause-live
returns-clause-live g c = λ o run told.
    let k = c.args.self.now in
    let put = c.args.put in
    let a = g.D.BlockDev.state c.args.dev.now in
    let b = g.D.BlockDev.state c.put_some.new.dev in
    let end : ℕ = min (put + 8) (length k.homes) in
    let fits = subst (λ (j : Job). JobFits j k) c.requires.job c.requires.fit.job in
    elim c.if-end-len.branch [
      | then-end-len w ↦ subst (λ (j : Job). Told b (IsLive o (record k { job = j }))) (sym w.self-is)
          (homes_out c.kernel_laws.ensures o k a c.requires.fit.sizes run (g.met.D.BlockDev.in_step c.args.dev.now) b put end c.requires.job (min_above put (length k.homes) (omega (arith, fits.3))) (min_below (put + 8) (length k.homes)) c.len.ensures.homes.rising
          (let all : end ≡ length k.homes = omega (arith, w.if-end-len.true, c.in_ok-end.ensures.end, c.len.ensures.number) in all) c.in_ok-end.ensures.ran told)
      | else-end-len w ↦ subst (λ (j : Job). Told b (IsLive o (record k { job = j }))) (sym w.self-is)
          (subst (λ (n : ℕ). Told b (IsLive o (record k { job = Homes n }))) (sym c.in_ok-end.ensures.end)
          (homes_more c.kernel_laws.ensures o k a c.requires.fit.sizes run (g.met.D.BlockDev.in_step c.args.dev.now) b put end c.requires.job (min_above put (length k.homes) (omega (arith, fits.3))) (min_below (put + 8) (length k.homes)) c.len.ensures.homes.rising
          c.in_ok-end.ensures.ran told))
    ]

pub returns-in_err-end-clause-live : goal.returns-in_err-end-clause-live
returns-in_err-end-clause-live g c = λ o run told.
    let k = c.args.self.now in
    let put = c.args.put in
    let fits = subst (λ (j : Job). JobFits j k) c.requires.job c.requires.fit.job in
    homes_broke c.kernel_laws.ensures o k (g.D.BlockDev.state c.args.dev.now) c.requires.fit.sizes run (g.met.D.BlockDev.in_step c.args.dev.now) (g.D.BlockDev.state c.put_some.new.dev) put (min (put + 8) (length k.homes)) c.requires.job
    (min_above put (length k.homes) (omega (arith, fits.3))) (min_below (put + 8) (length k.homes)) c.put_some.ensures.homes.rising c.in_err-end.ensures.broke told

pub returns-clause-run : goal.returns-clause-run
returns-clause-run g c = λ o run.
    let k = c.args.self.now in
    run_with o (g.D.BlockDev.state c.args.dev.now) (g.D.BlockDev.state c.put_some.new.dev) k run (omega (arith, c.in_ok-end.ensures.ran.count)) k.log k.homes k.gathered k.ready c.if-end-len.self k.committed k.closing (omega arith) run.order run.within

pub returns-in_err-end-clause-run : goal.returns-in_err-end-clause-run
returns-in_err-end-clause-run g c = λ o run.
    let k = c.args.self.now in
    run_with o (g.D.BlockDev.state c.args.dev.now) (g.D.BlockDev.state c.put_some.new.dev) k run (broke_later _ _ _ c.in_err-end.ensures.broke) k.log k.homes k.gathered k.ready jobs.Broken k.committed k.closing (omega arith) run.order run.within

pub returns-clause-few : goal.returns-clause-few
returns-clause-few g c = ran_few _ _ _ (homes_few c.args.self.now.homes c.args.put) c.in_ok-end.ensures.ran

pub returns-in_err-end-clause-few : goal.returns-in_err-end-clause-few
returns-in_err-end-clause-few g c = broke_few _ _ _ (homes_few c.args.self.now.homes c.args.put) c.in_err-end.ensures.broke

pub returns-clause-later : goal.returns-clause-later
returns-clause-later g c = ran_on _ _ _ c.in_ok-end.ensures.ran

pub returns-in_err-end-clause-later : goal.returns-in_err-end-clause-later
returns-in_err-end-clause-later g c = broke_later _ _ _ c.in_err-end.ensures.broke

pub returns-clause-works : goal.returns-clause-works
returns-clause-works g c =
    let k = c.args.self.now in
    let fits = subst (λ (j : Job). JobFits j k) c.requires.job c.requires.fit.job in
    ran_works _ _ _ (homes_some k.homes c.args.put fits.3) c.in_ok-end.ensures.ran
