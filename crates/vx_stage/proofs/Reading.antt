-- What is kept says of each moment: every image is allowed. And the log begins to be emptied.
use Rattle.std.proofs.Common.{◌≡◌, ℕ, ◌≤◌, List, [], length, Option, Some, None, subst, arith, inl}
use Rattle.std.specs.Prelude.{IfSome}
use Rattle.vx_dev.specs.Tape.{Tape, State as Device, IsImage, IsInStep}
use Rattle.vx_layout.specs.LogForms.{AfterImage, LogState}
use Rattle.vx_layout.specs.Supers.{IsSuper}
use Rattle.vx_log.specs.Batches.{noted_at}
use Rattle.vx_log.specs.Crashes.{Stands}
use Rattle.vx_dev.specs.Moments.{Told, Always}
use Rattle.vx_dev.proofs.Claims.{told_weaker}
use Rattle.vx_dev.proofs.Claims.{always}
use Rattle.vx_model.specs.Legal.{World}
use Rattle.vx_stage.specs.Leads.{state_at}
use Rattle.vx_stage.specs.Kernels.{log_size, IsLevel, IsNoted, HasRun, IsLogOf, Now, IsLive}
use Rattle.vx_stage.specs.KernelLaws.{KernelLaws}
use Rattle.vx_stage.specs.declared.kernel.Job.{Job}
use Rattle.vx_stage.specs.declared.kernel.Job.TheVariants.{Idle, Body, BodyOut, Head, HeadOut, Homes, HomesOut, Tail, TailOut, Leave, LeaveOut, Left, Broken}
use Rattle.vx_stage.specs.declared.kernel.Kernel.{Kernel}
use Rattle.vx_stage.proofs.Stages.{Claim, stands_claimed}
use Rattle.vx_stage.proofs.Commits.{other_job, turning_claimed}
use Rattle.vx_stage.proofs.Levels.{level_claimed}

module _ (laws : KernelLaws) (o : World) (k : Kernel) (a : Device) (is_super : IsSuper k.sizes) (run : HasRun o a k) (step : IsInStep a) where
  low : k.committed ≤ length k.history.items
  low = omega (arith, run.order, run.within)

  abbrev Allowed : Tape → Type 0
  Allowed t = (image : ℕ → List ℕ) → IsImage t image → Claim o k (length t.ops) image

  of_stands : (r : LogState) (t : Tape) → a.count ≤ length t.ops → IsLogOf o k k.committed r → Stands (log_size k.sizes) r t → Allowed t
  of_stands r t late l stands image is = stands_claimed laws o k a is_super run step a k.committed r t (omega arith) low l.reading stands image is (length t.ops) late

  of_level : (t : Tape) → a.count ≤ length t.ops → IsLevel k.sizes (state_at o k.history.items k.committed) k.log.serial k.log.head t → Allowed t
  of_level t late l image is = level_claimed laws o k a is_super run step a k.committed k.log.serial k.log.head t (omega arith) low l image is (length t.ops) late

  now_allowed : (j : Job) (r : LogState) (t : Tape) → a.count ≤ length t.ops → Now k j o r t → Allowed t
  now_allowed Idle r t late is = of_stands r t late is.0 is.1
  now_allowed Body r t late is = of_stands r t late is.0 is.1
  now_allowed BodyOut r t late is = of_stands r t late is.0 is.1
  now_allowed Head r t late is = of_stands r t late is.0 is.1
  now_allowed HeadOut r t late is = λ image at. turning_claimed laws o k a is_super run step a k.closing r t run.order run.within is.0.reading is.1 image at (length t.ops) late
  now_allowed (Homes put) r t late is = of_stands r t late is.0 is.1.stands
  now_allowed HomesOut r t late is = of_stands r t late is.0 is.1.stands
  now_allowed Tail r t late is = of_stands r t late is.0 is.1
  now_allowed TailOut r t late is = λ image at. turning_claimed laws o k a is_super run step a k.committed r t (omega arith) low is.0.reading is.1 image at (length t.ops) late
  now_allowed Leave r t late is = of_level t late is
  now_allowed LeaveOut r t late is = of_level t late is.0
  now_allowed Left r t late is = of_level t late is.0
  now_allowed Broken r t late is = is

  -- at every moment
  pub always_allowed : Told a (IsLive o k) → Told a (Always k.first (Claim o k))
  always_allowed told = by_cases a.told step told
    where
      by_cases : (x : Option Tape) → IfSome x (λ t. length t.ops ≡ a.count) → IfSome x (IsLive o k) → IfSome x (Always k.first (Claim o k))
      by_cases None count live = tt
      by_cases (Some t) count live = always k.first (Claim o k) t live.past (now_allowed k.job live.reading t (omega (arith, count)) live.now)

-- the first stage of home writes has not come
pub homes_begun : (o : World) (k : Kernel) (d : Device) → k.job ≡ Idle → Told d (IsLive o k) → Told d (IsLive o (record k { job = Homes 0 }))
homes_begun o k d job_is told = told_weaker d (IsLive o k) (IsLive o (record k { job = Homes 0 })) (λ t live.
    let r : LogState = live.reading in
    let now_ : Now k Idle o r t = subst (λ (j : Job). Now k j o r t) job_is live.now in
    record { past = live.past; reading = r; now = (other_job o k (Homes 0) k.committed r now_.0, record { stands = now_.1; home = λ j e lt. absurd (omega (arith, lt)) }) }) told

-- ... and where nothing is noted, all is home
pub homes_none : KernelLaws → (o : World) (k : Kernel) (d : Device) → k.job ≡ Idle → k.homes ≡ [] → Told d (IsLive o k) → Told d (IsLive o (record k { job = Tail }))
homes_none laws o k d job_is none told = told_weaker d (IsLive o k) (IsLive o (record k { job = Tail })) (λ t live.
    let r : LogState = live.reading in
    let now_ : Now k Idle o r t = subst (λ (j : Job). Now k j o r t) job_is live.now in
    record {
      past = live.past;
      reading = r;
      now = (other_job o k Tail k.committed r now_.0, now_.1, laws.home (log_size k.sizes) r t now_.1.holds (λ s there. inl (subst (λ (hs : List AfterImage). IsNoted r s (noted_at hs s)) none (now_.0.noted s))));
    }) told
