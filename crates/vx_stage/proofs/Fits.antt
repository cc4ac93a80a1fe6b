-- The kernel in memory, from one stage to the next.
use Rattle.std.proofs.Common.{◌≡◌, ◌+◌, List, [], length, Option, Some, None, refl, sym, ap, subst, ◌∙◌, arith}
use Rattle.std.specs.Prelude.{IfSome, IsNone, All}
use Rattle.vx_dev.specs.Tape.{State as Device}
use Rattle.vx_layout.specs.LogForms.{AfterImage, log_length}
use Rattle.vx_log.specs.Logs.{LogView}
use Rattle.vx_log.specs.declared.log.Closing.{Closing}
use Rattle.vx_log.specs.Batches.{with_notes}
use Rattle.vx_log.specs.NoteLaws.{NoteLaws}
use Rattle.vx_stage.specs.Growths.{IsBusy}
use Rattle.vx_stage.specs.Kernels.{log_size, device_size, IsInside, IsFew, JobFits, IsFit}
use Rattle.vx_stage.specs.declared.kernel.Job.{Job}
use Rattle.vx_stage.specs.declared.kernel.Job.TheVariants.{Idle, Body, BodyOut, Head, HeadOut, Homes, HomesOut, Tail, TailOut, Leave, LeaveOut, Left, Broken}
use Rattle.vx_stage.specs.declared.kernel.Kernel.{Kernel}

no_closing : (x : Option Closing) → x ≡ None → (P : Closing → Type 0) → IfSome x P
no_closing x none P = subst (λ (o : Option Closing). IfSome o P) (sym none) tt

is_none_of : (x : Option Closing) → x ≡ None → IsNone x
is_none_of x none = subst (λ (o : Option Closing). IsNone o) (sym none) refl

module _ (notes : NoteLaws) (k : Kernel) (d e : Device) (fit : IsFit d k) (size : e.size ≡ d.size) (c : Closing) (is : k.log.closing ≡ Some c) (few : IsFew k) (homes : List AfterImage) (homes_is : homes ≡ with_notes k.homes c.batch) where
  inside : All (IsInside k.sizes) c.batch
  inside = subst (λ (x : Option Closing). IfSome x (λ b. All (IsInside k.sizes) b.batch)) is fit.batch

  homes_inside : All (IsInside k.sizes) homes
  homes_inside = subst (All (IsInside k.sizes)) (sym homes_is) (notes.inside (4 + log_size k.sizes) (device_size k.sizes) k.homes c.batch fit.homes inside)

  pub gate_fit : (log : LogView) (ready : Option (List AfterImage)) → log.sectors ≡ k.log.sectors → log.closing ≡ None → log.tail ≡ k.log.tail → log.head ≡ k.log.head + log_length (length c.batch) → ready ≡ Some []
      → IsFit e (record k { log = log; homes = homes; ready = ready; job = HeadOut })
  gate_fit log ready sectors none tail head ready_is = record {
    sizes = fit.sizes;
    sectors = sectors ∙ fit.sectors;
    device = omega (arith, fit.device, size);
    homes = homes_inside;
    gathered = fit.gathered;
    batch = no_closing log.closing none (λ b. All (IsInside k.sizes) b.batch);
    job = (is_none_of log.closing none, ready_is, omega (arith, few, tail, head, ap (λ (hs : List AfterImage). length hs) homes_is, notes.length k.homes c.batch));
  }

  pub gate_broken_fit : (log : LogView) → log ≡ k.log → IsFit e (record k { log = log; homes = homes; job = Broken })
  gate_broken_fit log log_is = record {
    sizes = fit.sizes;
    sectors = ap (λ (l : LogView). l.sectors) log_is ∙ fit.sectors;
    device = omega (arith, fit.device, size);
    homes = homes_inside;
    gathered = fit.gathered;
    batch = subst (λ (l : LogView). IfSome l.closing (λ b. All (IsInside k.sizes) b.batch)) (sym log_is) fit.batch;
    job = tt;
  }

-- an event has come, and the open batch may be another
pub fit_with : (d : Device) (k k2 : Kernel) (batch : List AfterImage) → (IsBusy k.job → ⊥) → All (IsInside k.sizes) batch → IsFit d k → IsFit d (record k { gathered = batch; history = k2.history })
fit_with d k k2 batch free inside fit = record { sizes = fit.sizes; sectors = fit.sectors; device = fit.device; homes = fit.homes; gathered = inside; batch = fit.batch; job = on_job k.job free fit.job }
  where
    on_job : (j : Job) → (IsBusy j → ⊥) → JobFits j k → JobFits j (record k { gathered = batch; history = k2.history })
    on_job Idle free is = is
    on_job Body free is = is
    on_job BodyOut free is = is
    on_job Head free is = is
    on_job HeadOut free is = is
    on_job (Homes put) free is = is
    on_job HomesOut free is = is
    on_job Tail free is = is
    on_job TailOut free is = is
    on_job Leave free is = absurd (free tt)
    on_job LeaveOut free is = absurd (free tt)
    on_job Left free is = is
    on_job Broken free is = is
