use Rattle.std.proofs.Common.{◌≤◌, ℕ, sym, subst}
use Rattle.vx_layout.specs.declared.superblock.Super.{Super}
use Rattle.vx_stage.specs.Kernels.{device_size}
use Rattle.vx_stage.proofs.laws.fit_laws.Goals as goal

pub returns-clause-alone : goal.returns-clause-alone
returns-clause-alone c = λ d k fit. record { sizes = fit.sizes; sectors = fit.sectors; homes = fit.homes; gathered = fit.gathered; batch = fit.batch; job = fit.job }

pub returns-clause-device : goal.returns-clause-device
returns-clause-device c = λ d e old new fit alone same size. record {
  sizes = alone.sizes;
  sectors = alone.sectors;
  device = subst (λ (v : Super). device_size v ≤ e.size) (sym same) (subst (λ (n : ℕ). device_size old.sizes ≤ n) (sym size) fit.device);
  homes = alone.homes;
  gathered = alone.gathered;
  batch = alone.batch;
  job = alone.job;
}
