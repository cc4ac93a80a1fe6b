use Rattle.std.proofs.Common.{◌≡◌, ◌∙◌, ℕ, None, sym}
use Rattle.std.specs.Prelude.{IsSome}
use Rattle.vx_stage.specs.declared.kernel.Job.{Job}
use Rattle.vx_stage.specs.declared.kernel.Job.TheVariants.{Idle, Left, Broken}
use Rattle.vx_calls.proofs.Spending.{fresh_debt, none_of}
use Rattle.vx_calls.proofs.Waiting.{waits_none}
use Rattle.vx_calls.proofs.mount.Mount.new.Goals as goal

none_some : IsSome {T = ℕ} None → ⊥
none_some some = cc

pub returns-clause-at : goal.returns-clause-at
returns-clause-at c = λ o d run live fit meta plain. record {
  run = run;
  live = live;
  fit = fit;
  meta = meta;
  plain = plain;
  touched = c.requires.touched;
  transaction = c.requires.transaction;
  enabled = λ none broken. let wrong : ◌≡◌ {A = Job} Idle Broken = sym c.requires.job ∙ broken in cc;
  broken = λ some. absurd (none_some some);
  left = λ left. absurd (let wrong : ◌≡◌ {A = Job} Idle Left = sym c.requires.job ∙ left in cc);
}

pub returns-clause-debt : goal.returns-clause-debt
returns-clause-debt c = λ s is none gathered homes closing. fresh_debt c.args.kernel _ c.requires.job gathered homes (none_of _ closing) (waits_none c.args.meta s is none)
