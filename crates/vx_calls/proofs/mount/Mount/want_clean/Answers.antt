use Rattle.std.proofs.Common.{◌≡◌, ◌⊎◌, List, refl, inl, inr}
use Rattle.vx_layout.specs.LogForms.{AfterImage}
use Rattle.vx_stage.specs.Staged.{homes_from}
use Rattle.vx_stage.specs.declared.kernel.Job.{Job}
use Rattle.vx_stage.specs.declared.kernel.Job.TheVariants.{Idle, Body, Leave}
use Rattle.vx_calls.proofs.Keeping.{wanted_at, starts_whole}
use Rattle.vx_calls.proofs.Owing.{clean_begins, clean_job}
use Rattle.vx_calls.proofs.Spending.{begun_owed, begun_promised}
use Rattle.vx_calls.proofs.mount.Mount.want_clean.Goals as goal

begun : (j : Job) (homes : List AfterImage) → (j ≡ Body) ⊎ (j ≡ homes_from homes) → (j ≡ Idle) ⊎ ((j ≡ Body) ⊎ ((j ≡ homes_from homes) ⊎ (j ≡ Leave)))
begun j homes (inl body) = inr (inl body)
begun j homes (inr from) = inr (inr (inl from))

pub returns-clause-at : goal.returns-clause-at
returns-clause-at g c = λ o at.
    let m = c.args.self.now in
    let d = g.D.BlockDev.state c.args._dev.now in
    wanted_at o d d m at c.want_clean.new.self c.requires.job (starts_whole m.kernel.homes c.want_clean.new.self.job (inr c.want_clean.ensures.begun))
    c.want_clean.ensures.history (c.want_clean.ensures.run o d at.run) (c.want_clean.ensures.live o d at.run at.live) (c.fit_laws.ensures.device d d m.kernel c.want_clean.new.self at.fit c.want_clean.ensures.fit c.want_clean.ensures.sizes refl)

pub returns-clause-logging : goal.returns-clause-logging
returns-clause-logging g c = let m = c.args.self.now in (clean_begins m.kernel c.want_clean.new.self c.requires.job c.want_clean.ensures.begins c.want_clean.ensures.closes).logging

pub returns-clause-first : goal.returns-clause-first
returns-clause-first g c = let m = c.args.self.now in (clean_begins m.kernel c.want_clean.new.self c.requires.job c.want_clean.ensures.begins c.want_clean.ensures.closes).first

pub returns-clause-owed : goal.returns-clause-owed
returns-clause-owed g c =
    let m = c.args.self.now in
    begun_owed m (record m { kernel = c.want_clean.new.self }) refl c.want_clean.ensures.history (clean_begins m.kernel c.want_clean.new.self c.requires.job c.want_clean.ensures.begins c.want_clean.ensures.closes)

pub returns-clause-promised : goal.returns-clause-promised
returns-clause-promised g c =
    let m = c.args.self.now in
    begun_promised m (record m { kernel = c.want_clean.new.self }) refl c.want_clean.ensures.history (clean_begins m.kernel c.want_clean.new.self c.requires.job c.want_clean.ensures.begins c.want_clean.ensures.closes)

pub returns-clause-begun : goal.returns-clause-begun
returns-clause-begun g c = (clean_job c.args.self.now.kernel.homes c.want_clean.new.self.job c.want_clean.ensures.begun).0

pub returns-clause-out : goal.returns-clause-out
returns-clause-out g c = (clean_job c.args.self.now.kernel.homes c.want_clean.new.self.job c.want_clean.ensures.begun).1
