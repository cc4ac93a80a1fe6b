use Rattle.std.proofs.Common.{◌≡◌, ◌⊎◌, List, refl, inl, inr}
use Rattle.vx_layout.specs.LogForms.{AfterImage}
use Rattle.vx_stage.specs.Staged.{homes_from}
use Rattle.vx_stage.specs.declared.kernel.Job.{Job}
use Rattle.vx_stage.specs.declared.kernel.Job.TheVariants.{Idle, Body, Leave}
use Rattle.vx_calls.proofs.Keeping.{IsWhole, wanted_at, starts_whole, wished}
use Rattle.vx_calls.proofs.Owing.{commit_answered}
use Rattle.vx_calls.proofs.Spending.{begun_owed, begun_promised}
use Rattle.vx_calls.proofs.mount.Mount.want_commit.Goals as goal

begun : (j : Job) (homes : List AfterImage) → (j ≡ Body) ⊎ (j ≡ homes_from homes) → (j ≡ Idle) ⊎ ((j ≡ Body) ⊎ ((j ≡ homes_from homes) ⊎ (j ≡ Leave)))
begun j homes (inl body) = inr (inl body)
begun j homes (inr from) = inr (inr (inl from))

pub returns-clause-at : goal.returns-clause-at
returns-clause-at g c = λ o at.
    let m = c.args.self.now in
    let d = g.D.BlockDev.state c.args._dev.now in
    wanted_at o d d m at c.want_commit.new.self c.requires.job (wished c.want_commit.result IsWhole c.want_commit.new.self.job (λ done. starts_whole m.kernel.homes c.want_commit.new.self.job (inl (c.want_commit.ensures.committed done).0))
    (λ not_. starts_whole m.kernel.homes c.want_commit.new.self.job (begun c.want_commit.new.self.job m.kernel.homes (c.want_commit.ensures.begun not_))))
    c.want_commit.ensures.history (c.want_commit.ensures.run o d at.run) (c.want_commit.ensures.live o d at.run at.live) (c.fit_laws.ensures.device d d m.kernel c.want_commit.new.self at.fit c.want_commit.ensures.fit c.want_commit.ensures.sizes refl)

pub returns-clause-logging : goal.returns-clause-logging
returns-clause-logging g c = let m = c.args.self.now in (commit_answered m.kernel c.want_commit.new.self c.want_commit.result c.requires.job c.want_commit.ensures.same c.want_commit.ensures.begins c.want_commit.ensures.closes).logging

pub returns-clause-first : goal.returns-clause-first
returns-clause-first g c = let m = c.args.self.now in (commit_answered m.kernel c.want_commit.new.self c.want_commit.result c.requires.job c.want_commit.ensures.same c.want_commit.ensures.begins c.want_commit.ensures.closes).first

pub returns-clause-owed : goal.returns-clause-owed
returns-clause-owed g c =
    let m = c.args.self.now in
    begun_owed m (record m { kernel = c.want_commit.new.self }) refl c.want_commit.ensures.history (commit_answered m.kernel c.want_commit.new.self c.want_commit.result c.requires.job c.want_commit.ensures.same c.want_commit.ensures.begins c.want_commit.ensures.closes)

pub returns-clause-promised : goal.returns-clause-promised
returns-clause-promised g c =
    let m = c.args.self.now in
    begun_promised m (record m { kernel = c.want_commit.new.self }) refl c.want_commit.ensures.history (commit_answered m.kernel c.want_commit.new.self c.want_commit.result c.requires.job c.want_commit.ensures.same c.want_commit.ensures.begins c.want_commit.ensures.closes)
