use Rattle.std.proofs.Common.{ℕ, Option, sym, ◌∙◌, ap}
use Rattle.vx_base.specs.declared.refusal.Refusal.TheVariants as no
use Rattle.vx_dir.specs.Directories.{Directory, inode_of}
use Rattle.vx_model.specs.Outcome.{need}
use Rattle.vx_txn.proofs.StateLaws.{step}
use Rattle.vx_txn.proofs.walk.step_to.Goals as goal

pub returns-in-Some-clause-step : goal.returns-in-Some-clause-step
returns-in-Some-clause-step c = λ s is.
    sym (step c.args.meta.now s is c.args.at c.in-Ok.directory.now c.args.name.now c.in-Ok.ensures.found
    ∙ ap (λ (o : Option ℕ). need o no.NoEnt) (sym (c.find.ensures ∙ ap (λ (d : Directory). inode_of d c.args.name.now) c.names.ensures) ∙ c.in-Some.is))

pub returns-in-None-clause-step : goal.returns-in-None-clause-step
returns-in-None-clause-step c = λ s is.
    sym (step c.args.meta.now s is c.args.at c.in-Ok.directory.now c.args.name.now c.in-Ok.ensures.found
    ∙ ap (λ (o : Option ℕ). need o no.NoEnt) (sym (c.find.ensures ∙ ap (λ (d : Directory). inode_of d c.args.name.now) c.names.ensures) ∙ c.in-None.is))
