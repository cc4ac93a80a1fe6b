use Rattle.std.proofs.Common.{sym, ◌∙◌, subst}
use Rattle.vx_base.specs.declared.refusal.Refusal.TheVariants as no
use Rattle.vx_model.specs.Outcome.{Maybe}
use Rattle.vx_model.specs.State.{Done}
use Rattle.vx_model.specs.Removing.{unlink_along, unlink_entry}
use Rattle.vx_txn.specs.Calls.{IsSettled}
use Rattle.vx_txn.proofs.Lookups.{refused, along_found, along_refused}
use Rattle.vx_txn.proofs.remove.unlink_along.Goals as goal

pub returns-in-Ok-clause-done : goal.returns-in-Ok-clause-done
returns-in-Ok-clause-done c = λ s stands.
    subst (λ (chain : Maybe Done). IsSettled s chain c.unlink_at.new.meta c.unlink_at.new.touched c.unlink_at.result)
    (sym (along_found s.tree.nodes c.args.names.now c.in-Some.above.now c.in-Some.name.now (c.in-Some.ensures.cases).0 no.IsDir (unlink_entry s c.args.place) c.in-Ok.at (sym (c.walk.ensures.walk s stands) ∙ c.in-Ok.is)))
    (c.unlink_at.ensures.done s stands)

pub returns-in-Err-clause-done : goal.returns-in-Err-clause-done
returns-in-Err-clause-done c = λ s stands.
    refused s (unlink_along s c.args.place c.args.names.now) c.args.meta.now c.args.touched.now c.in-Err.why stands c.requires.empty
    (along_refused s.tree.nodes c.args.names.now c.in-Some.above.now c.in-Some.name.now (c.in-Some.ensures.cases).0 no.IsDir (unlink_entry s c.args.place) c.in-Err.why (sym (c.walk.ensures.walk s stands) ∙ c.in-Err.is))
