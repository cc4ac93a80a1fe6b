use Rattle.std.proofs.Common.{sym, ◌∙◌, subst}
use Rattle.vx_base.specs.declared.refusal.Refusal.TheVariants as no
use Rattle.vx_model.specs.Outcome.{Maybe}
use Rattle.vx_model.specs.State.{Done}
use Rattle.vx_model.specs.Removing.{rmdir_along, remove_directory}
use Rattle.vx_txn.specs.Calls.{IsSettled}
use Rattle.vx_txn.proofs.Lookups.{refused, along_found, along_refused, entry_found, entry_refused, root_used}
use Rattle.vx_txn.proofs.remove.rmdir_along.Goals as goal

pub remove_directory-requires-clause-root : goal.remove_directory-requires-clause-root
remove_directory-requires-clause-root c = λ s stands.
    root_used s.tree.nodes c.in-Some.above.now c.in-Ok.at c.in-Some.name.now c.in-Ok-step_to.ino (sym (c.walk.ensures.walk s stands) ∙ c.in-Ok.is) (sym (c.step_to.ensures.step s stands) ∙ c.in-Ok-step_to.is)

pub returns-in-Ok-step_to-clause-done : goal.returns-in-Ok-step_to-clause-done
returns-in-Ok-step_to-clause-done c = λ s stands.
    subst (λ (chain : Maybe Done). IsSettled s chain c.remove_directory.new.meta c.remove_directory.new.touched c.remove_directory.result)
    (sym (along_found s.tree.nodes c.args.names.now c.in-Some.above.now c.in-Some.name.now (c.in-Some.ensures.cases).0 no.RootFixed (remove_directory s c.args.place) c.in-Ok.at (sym (c.walk.ensures.walk s stands) ∙ c.in-Ok.is)
    ∙ entry_found s.tree.nodes c.in-Ok.at c.in-Some.name.now c.in-Ok-step_to.ino (remove_directory s c.args.place) (sym (c.step_to.ensures.step s stands) ∙ c.in-Ok-step_to.is)))
    (c.remove_directory.ensures.done s stands)

pub returns-in-Err-step_to-clause-done : goal.returns-in-Err-step_to-clause-done
returns-in-Err-step_to-clause-done c = λ s stands.
    refused s (rmdir_along s c.args.place c.args.names.now) c.args.meta.now c.args.touched.now c.in-Err-step_to.why stands c.requires.empty
    (along_found s.tree.nodes c.args.names.now c.in-Some.above.now c.in-Some.name.now (c.in-Some.ensures.cases).0 no.RootFixed (remove_directory s c.args.place) c.in-Ok.at (sym (c.walk.ensures.walk s stands) ∙ c.in-Ok.is)
    ∙ entry_refused s.tree.nodes c.in-Ok.at c.in-Some.name.now c.in-Err-step_to.why (remove_directory s c.args.place) (sym (c.step_to.ensures.step s stands) ∙ c.in-Err-step_to.is))

pub returns-in-Err-clause-done : goal.returns-in-Err-clause-done
returns-in-Err-clause-done c = λ s stands.
    refused s (rmdir_along s c.args.place c.args.names.now) c.args.meta.now c.args.touched.now c.in-Err.why stands c.requires.empty
    (along_refused s.tree.nodes c.args.names.now c.in-Some.above.now c.in-Some.name.now (c.in-Some.ensures.cases).0 no.RootFixed (remove_directory s c.args.place) c.in-Err.why (sym (c.walk.ensures.walk s stands) ∙ c.in-Err.is))
