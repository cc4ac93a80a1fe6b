use Rattle.std.proofs.Common.{sym, ◌∙◌}
use Rattle.vx_model.specs.Removing.{unlink_entry}
use Rattle.vx_txn.specs.Removals.{unlink_at}
use Rattle.vx_txn.proofs.Lookups.{refused, entry_refused}
use Rattle.vx_txn.proofs.remove.unlink_at.Goals as goal

pub returns-in-Err-clause-done : goal.returns-in-Err-clause-done
returns-in-Err-clause-done c = λ s stands.
    refused s (unlink_at s c.args.place c.args.at c.args.name.now) c.args.meta.now c.args.touched.now c.in-Err.why stands c.requires.empty
    (entry_refused s.tree.nodes c.args.at c.args.name.now c.in-Err.why (unlink_entry s c.args.place) (sym (c.step_to.ensures.step s stands) ∙ c.in-Err.is))
