use Rattle.std.proofs.Common.{◌≢◌, Bool, length, sym, ◌∙◌, ap, subst}
use Rattle.std.specs.Prelude.{IfOk}
use Rattle.std.proofs.lemmas.Bool.{both_ways, eq-eqb}
use Rattle.vx_model.specs.Outcome.{Maybe}
use Rattle.vx_model.specs.State.{Done}
use Rattle.vx_model.specs.Moving.{rename_along}
use Rattle.vx_txn.specs.Calls.{IsSettled}
use Rattle.vx_txn.specs.Removals.{entry_of}
use Rattle.vx_txn.specs.Renames.{move_along}
use Rattle.vx_txn.proofs.Lookups.{refused, root_used}
use Rattle.vx_txn.proofs.Renaming.{some_end, no_way, no_entry, entry_moves}
use Rattle.vx_txn.proofs.rename.rename_along.Goals as goal

pub move_along-requires-clause-root : goal.move_along-requires-clause-root
move_along-requires-clause-root c = λ s stands.
    root_used s.tree.nodes c.in-Some.above.now c.in-Ok.at c.in-Some.name.now c.in-Ok-step_to.ino (sym (c.walk.ensures.walk s stands) ∙ c.in-Ok.is) (sym (c.step_to.ensures.step s stands) ∙ c.in-Ok-step_to.is)

pub returns-in-Ok-step_to-clause-done : goal.returns-in-Ok-step_to-clause-done
returns-in-Ok-step_to-clause-done c = λ s stands.
    let some : length c.args.new.now ≢ 0 = λ none. both_ways _ (sym c.is_empty.ensures ∙ c.if-is_empty.false) (eq-eqb (length c.args.new.now) 0 none) in
    subst (λ (chain : Maybe Done). IfOk c.move_along.result (IsSettled s chain c.move_along.new.meta c.move_along.new.touched))
    (sym (entry_moves s c.args.place c.args.old.now c.args.new.now c.in-Some.above.now c.in-Some.name.now (c.in-Some.ensures.cases).0 (some_end c.args.new.now some) c.in-Ok.at c.in-Ok-step_to.ino (sym (c.walk.ensures.walk s stands) ∙ c.in-Ok.is) (sym (c.step_to.ensures.step s stands) ∙ c.in-Ok-step_to.is)
    ∙ ap (λ (b : Bool). move_along s c.args.place b c.args.new.now (entry_of c.in-Ok.at c.in-Some.name.now c.in-Ok-step_to.ino)) (sym c.is_below-below.ensures)))
    (c.move_along.ensures.done s stands)

pub returns-in-Err-step_to-clause-done : goal.returns-in-Err-step_to-clause-done
returns-in-Err-step_to-clause-done c = λ s stands.
    let some : length c.args.new.now ≢ 0 = λ none. both_ways _ (sym c.is_empty.ensures ∙ c.if-is_empty.false) (eq-eqb (length c.args.new.now) 0 none) in
    refused s (rename_along s c.args.place c.args.old.now c.args.new.now) c.args.meta.now c.args.touched.now c.in-Err-step_to.why stands c.requires.empty
    (no_entry s c.args.place c.args.old.now c.args.new.now c.in-Some.above.now c.in-Some.name.now (c.in-Some.ensures.cases).0 (some_end c.args.new.now some) c.in-Ok.at c.in-Err-step_to.why (sym (c.walk.ensures.walk s stands) ∙ c.in-Ok.is) (sym (c.step_to.ensures.step s stands) ∙ c.in-Err-step_to.is))

pub returns-in-Err-clause-done : goal.returns-in-Err-clause-done
returns-in-Err-clause-done c = λ s stands.
    let some : length c.args.new.now ≢ 0 = λ none. both_ways _ (sym c.is_empty.ensures ∙ c.if-is_empty.false) (eq-eqb (length c.args.new.now) 0 none) in
    refused s (rename_along s c.args.place c.args.old.now c.args.new.now) c.args.meta.now c.args.touched.now c.in-Err.why stands c.requires.empty
    (no_way s c.args.place c.args.old.now c.args.new.now c.in-Some.above.now c.in-Some.name.now (c.in-Some.ensures.cases).0 (some_end c.args.new.now some) c.in-Err.why (sym (c.walk.ensures.walk s stands) ∙ c.in-Err.is))
