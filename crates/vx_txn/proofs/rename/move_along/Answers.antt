use Rattle.std.proofs.Common.{Option, sym, ◌∙◌, ap, subst}
use Rattle.std.specs.Prelude.{IfOk}
use Rattle.vx_base.specs.declared.refusal.Refusal.TheVariants as no
use Rattle.vx_model.specs.Outcome.{Maybe, need, ◌>>=◌}
use Rattle.vx_model.specs.Paths.{PathEnd}
use Rattle.vx_model.specs.State.{Done}
use Rattle.vx_model.specs.Moving.{move_entry, move_to}
use Rattle.vx_txn.specs.Calls.{IsSettled}
use Rattle.vx_txn.specs.Renames.{entry, move_along}
use Rattle.vx_txn.proofs.Lookups.{refused, end_of}
use Rattle.vx_txn.proofs.rename.move_along.Goals as goal

pub returns-in-Ok-clause-done : goal.returns-in-Ok-clause-done
returns-in-Ok-clause-done c = λ s stands.
    let e = entry c.args.from.now in
    subst (λ (chain : Maybe Done). IfOk c.move_to.result (IsSettled s chain c.move_to.new.meta c.move_to.new.touched))
    (sym (ap (λ (o : Option PathEnd). need o no.RootFixed >>= (λ (end : PathEnd). move_entry s c.args.place c.args.below end e)) (end_of c.args.new.now c.in-Some.above.now c.in-Some.name.now (c.in-Some.ensures.cases).0)
    ∙ ap (λ m. m >>= move_to s c.args.place c.args.below e c.in-Some.name.now) (sym (c.walk.ensures.walk s stands) ∙ c.in-Ok.is)))
    (c.move_to.ensures.done s stands)

pub returns-in-Err-clause-done : goal.returns-in-Err-clause-done
returns-in-Err-clause-done c = λ s stands.
    let e = entry c.args.from.now in
    refused s (move_along s c.args.place c.args.below c.args.new.now e) c.args.meta.now c.args.touched.now c.in-Err.why stands c.requires.empty
    (ap (λ (o : Option PathEnd). need o no.RootFixed >>= (λ (end : PathEnd). move_entry s c.args.place c.args.below end e)) (end_of c.args.new.now c.in-Some.above.now c.in-Some.name.now (c.in-Some.ensures.cases).0)
    ∙ ap (λ m. m >>= move_to s c.args.place c.args.below e c.in-Some.name.now) (sym (c.walk.ensures.walk s stands) ∙ c.in-Err.is))
