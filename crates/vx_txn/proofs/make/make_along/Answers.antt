use Rattle.std.proofs.Common.{sym, subst}
use Rattle.vx_base.specs.declared.reply.Reply.TheVariants as say
use Rattle.std.specs.Prelude.{IfOk}
use Rattle.vx_model.specs.Making.{make_along}
use Rattle.vx_model.specs.Outcome.{Maybe}
use Rattle.vx_model.specs.State.{Done}
use Rattle.vx_model.specs.Touching.{Touched}
use Rattle.vx_txn.specs.Calls.{IsSettled}
use Rattle.vx_txn.specs.Edits.{new_node}
use Rattle.vx_txn.proofs.CallLaws.{refused_settled}
use Rattle.vx_txn.proofs.PathEnds.{along_ok, along_err}
use Rattle.vx_txn.proofs.make.make_along.Goals as goal

pub returns-in-Ok-clause-done : goal.returns-in-Ok-clause-done
returns-in-Ok-clause-done c = λ s is.
    subst (λ (chain : Maybe Done). IfOk c.make_at.result (IsSettled s chain c.make_at.new.meta c.make_at.new.touched))
    (sym (along_ok s (new_node c.args.making.kind c.args.making.mode) c.args.names.now c.in-Some.above.now c.in-Some.name.now c.in-Some.ensures.cases.0 c.in-Ok.at (c.in-Ok.ensures.walk s is)))
    (c.make_at.ensures.done s is)

pub returns-in-Err-clause-done : goal.returns-in-Err-clause-done
returns-in-Err-clause-done c = λ s is.
    let node = new_node c.args.making.kind c.args.making.mode in
    subst (λ (t : Touched). IsSettled s (make_along s node c.args.names.now) c.args.meta.now t (say.Refused c.in-Err.why)) (sym c.requires.empty)
    (refused_settled c.args.meta.now s is (make_along s node c.args.names.now) c.in-Err.why
    (along_err s node c.args.names.now c.in-Some.above.now c.in-Some.name.now c.in-Some.ensures.cases.0 c.in-Err.why (c.in-Err.ensures.walk s is)))
