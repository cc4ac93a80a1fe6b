use Rattle.std.proofs.Common.{Some, subst}
use Rattle.vx_model.specs.Touching.{IsOnlyIn}
use Rattle.vx_txn.specs.Directories.{DirectoryValue, blocks_in, without}
use Rattle.vx_txn.proofs.SlotLaws.{here_set, same_here, at_others, none_here, none_past}
use Rattle.vx_txn.proofs.slots.remove_at.Goals as goal

pub returns-in-Some-clause-here : goal.returns-in-Some-clause-here
returns-in-Some-clause-here c = here_set c.args.slots.now c.args.at c.index-slots-at.result c.in-Some.directory c.remove.new.self (without c.args.name.now) c.if-at-slots.true c.in-Some.is c.remove.ensures.removed

pub returns-in-Some-clause-only : goal.returns-in-Some-clause-only
returns-in-Some-clause-only c = λ d there.
    subst (λ (x : DirectoryValue). IsOnlyIn c.args.name.now c.remove.result (blocks_in (Some x))) (same_here c.args.slots.now c.args.at c.index-slots-at.result c.in-Some.directory c.if-at-slots.true c.in-Some.is d there) c.remove.ensures.only

pub returns-in-Some-clause-others : goal.returns-in-Some-clause-others
returns-in-Some-clause-others c = λ n ne. at_others c.args.slots.now c.args.at n _ ne

pub returns-in-None-clause-here : goal.returns-in-None-clause-here
returns-in-None-clause-here c = λ d there. none_here c.args.slots.now c.args.at c.index-slots-at.result c.if-at-slots.true c.in-None.is d there

pub returns-in-None-clause-only : goal.returns-in-None-clause-only
returns-in-None-clause-only c = λ d there. none_here c.args.slots.now c.args.at c.index-slots-at.result c.if-at-slots.true c.in-None.is d there

pub returns-else-at-slots-clause-here : goal.returns-else-at-slots-clause-here
returns-else-at-slots-clause-here c = λ d there. none_past c.args.slots.now c.args.at c.if-at-slots.false d there

pub returns-else-at-slots-clause-only : goal.returns-else-at-slots-clause-only
returns-else-at-slots-clause-only c = λ d there. none_past c.args.slots.now c.args.at c.if-at-slots.false d there
