use Rattle.vx_txn.specs.Directories.{DirectoryValue}
use Rattle.vx_txn.proofs.SlotLaws.{here_set, at_others, none_here, none_past}
use Rattle.vx_txn.proofs.slots.put_names_at.Goals as goal

pub returns-in-Some-clause-here : goal.returns-in-Some-clause-here
returns-in-Some-clause-here c =
    here_set c.args.slots.now c.args.at c.index-slots-at.result c.in-Some.directory c.set_names.new.self (λ (d : DirectoryValue). record d { names = c.args.names }) c.if-at-slots.true c.in-Some.is c.set_names.ensures

pub returns-in-Some-clause-others : goal.returns-in-Some-clause-others
returns-in-Some-clause-others c = λ n ne. at_others c.args.slots.now c.args.at n _ ne

pub returns-in_default-clause-here : goal.returns-in_default-clause-here
returns-in_default-clause-here c = λ d there. none_here c.args.slots.now c.args.at c.index-slots-at.result c.if-at-slots.true c.in_default.is d there

pub returns-else-at-slots-clause-here : goal.returns-else-at-slots-clause-here
returns-else-at-slots-clause-here c = λ d there. none_past c.args.slots.now c.args.at c.if-at-slots.false d there
