use Rattle.vx_txn.specs.Directories.{with_name}
use Rattle.vx_txn.proofs.SlotLaws.{ok_here, at_others, none_here, none_past}
use Rattle.vx_txn.proofs.slots.add_at.Goals as goal

pub returns-in-Some-clause-here : goal.returns-in-Some-clause-here
returns-in-Some-clause-here c = ok_here c.args.slots.now c.args.at c.add.result c.index-slots-at.result c.in-Some.directory c.add.new.self (with_name (record { ino = c.args.ino; name = c.args.name.now })) c.if-at-slots.true c.in-Some.is c.add.ensures.ok

pub returns-in-Some-clause-others : goal.returns-in-Some-clause-others
returns-in-Some-clause-others c = λ n ne. at_others c.args.slots.now c.args.at n _ ne

pub returns-in-None-clause-here : goal.returns-in-None-clause-here
returns-in-None-clause-here c = λ d there. none_here c.args.slots.now c.args.at c.index-slots-at.result c.if-at-slots.true c.in-None.is d there

pub returns-else-at-slots-clause-here : goal.returns-else-at-slots-clause-here
returns-else-at-slots-clause-here c = λ d there. none_past c.args.slots.now c.args.at c.if-at-slots.false d there
