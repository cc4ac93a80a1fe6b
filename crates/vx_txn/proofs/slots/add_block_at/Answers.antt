use Rattle.std.proofs.Common.{subst}
use Rattle.std.specs.Prelude.{IfErr}
use Rattle.vx_base.specs.declared.inode.DirEntry.{DirEntry}
use Rattle.vx_txn.specs.Directories.{DirectoryValue}
use Rattle.vx_txn.specs.Edits.{HasGrown, IsFull, IsGrownTo}
use Rattle.vx_txn.proofs.SlotLaws.{grown_here, same_here, at_others, none_here, none_past}
use Rattle.vx_txn.proofs.slots.add_block_at.Goals as goal

pub returns-in-Some-clause-here : goal.returns-in-Some-clause-here
returns-in-Some-clause-here c =
    let e : DirEntry = record { ino = c.args.ino; name = c.args.name.now } in
    grown_here c.args.slots.now c.args.at c.add_block.result (λ d new. HasGrown e d new c.args.free.now c.add_block.new.free) (λ d o. IsGrownTo e d o c.args.free.now c.add_block.new.free) (λ d new grown. grown)
    c.index-slots-at.result c.in-Some.directory c.add_block.new.self c.if-at-slots.true c.in-Some.is c.add_block.ensures.grown

pub returns-in-Some-clause-others : goal.returns-in-Some-clause-others
returns-in-Some-clause-others c = λ n ne. at_others c.args.slots.now c.args.at n _ ne

pub returns-in-Some-clause-refused : goal.returns-in-Some-clause-refused
returns-in-Some-clause-refused c = λ d there.
    subst (λ (x : DirectoryValue). IfErr c.add_block.result (IsFull x c.args.free.now)) (same_here c.args.slots.now c.args.at c.index-slots-at.result c.in-Some.directory c.if-at-slots.true c.in-Some.is d there) c.add_block.ensures.refused

pub returns-in-None-clause-here : goal.returns-in-None-clause-here
returns-in-None-clause-here c = λ d there. none_here c.args.slots.now c.args.at c.index-slots-at.result c.if-at-slots.true c.in-None.is d there

pub returns-in-None-clause-refused : goal.returns-in-None-clause-refused
returns-in-None-clause-refused c = λ d there. none_here c.args.slots.now c.args.at c.index-slots-at.result c.if-at-slots.true c.in-None.is d there

pub returns-else-at-slots-clause-here : goal.returns-else-at-slots-clause-here
returns-else-at-slots-clause-here c = λ d there. none_past c.args.slots.now c.args.at c.if-at-slots.false d there

pub returns-else-at-slots-clause-refused : goal.returns-else-at-slots-clause-refused
returns-else-at-slots-clause-refused c = λ d there. none_past c.args.slots.now c.args.at c.if-at-slots.false d there
