use Rattle.std.proofs.Common.{◌∙◌, sym, ap, subst}
use Rattle.vx_base.specs.declared.refusal.Refusal.TheVariants as no
use Rattle.vx_base.specs.declared.reply.Reply.TheVariants as say
use Rattle.vx_dir.specs.Directories.{Directory, inode_of}
use Rattle.vx_model.specs.Making.{make_at}
use Rattle.vx_model.specs.Touching.{Touched}
use Rattle.vx_txn.specs.Calls.{IsSettled}
use Rattle.vx_txn.specs.Edits.{new_node}
use Rattle.vx_txn.proofs.CallLaws.{refused_settled, some_of}
use Rattle.vx_txn.proofs.MakingLaws.{exists}
use Rattle.vx_txn.proofs.StateLaws.{directory_here, directory_node, found}
use Rattle.vx_txn.proofs.make.make_at.Goals as goal

pub returns-then-is_some-clause-done : goal.returns-then-is_some-clause-done
returns-then-is_some-clause-done c = λ s is.
    let m = c.args.meta.now in
    let node = new_node c.args.making.kind c.args.making.mode in
    let d = c.in-Ok.directory.now in
    let there = c.in-Ok.ensures.found in
    let p = some_of c.find.result (sym c.if-is_some.ensures) in
    let named = sym (c.find.ensures ∙ ap (λ (x : Directory). inode_of x c.args.name.now) c.names.ensures) ∙ p.1 in
    let chain = exists s c.args.at c.args.name.now node (directory_here m s is c.args.at d there).tree (directory_node m s is c.args.at d there) p.0 (found m s is c.args.at d c.args.name.now there ∙ named) in
    subst (λ (t : Touched). IsSettled s (make_at s c.args.name.now node c.args.at) m t (say.Refused no.Exist)) (sym c.requires.empty) (refused_settled m s is (make_at s c.args.name.now node c.args.at) no.Exist chain)
