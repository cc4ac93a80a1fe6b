use Rattle.std.proofs.Common.{◌≡◌, true, ◌∙◌, sym, ap, subst}
use Rattle.std.specs.Prelude.{is_some}
use Rattle.vx_inode.specs.Tables.{inode_at}
use Rattle.vx_model.specs.Touching.{Touched}
use Rattle.vx_txn.specs.Calls.{HasGone}
use Rattle.vx_txn.proofs.CallLaws.{stays}
use Rattle.vx_txn.proofs.ReadLaws.{copied_some, node_there, mode_settled}
use Rattle.vx_txn.proofs.chmod.chmod_at.Goals as goal

pub returns-clause-done : goal.returns-clause-done
returns-clause-done c = λ s is.
    let m = c.args.meta.now in
    let there : is_some (inode_at m.inodes c.args.ino) ≡ true = ap is_some (sym c.get.ensures.value) ∙ copied_some c.get.result ∙ c.if-is_none.ensures in
    let p = node_there m s is c.args.ino there in
    let start : HasGone s s m c.args.touched.now = subst (λ (t : Touched). HasGone s s m t) (sym c.requires.empty) (stays m s is) in
    mode_settled m s is c.args.ino c.args.mode p.0 c.set_mode.new.meta c.set_mode.new.touched p.1 (c.set_mode.ensures.set s s p.0 start p.1)
