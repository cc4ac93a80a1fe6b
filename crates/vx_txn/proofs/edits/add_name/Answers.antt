use Rattle.std.proofs.Common.{sym, ◌∙◌, ap, subst}
use Rattle.vx_model.specs.Legal.{is_any_time}
use Rattle.vx_model.specs.Touching.{untouched}
use Rattle.vx_txn.specs.Directories.{directory_at, IsNewIn}
use Rattle.vx_txn.proofs.CallLaws.{stays}
use Rattle.vx_txn.proofs.SlotLaws.{Slots}
use Rattle.vx_txn.proofs.NameEdits.{new_directory, too_big}
use Rattle.vx_txn.proofs.edits.add_name.Goals as goal

pub returns-in-Err-clause-refused : goal.returns-in-Err-clause-refused
returns-in-Err-clause-refused c = λ s is.
    let m = c.args.meta.now in
    let p = new_directory c.args.name.now _ c.requires.new in
    let answer = c.in-Err.ensures p.0 (ap (λ (x : Slots). directory_at x c.args.at) c.as_slice.ensures.value ∙ p.1) in
    let big = too_big c.edit_laws.ensures s s m m untouched untouched (stays m s is) c.args.at p.0 p.1 c.args.name.now c.args.ino (subst (IsNewIn c.args.name.now) p.1 c.requires.new) c.in-Err.why (sym answer) in
    (big.0, ap is_any_time big.1)
