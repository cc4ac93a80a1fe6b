use Rattle.std.proofs.Common.{refl, ◌∙◌, ◌<◌, ap, subst, Ok}
use Rattle.std.proofs.lemmas.List.{with_items_is}
use Rattle.vx_txn.specs.Directories.{directory_at, block_count, IsNewIn}
use Rattle.vx_txn.specs.Edits.{HasAnswer}
use Rattle.vx_txn.proofs.SlotLaws.{Slots}
use Rattle.vx_txn.proofs.NameEdits.{filled_gone, new_directory}
use Rattle.vx_txn.proofs.edits.add_to_block.Goals as goal

pub returns-in-Ok-clause-added : goal.returns-in-Ok-clause-added
returns-in-Ok-clause-added c = λ base s gone.
    let p = new_directory c.args.name.now _ c.requires.new in
    let d = p.0 in
    let there = p.1 in
    let items = with_items_is c.args.meta.now.directories c.add.new.slots (c.add.auto.slots ∙ c.as_mut_slice.ensures.len) in
    filled_gone c.edit_laws.ensures base s c.args.meta.now _ c.args.touched.now c.add_block.new.self gone c.args.at d there c.args.name.now c.args.ino c.args.i
    (subst (HasAnswer (Ok c.args.i) c.args.name.now) there c.requires.place) (subst (λ o. c.args.i < block_count o) there c.requires.inside) c.requires.name (subst (IsNewIn c.args.name.now) there c.requires.new) c.requires.inode
    (ap (λ (x : Slots). directory_at x c.args.at) items ∙ c.in-Ok.ensures.here d (ap (λ (x : Slots). directory_at x c.args.at) c.as_mut_slice.ensures.value ∙ there))
    (λ n ne. ap (λ (x : Slots). directory_at x n) items ∙ c.add.ensures.others n ne ∙ ap (λ (x : Slots). directory_at x n) c.as_mut_slice.ensures.value)
    refl refl refl c.add_block.ensures
