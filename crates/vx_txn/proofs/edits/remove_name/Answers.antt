use Rattle.std.proofs.Common.{refl, ◌∙◌, ap}
use Rattle.std.proofs.lemmas.List.{with_items_is}
use Rattle.vx_txn.specs.Directories.{directory_at}
use Rattle.vx_txn.proofs.SlotLaws.{Slots}
use Rattle.vx_txn.proofs.NameEdits.{removed_gone}
use Rattle.vx_txn.proofs.edits.remove_name.Goals as goal

pub returns-clause-removed : goal.returns-clause-removed
returns-clause-removed c = λ base s gone.
    let d = c.requires.directory.0 in
    let items = with_items_is c.args.meta.now.directories c.remove-i.new.slots (c.remove-i.auto.slots ∙ c.as_mut_slice.ensures.len) in
    removed_gone c.edit_laws.ensures base s c.args.meta.now _ c.args.touched.now c.add_block.new.self gone c.args.at d c.requires.directory.1 c.args.name.now c.remove-i.result
    (c.remove-i.ensures.only d (ap (λ (x : Slots). directory_at x c.args.at) c.as_mut_slice.ensures.value ∙ c.requires.directory.1))
    (ap (λ (x : Slots). directory_at x c.args.at) items ∙ c.remove-i.ensures.here d (ap (λ (x : Slots). directory_at x c.args.at) c.as_mut_slice.ensures.value ∙ c.requires.directory.1))
    (λ n ne. ap (λ (x : Slots). directory_at x n) items ∙ c.remove-i.ensures.others n ne ∙ ap (λ (x : Slots). directory_at x n) c.as_mut_slice.ensures.value)
    refl refl refl c.add_block.ensures
