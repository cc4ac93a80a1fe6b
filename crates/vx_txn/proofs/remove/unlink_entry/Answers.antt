use Rattle.std.proofs.Common.{◌≡◌, Bool, Some, Ok, sym, ◌∙◌, ap}
use Rattle.std.specs.Prelude.{nat_le}
use Rattle.std.specs.FinMap as map
use Rattle.vx_model.specs.Outcome.{◌>>=◌}
use Rattle.vx_model.specs.Tree.{IsFile}
use Rattle.vx_model.specs.Edits.{remove_name}
use Rattle.vx_model.specs.Removing.{fine, unlinked, unlink_entry, unlink_file}
use Rattle.vx_txn.specs.Removals.{entry_of}
use Rattle.vx_txn.proofs.Lookups.{begun, stands_of, sound_of, refused, done, step_of, file_of, no_file, apart, removed_other}
use Rattle.vx_txn.proofs.remove.unlink_entry.Goals as goal

pub drop_name-requires-clause-sound : goal.drop_name-requires-clause-sound
drop_name-requires-clause-sound c =
    let s = c.requires.sound.state in
    let gone = c.remove_name.ensures.removed s s (begun s c.args.meta.now c.args.touched.now c.requires.sound.stands c.requires.empty) in
    sound_of _ _ (stands_of _ _ _ _ gone)

pub returns-in-Ok-clause-done : goal.returns-in-Ok-clause-done
returns-in-Ok-clause-done c = λ s stands.
    let f = file_of s.tree.nodes c.args.ino _ (sym (c.links_of.ensures.links s stands) ∙ c.in-Ok.is) in
    let step = step_of s.tree.nodes c.args.at c.args.name.now c.args.ino (c.requires.entry s stands) in
    let removed = remove_name s c.args.at c.args.name.now in
    let there : map.get removed.tree.nodes c.args.ino ≡ Some (IsFile f.file) =
    removed_other s c.args.at c.args.name.now c.args.ino (apart s.tree.nodes c.args.ino c.args.at f.file step.directory f.found step.found) ∙ f.found in
    let gone = c.remove_name.ensures.removed s s (begun s c.args.meta.now c.args.touched.now stands c.requires.empty) in
    done s (unlinked removed c.args.place c.args.ino (nat_le f.file.nlink 1) f.file) (unlink_entry s c.args.place (entry_of c.args.at c.args.name.now c.args.ino)) _ _
    (ap (λ m. m >>= unlink_file s c.args.place (entry_of c.args.at c.args.name.now c.args.ino)) f.file_is
    ∙ ap (λ (last : Bool). Ok (fine (unlinked removed c.args.place c.args.ino last f.file))) (c.plain_states.ensures.last s c.args.ino f.file stands.plain))
    (c.drop_name.ensures.unnamed s removed (IsFile f.file) gone there)

pub returns-in-Err-clause-done : goal.returns-in-Err-clause-done
returns-in-Err-clause-done c = λ s stands.
    let e = entry_of c.args.at c.args.name.now c.args.ino in
    refused s (unlink_entry s c.args.place e) c.args.meta.now c.args.touched.now c.in-Err.why stands c.requires.empty
    (no_file s.tree.nodes c.args.ino c.in-Err.why (unlink_file s c.args.place e) (sym (c.links_of.ensures.links s stands) ∙ c.in-Err.is))
