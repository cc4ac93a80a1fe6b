use Rattle.std.proofs.Common.{◌≡◌, Ok, false, true, sym, ◌∙◌, ap, subst}
use Rattle.std.proofs.lemmas.Bool.{ne_eqb, eq-eqb}
use Rattle.std.specs.Prelude.{◌==◌}
use Rattle.std.specs.FinMap as map
use Rattle.vx_base.specs.declared.refusal.Refusal.TheVariants as no
use Rattle.vx_dir.specs.Directories.{entry_count, IsKept as IsSoundDirectory}
use Rattle.vx_model.specs.Outcome.{unless, ◌>>=◌}
use Rattle.vx_model.specs.Walks.{root}
use Rattle.vx_model.specs.Edits.{remove_name, drop_node}
use Rattle.vx_model.specs.Removing.{fine, remove_empty, remove_directory}
use Rattle.vx_txn.specs.Removals.{entry_of}
use Rattle.vx_txn.proofs.Lookups.{begun, stands_of, sound_of, refused, done, node_directory, directory_found, counted}
use Rattle.vx_txn.proofs.remove.remove_directory.Goals as goal

pub returns-then-entries-ne0-clause-done : goal.returns-then-entries-ne0-clause-done
returns-then-entries-ne0-clause-done c = λ s stands.
    let e = entry_of c.args.at c.args.name.now c.args.ino in
    let d = directory_found c.args.meta.now s stands c.args.ino _ c.in-Ok.ensures.found in
    let count = counted c.args.meta.now s stands c.args.ino _ c.in-Ok.ensures.found d.0 d.1 (subst IsSoundDirectory c.names.ensures c.kept.ensures) in
    let test : (map.len d.0.entries == 0) ≡ false =
    ne_eqb (map.len d.0.entries) 0 (λ none. c.if-entries-ne0.true (c.entries.ensures ∙ ap entry_count c.names-in-Ok.ensures ∙ count ∙ none)) in
    refused s (remove_directory s c.args.place e) c.args.meta.now c.args.touched.now no.NotEmpty stands c.requires.empty
    (ap (λ m. m >>= remove_empty s c.args.place e) (node_directory s.tree.nodes c.args.ino d.0 d.1)
    ∙ ap (λ b. unless b no.NotEmpty (Ok (fine (drop_node (remove_name s c.args.at c.args.name.now) c.args.place c.args.ino)))) test)

pub drop_node-requires-clause-sound : goal.drop_node-requires-clause-sound
drop_node-requires-clause-sound c =
    let s = c.requires.sound.state in
    let gone = c.remove_name.ensures.removed s s (begun s c.args.meta.now c.args.touched.now c.requires.sound.stands c.requires.empty) in
    sound_of _ _ (stands_of _ _ _ _ gone)

pub drop_node-requires-clause-other : goal.drop_node-requires-clause-other
drop_node-requires-clause-other c = λ same.
    let s = c.requires.sound.state in
    let stands = c.requires.sound.stands in
    let d = directory_found c.args.meta.now s stands c.args.ino _ c.in-Ok.ensures.found in
    let count = counted c.args.meta.now s stands c.args.ino _ c.in-Ok.ensures.found d.0 d.1 (subst IsSoundDirectory c.names.ensures c.kept.ensures) in
    c.requires.root s stands d.0 (node_directory s.tree.nodes root d.0 (ap (map.get s.tree.nodes) (sym same) ∙ d.1))
    (sym count ∙ ap entry_count (sym c.names-in-Ok.ensures) ∙ sym c.entries.ensures ∙ c.if-entries-ne0.false)

pub returns-clause-done : goal.returns-clause-done
returns-clause-done c = λ s stands.
    let e = entry_of c.args.at c.args.name.now c.args.ino in
    let removed = remove_name s c.args.at c.args.name.now in
    let d = directory_found c.args.meta.now s stands c.args.ino _ c.in-Ok.ensures.found in
    let count = counted c.args.meta.now s stands c.args.ino _ c.in-Ok.ensures.found d.0 d.1 (subst IsSoundDirectory c.names.ensures c.kept.ensures) in
    let test : (map.len d.0.entries == 0) ≡ true =
    eq-eqb (map.len d.0.entries) 0 (sym count ∙ ap entry_count (sym c.names-in-Ok.ensures) ∙ sym c.entries.ensures ∙ c.if-entries-ne0.false) in
    done s (drop_node removed c.args.place c.args.ino) (remove_directory s c.args.place e) _ _
    (ap (λ m. m >>= remove_empty s c.args.place e) (node_directory s.tree.nodes c.args.ino d.0 d.1)
    ∙ ap (λ b. unless b no.NotEmpty (Ok (fine (drop_node removed c.args.place c.args.ino)))) test)
    (c.drop_node.ensures.dropped s removed (c.remove_name.ensures.removed s s (begun s c.args.meta.now c.args.touched.now stands c.requires.empty)))
