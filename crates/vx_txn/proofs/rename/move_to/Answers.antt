use Rattle.std.proofs.Common.{Some, None, sym, ◌∙◌, ap}
use Rattle.std.specs.FinMap as map
use Rattle.vx_base.specs.declared.refusal.Refusal.TheVariants as no
use Rattle.vx_model.specs.Moving.{move_to}
use Rattle.vx_txn.specs.Renames.{entry}
use Rattle.vx_txn.proofs.Lookups.{refused, directory_found, node_directory}
use Rattle.vx_txn.proofs.Renaming.{to_directory, into_itself, no_node, directory_kind}
use Rattle.vx_txn.proofs.rename.move_to.Goals as goal

pub returns-in-None-clause-done : goal.returns-in-None-clause-done
returns-in-None-clause-done c = λ s stands.
    let m = c.args.m.now in
    let d = directory_found c.args.meta.now s stands m.to _ c.in-Ok.ensures.found in
    refused s (move_to s c.args.place c.args.below (entry m.from) m.name.now m.to) c.args.meta.now c.args.touched.now no.NoEnt stands c.requires.empty
    (to_directory s c.args.place c.args.below (entry m.from) m.name.now m.to d.0 None (node_directory s.tree.nodes m.to d.0 d.1) (no_node (map.get s.tree.nodes m.from.ino) (sym (c.kind_of.ensures s stands) ∙ c.in-None.is)))

pub returns-in-Some-Directory-clause-done : goal.returns-in-Some-Directory-clause-done
returns-in-Some-Directory-clause-done c = λ s stands.
    let m = c.args.m.now in
    let d = directory_found c.args.meta.now s stands m.to _ c.in-Ok.ensures.found in
    let e = directory_kind (map.get s.tree.nodes m.from.ino) (sym (c.kind_of.ensures s stands) ∙ c.in-Some-Directory.is ∙ ap Some c.in-Some-Directory.field-0-is) in
    refused s (move_to s c.args.place c.args.below (entry m.from) m.name.now m.to) c.args.meta.now c.args.touched.now no.IntoItself stands c.requires.empty
    (to_directory s c.args.place c.args.below (entry m.from) m.name.now m.to d.0 _ (node_directory s.tree.nodes m.to d.0 d.1) e.is
    ∙ into_itself s c.args.place c.args.below (entry m.from) m.name.now m.to d.0 e.directory c.if-below.true)
