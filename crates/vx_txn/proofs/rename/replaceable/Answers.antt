use Rattle.std.proofs.Common.{◌≡◌, Ok, true, false, sym, ◌∙◌, ap, subst}
use Rattle.std.specs.Prelude.{◌==◌}
use Rattle.std.proofs.lemmas.Bool.{ne_eqb, eq-eqb}
use Rattle.std.specs.FinMap as map
use Rattle.vx_base.specs.declared.refusal.Refusal.TheVariants as no
use Rattle.vx_dir.specs.Directories.{entry_count, IsKept as IsSoundDirectory}
use Rattle.vx_model.specs.Outcome.{Maybe, unless, ◌>>=◌}
use Rattle.vx_model.specs.Tree.{Directory}
use Rattle.vx_base.specs.declared.kind.FileKind.{FileKind}
use Rattle.vx_txn.specs.Renames.{replaceable}
use Rattle.vx_txn.proofs.Lookups.{directory_found, node_directory, counted}
use Rattle.vx_txn.proofs.rename.replaceable.Goals as goal

abbrev allowed : Maybe (Unit {0})
allowed = Ok tt

pub returns-then-entries-eq0-clause-answer : goal.returns-then-entries-eq0-clause-answer
returns-then-entries-eq0-clause-answer c = λ s stands.
    let d = directory_found c.args.meta.now s stands c.args.target _ c.in-Ok-directory_of.ensures.found in
    let count = counted c.args.meta.now s stands c.args.target _ c.in-Ok-directory_of.ensures.found d.0 d.1 (subst IsSoundDirectory c.names.ensures c.kept.ensures) in
    let test : (map.len d.0.entries == 0) ≡ true = eq-eqb (map.len d.0.entries) 0 (sym count ∙ ap entry_count (sym c.names-in-Ok-directory_of.ensures) ∙ sym c.entries.ensures ∙ c.if-entries-eq0.true) in
    sym (ap (λ (k : FileKind). replaceable s.tree.nodes k c.args.target) c.in-Directory.is ∙ ap (λ (m : Maybe Directory). m >>= (λ (e : Directory). unless (map.len e.entries == 0) no.NotEmpty allowed)) (node_directory s.tree.nodes c.args.target d.0 d.1) ∙ ap (λ b. unless b no.NotEmpty allowed) test)

pub returns-else-entries-eq0-clause-answer : goal.returns-else-entries-eq0-clause-answer
returns-else-entries-eq0-clause-answer c = λ s stands.
    let d = directory_found c.args.meta.now s stands c.args.target _ c.in-Ok-directory_of.ensures.found in
    let count = counted c.args.meta.now s stands c.args.target _ c.in-Ok-directory_of.ensures.found d.0 d.1 (subst IsSoundDirectory c.names.ensures c.kept.ensures) in
    let test : (map.len d.0.entries == 0) ≡ false =
    ne_eqb (map.len d.0.entries) 0 (λ none. c.if-entries-eq0.false (c.entries.ensures ∙ ap entry_count c.names-in-Ok-directory_of.ensures ∙ count ∙ none)) in
    sym (ap (λ (k : FileKind). replaceable s.tree.nodes k c.args.target) c.in-Directory.is ∙ ap (λ (m : Maybe Directory). m >>= (λ (e : Directory). unless (map.len e.entries == 0) no.NotEmpty allowed)) (node_directory s.tree.nodes c.args.target d.0 d.1) ∙ ap (λ b. unless b no.NotEmpty allowed) test)
