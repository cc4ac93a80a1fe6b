use Rattle.std.proofs.Common.{◌∙◌, sym, ap, subst, Option, Some}
use Rattle.vx_txn.specs.Directories.{DirectoryValue}
use Rattle.vx_txn.specs.Metas.{Stands}
use Rattle.vx_txn.specs.Values.{AreFew, value_by}
use Rattle.vx_txn.proofs.MetaLaws.{few_are, value_is}
use Rattle.vx_txn.proofs.meta.Meta.inode_value.Goals as goal

pub returns-in-Some : goal.returns-in-Some
returns-in-Some c = λ s laid plain is.
    let stands : Stands c.args.self.now s = record { laid_out = laid; plain = plain; is = is } in
    let few = few_are c.args.self.now s stands c.args.ino c.in-Some.inode.now (sym c.in-Some.ensures.value) in
    ap Some (c.value_of.ensures (subst AreFew (sym c.directory.ensures) few) ∙ ap (λ (o : Option DirectoryValue). value_by c.in-Some.inode.now o) c.directory.ensures)
    ∙ value_is c.args.self.now s stands c.args.ino c.in-Some.inode.now (sym c.in-Some.ensures.value)
