use Rattle.std.proofs.Common.{sym, ◌∙◌, ap}
use Rattle.vx_base.specs.declared.refusal.Refusal.TheVariants as no
use Rattle.vx_dir.specs.Directories.{Directory, inode_of}
use Rattle.vx_txn.specs.Links.{link_to}
use Rattle.vx_txn.proofs.Lookups.{refused, directory_found, meaning, some_of}
use Rattle.vx_txn.proofs.LinkLaws.{exists}
use Rattle.vx_txn.proofs.link.link_at.Goals as goal

pub returns-then-is_some-clause-done : goal.returns-then-is_some-clause-done
returns-then-is_some-clause-done c = λ s stands.
    let d = directory_found c.args.meta.now s stands c.args.at _ c.in-Ok.ensures.found in
    let n = some_of c.find.result (sym c.is_some.ensures ∙ c.if-is_some.true) in
    refused s (link_to s c.args.ino c.args.at c.args.name.now) c.args.meta.now c.args.touched.now no.Exist stands c.requires.empty
    (exists s c.args.ino c.args.nlink c.args.at c.args.name.now (c.requires.file s stands) d.0 n.0 d.1
    (sym (meaning c.args.meta.now s stands c.args.at _ c.in-Ok.ensures.found d.0 d.1 c.args.name.now) ∙ ap (λ (x : Directory). inode_of x c.args.name.now) (sym c.names.ensures) ∙ sym c.find.ensures ∙ n.1))
