use Rattle.std.proofs.Common.{◌≡◌, None, Err, sym, ◌∙◌, ap, subst}
use Rattle.vx_dir.specs.Directories.{Directory, inode_of, add_answer}
use Rattle.vx_txn.specs.Directories.{IsNewIn}
use Rattle.vx_txn.proofs.EntryLaws.{refused_for_size}
use Rattle.vx_txn.proofs.edits.place_for.Goals as goal

pub unreachable-requires : goal.unreachable-requires
unreachable-requires c =
    let new : inode_of c.in-Some.directory.now.names c.args.name.now ≡ None = subst (IsNewIn c.args.name.now) (sym c.in-Some.ensures) c.requires.new in
    let answer : add_answer c.in-Some.directory.now.names c.args.name.now ≡ Err c.in-Err-Exist.field-0 =
    sym (c.place_for.ensures ∙ ap (λ (d : Directory). add_answer d c.args.name.now) c.names.ensures) ∙ c.in-Err-Exist.is in
    let is = refused_for_size c.in-Some.directory.now.names c.args.name.now new c.in-Err-Exist.field-0 answer in cc
