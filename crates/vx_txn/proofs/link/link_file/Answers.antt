use Rattle.std.proofs.Common.{Option, sym, ◌∙◌, ap, subst}
use Rattle.std.specs.Prelude.{IfOk}
use Rattle.vx_base.specs.declared.refusal.Refusal.TheVariants as no
use Rattle.vx_model.specs.Outcome.{Maybe, need, ◌>>=◌}
use Rattle.vx_model.specs.Paths.{PathEnd}
use Rattle.vx_model.specs.State.{Done}
use Rattle.vx_model.specs.Tree.{File}
use Rattle.vx_model.specs.Linking.{link_inode, link_file, link_end, link_at}
use Rattle.vx_txn.specs.Calls.{IsSettled}
use Rattle.vx_txn.proofs.Lookups.{refused, file_of, end_of}
use Rattle.vx_txn.proofs.link.link_file.Goals as goal

pub returns-in-Ok-clause-done : goal.returns-in-Ok-clause-done
returns-in-Ok-clause-done c = λ s stands.
    let f = file_of s.tree.nodes c.args.ino c.args.nlink (c.requires.file s stands) in
    subst (λ (chain : Maybe Done). IfOk c.link_at.result (IsSettled s chain c.link_at.new.meta c.link_at.new.touched))
    (sym (ap (λ (m : Maybe File). m >>= link_file s c.args.new.now c.args.ino) f.file_is
    ∙ ap (λ (o : Option PathEnd). need o no.Exist >>= link_end s c.args.ino f.file) (end_of c.args.new.now c.in-Some.above.now c.in-Some.name.now (c.in-Some.ensures.cases).0)
    ∙ ap (λ m. m >>= link_at s c.args.ino f.file c.in-Some.name.now) (sym (c.walk.ensures.walk s stands) ∙ c.in-Ok.is)
    ∙ sym (ap (λ (m : Maybe File). m >>= (λ (g : File). link_at s c.args.ino g c.in-Some.name.now c.in-Ok.at)) f.file_is)))
    (c.link_at.ensures.done s stands)

pub returns-in-Err-clause-done : goal.returns-in-Err-clause-done
returns-in-Err-clause-done c = λ s stands.
    let f = file_of s.tree.nodes c.args.ino c.args.nlink (c.requires.file s stands) in
    refused s (link_inode s c.args.new.now c.args.ino) c.args.meta.now c.args.touched.now c.in-Err.why stands c.requires.empty
    (ap (λ (m : Maybe File). m >>= link_file s c.args.new.now c.args.ino) f.file_is
    ∙ ap (λ (o : Option PathEnd). need o no.Exist >>= link_end s c.args.ino f.file) (end_of c.args.new.now c.in-Some.above.now c.in-Some.name.now (c.in-Some.ensures.cases).0)
    ∙ ap (λ m. m >>= link_at s c.args.ino f.file c.in-Some.name.now) (sym (c.walk.ensures.walk s stands) ∙ c.in-Err.is))
