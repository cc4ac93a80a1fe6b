use Rattle.std.proofs.Common.{sym, ◌∙◌, ap}
use Rattle.vx_model.specs.Outcome.{◌>>=◌}
use Rattle.vx_model.specs.Linking.{link_along, link_inode, link_file}
use Rattle.vx_txn.proofs.Lookups.{refused, no_file}
use Rattle.vx_txn.proofs.link.link_along.Goals as goal

pub returns-in-Err-links_of-clause-done : goal.returns-in-Err-links_of-clause-done
returns-in-Err-links_of-clause-done c = λ s stands.
    refused s (link_along s c.args.old.now c.args.new.now) c.args.meta.now c.args.touched.now c.in-Err-links_of.why stands c.requires.empty
    (ap (λ m. m >>= link_inode s c.args.new.now) (sym (c.walk.ensures.walk s stands) ∙ c.in-Ok.is)
    ∙ no_file s.tree.nodes c.in-Ok.ino c.in-Err-links_of.why (link_file s c.args.new.now c.in-Ok.ino) (sym (c.links_of.ensures.links s stands) ∙ c.in-Err-links_of.is))
