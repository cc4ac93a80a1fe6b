use Rattle.std.proofs.Common.{◌<◌, ◌+◌, ℕ, sym, ◌∙◌, ap, subst}
use Rattle.vx_base.specs.declared.refusal.Refusal.TheVariants as no
use Rattle.vx_model.specs.Outcome.{Maybe, ◌>>=◌}
use Rattle.vx_model.specs.Tree.{IsFile}
use Rattle.vx_model.specs.State.{State}
use Rattle.vx_model.specs.Edits.{add_name, set_node}
use Rattle.vx_txn.specs.Links.{link_to}
use Rattle.vx_txn.proofs.Lookups.{begun, stands_of, refused, done, file_of, file_links, node_used, apart, added_other, edited_to, refusal_settled, without_of}
use Rattle.vx_txn.proofs.LinkLaws.{linked, too_many, one_more}
use Rattle.vx_txn.proofs.Changes.{unchanged_stands}
use Rattle.vx_txn.proofs.CallLaws.{reply_fits}
use Rattle.vx_txn.proofs.link.link_in.Goals as goal

pub returns-then-nlink-ge-MAX_LINKS-clause-done : goal.returns-then-nlink-ge-MAX_LINKS-clause-done
returns-then-nlink-ge-MAX_LINKS-clause-done c = λ s stands.
    refused s (link_to s c.args.ino c.args.at c.args.name.now) c.args.meta.now c.args.touched.now (no.TooManyLinks c.args.nlink) stands c.requires.empty
    (too_many s c.args.ino c.args.nlink c.args.at c.args.name.now (c.requires.file s stands) (without_of c.args.meta.now s stands c.args.at c.args.name.now c.requires.new) c.if-nlink-ge-MAX_LINKS.true)

pub add_link-requires-clause-used : goal.add_link-requires-clause-used
add_link-requires-clause-used c =
    let s = c.requires.sound.state in
    let stands = c.requires.sound.stands in
    let f = file_of s.tree.nodes c.args.ino c.args.nlink (c.requires.file s stands) in
    let w = without_of c.args.meta.now s stands c.args.at c.args.name.now c.requires.new in
    let e = edited_to s (add_name s c.args.at c.args.name.now c.args.ino) _ _ (c.in-Ok.ensures.added s s (begun s c.args.meta.now c.args.touched.now stands c.requires.empty)) in
    node_used _ e.new (stands_of _ _ _ _ e.gone) c.args.ino (IsFile f.file)
    (added_other s c.args.at c.args.ino c.args.name.now c.args.ino e.new (apart s.tree.nodes c.args.ino c.args.at f.file w.directory f.found w.found) e.is ∙ f.found)

pub add_link-requires-clause-links : goal.add_link-requires-clause-links
add_link-requires-clause-links c =
    let s = c.requires.sound.state in
    let stands = c.requires.sound.stands in
    let f = file_of s.tree.nodes c.args.ino c.args.nlink (c.requires.file s stands) in
    let w = without_of c.args.meta.now s stands c.args.at c.args.name.now c.requires.new in
    let e = edited_to s (add_name s c.args.at c.args.name.now c.args.ino) _ _ (c.in-Ok.ensures.added s s (begun s c.args.meta.now c.args.touched.now stands c.requires.empty)) in
    let links = file_links _ e.new (stands_of _ _ _ _ e.gone) c.args.ino f.file
    (added_other s c.args.at c.args.ino c.args.name.now c.args.ino e.new (apart s.tree.nodes c.args.ino c.args.at f.file w.directory f.found w.found) e.is ∙ f.found) in
    subst (λ (n : ℕ). n < 32767) (sym (links ∙ f.counted)) c.if-nlink-ge-MAX_LINKS.false

pub returns-in-Ok-clause-done : goal.returns-in-Ok-clause-done
returns-in-Ok-clause-done c = λ s stands.
    let f = file_of s.tree.nodes c.args.ino c.args.nlink (c.requires.file s stands) in
    let w = without_of c.args.meta.now s stands c.args.at c.args.name.now c.requires.new in
    let e = edited_to s (add_name s c.args.at c.args.name.now c.args.ino) _ _ (c.in-Ok.ensures.added s s (begun s c.args.meta.now c.args.touched.now stands c.requires.empty)) in
    done s (set_node e.new c.args.ino (IsFile (record f.file { nlink = f.file.nlink + 1 }))) (link_to s c.args.ino c.args.at c.args.name.now) _ _
    (one_more s c.args.ino c.args.nlink c.args.at c.args.name.now (c.requires.file s stands) w c.if-nlink-ge-MAX_LINKS.false ∙ ap (λ (m : Maybe State). m >>= linked c.args.ino f.file) e.is)
    (c.add_link.ensures.set s e.new f.file e.gone
    (added_other s c.args.at c.args.ino c.args.name.now c.args.ino e.new (apart s.tree.nodes c.args.ino c.args.at f.file w.directory f.found w.found) e.is ∙ f.found))

pub returns-in-Err-clause-done : goal.returns-in-Err-clause-done
returns-in-Err-clause-done c = λ s stands.
    let f = file_of s.tree.nodes c.args.ino c.args.nlink (c.requires.file s stands) in
    let w = without_of c.args.meta.now s stands c.args.at c.args.name.now c.requires.new in
    refusal_settled s (link_to s c.args.ino c.args.at c.args.name.now) _ _ (add_name s c.args.at c.args.name.now c.args.ino) c.in-Err.refusal c.refused.result
    (unchanged_stands c.args.meta.now _ s c.in-Err.ensures.unchanged stands) (c.in-Err.ensures.untouched ∙ c.requires.empty)
    (λ why is. one_more s c.args.ino c.args.nlink c.args.at c.args.name.now (c.requires.file s stands) w c.if-nlink-ge-MAX_LINKS.false ∙ ap (λ (m : Maybe State). m >>= linked c.args.ino f.file) is)
    (c.in-Err.ensures.refused s stands) c.refused.ensures

pub returns-in-Err-clause-fits : goal.returns-in-Err-clause-fits
returns-in-Err-clause-fits c = reply_fits c.add_name.new.touched c.refused.result (c.in-Err.ensures.untouched ∙ c.requires.empty)
