use Rattle.std.proofs.Common.{◌≤◌, inl, inr}
use Rattle.std.proofs.lemmas.Bool.{cases_lt, both_ways}
use Rattle.vx_inode.specs.Tables.{links_at}
use Rattle.vx_txn.specs.Calls.{HasGone}
use Rattle.vx_txn.proofs.Lookups.{stands_of}
use Rattle.vx_txn.proofs.Unnaming.{more_names, last_name}
use Rattle.vx_txn.proofs.remove.drop_name.Goals as goal

pub returns-then-has_more_names-clause-unnamed : goal.returns-then-has_more_names-clause-unnamed
returns-then-has_more_names-clause-unnamed c = λ base s node gone found.
    more_names c.args.meta.now s (stands_of base s c.args.meta.now c.args.touched.now gone) c.args.place c.args.ino (λ new. HasGone base new c.remove_link.new.meta c.remove_link.new.touched)
    node found (c.has_more_names.ensures.0 c.if-has_more_names.true) (λ f file. c.remove_link.ensures.set base s f gone file)

pub returns-else-has_more_names-clause-unnamed : goal.returns-else-has_more_names-clause-unnamed
returns-else-has_more_names-clause-unnamed c = λ base s node gone found.
    let few : links_at c.args.meta.now.inodes c.args.ino ≤ 1 = elim (cases_lt 1 (links_at c.args.meta.now.inodes c.args.ino)) [
      | inl more ↦ absurd (both_ways _ c.if-has_more_names.false (c.has_more_names.ensures.1 more))
      | inr few ↦ few
    ] in
    last_name c.args.meta.now s (stands_of base s c.args.meta.now c.args.touched.now gone) c.args.place c.args.ino (λ new. HasGone base new c.drop_node.new.meta c.drop_node.new.touched)
    node found few (c.drop_node.ensures.dropped base s gone)
