use Rattle.std.proofs.Common.{sym, ◌∙◌, ap, subst}
use Rattle.std.specs.Prelude.{IfOk}
use Rattle.std.specs.FinMap as map
use Rattle.vx_base.specs.declared.kind.FileKind.{FileKind}
use Rattle.vx_model.specs.Outcome.{Maybe}
use Rattle.vx_model.specs.State.{Done}
use Rattle.vx_model.specs.Moving.{move_onto}
use Rattle.vx_txn.specs.Calls.{IsSettled}
use Rattle.vx_txn.specs.Renames.{move_of, replaceable}
use Rattle.vx_txn.proofs.Lookups.{begun, done, refused, step_of, directory_found, directory_node, new_of}
use Rattle.vx_txn.proofs.Renaming.{not_replaced_there, replaced, not_replaced, no_step, step_entry, kind_is, onto, onto_itself}
use Rattle.vx_txn.proofs.rename.move_onto.Goals as goal

pub put_over-requires-clause-not_from : goal.put_over-requires-clause-not_from
put_over-requires-clause-not_from c =
    let s = c.requires.sound.state in
    let stands = c.requires.sound.stands in
    let m = c.args.m.now in
    not_replaced_there s.tree.nodes c.args.kind c.in-Ok.target m.from.at m.from.name.now m.from.ino (sym (c.replaceable.ensures.answer s stands) ∙ c.in-Ok-replaceable.is)
    (step_of s.tree.nodes m.from.at m.from.name.now m.from.ino (c.requires.entry s stands))

pub put_over-requires-clause-not_to : goal.put_over-requires-clause-not_to
put_over-requires-clause-not_to c =
    let s = c.requires.sound.state in
    let stands = c.requires.sound.stands in
    let m = c.args.m.now in
    not_replaced_there s.tree.nodes c.args.kind c.in-Ok.target m.to m.name.now c.in-Ok.target (sym (c.replaceable.ensures.answer s stands) ∙ c.in-Ok-replaceable.is)
    (step_of s.tree.nodes m.to m.name.now c.in-Ok.target (sym (c.step_to.ensures.step s stands) ∙ c.in-Ok.is))

pub put_in-requires-clause-free : goal.put_in-requires-clause-free
put_in-requires-clause-free c =
    let s = c.requires.sound.state in
    let stands = c.requires.sound.stands in
    let m = c.args.m.now in
    let d = directory_found c.args.meta.now s stands m.to c.requires.directory.0 c.requires.directory.1 in
    new_of c.args.meta.now s stands m.to m.name.now
    (record { directory = d.0; found = d.1; absent = no_step s.tree.nodes m.to m.name.now d.0 _ d.1 (sym (c.step_to.ensures.step s stands) ∙ c.in-Err.is) })

pub returns-then-eq-clause-done : goal.returns-then-eq-clause-done
returns-then-eq-clause-done c = λ s d node stands at found.
    let m = c.args.m.now in
    let has = step_entry s.tree.nodes m.to m.name.now c.in-Ok.target d at (sym (c.step_to.ensures.step s stands) ∙ c.in-Ok.is) in
    done s s (move_onto s c.args.place (move_of m node) (map.get d.entries m.name.now)) _ _ (onto_itself s c.args.place (move_of m node) (map.get d.entries m.name.now) c.in-Ok.target has (sym c.eq.ensures ∙ c.if-eq.true))
    (begun s c.args.meta.now c.args.touched.now stands c.requires.empty)

pub returns-in-Ok-replaceable-clause-done : goal.returns-in-Ok-replaceable-clause-done
returns-in-Ok-replaceable-clause-done c = λ s d node stands at found.
    let m = c.args.m.now in
    let has = step_entry s.tree.nodes m.to m.name.now c.in-Ok.target d at (sym (c.step_to.ensures.step s stands) ∙ c.in-Ok.is) in
    let same = kind_is (map.get s.tree.nodes m.from.ino) node c.args.kind (c.requires.kind s stands) found in
    let may = ap (λ (k : FileKind). replaceable s.tree.nodes k c.in-Ok.target) same ∙ sym (c.replaceable.ensures.answer s stands) ∙ c.in-Ok-replaceable.is in
    let r = replaced s c.args.place (move_of m node) c.in-Ok.target node (λ f. c.plain_states.ensures.last s c.in-Ok.target f stands.plain) may in
    subst (λ (chain : Maybe Done). IfOk c.put_over.result (IsSettled s chain c.put_over.new.meta c.put_over.new.touched))
    (sym (onto s c.args.place (move_of m node) (map.get d.entries m.name.now) c.in-Ok.target has (sym c.eq.ensures ∙ c.if-eq.false) ∙ r.is))
    (c.put_over.ensures.done s node r.old stands found r.found)

pub returns-in-Err-replaceable-clause-done : goal.returns-in-Err-replaceable-clause-done
returns-in-Err-replaceable-clause-done c = λ s d node stands at found.
    let m = c.args.m.now in
    let has = step_entry s.tree.nodes m.to m.name.now c.in-Ok.target d at (sym (c.step_to.ensures.step s stands) ∙ c.in-Ok.is) in
    let same = kind_is (map.get s.tree.nodes m.from.ino) node c.args.kind (c.requires.kind s stands) found in
    let may_not = ap (λ (k : FileKind). replaceable s.tree.nodes k c.in-Ok.target) same ∙ sym (c.replaceable.ensures.answer s stands) ∙ c.in-Err-replaceable.is in
    refused s (move_onto s c.args.place (move_of m node) (map.get d.entries m.name.now)) c.args.meta.now c.args.touched.now c.in-Err-replaceable.why stands c.requires.empty
    (onto s c.args.place (move_of m node) (map.get d.entries m.name.now) c.in-Ok.target has (sym c.eq.ensures ∙ c.if-eq.false) ∙ not_replaced s c.args.place (move_of m node) c.in-Ok.target node c.in-Err-replaceable.why may_not)

pub returns-in-Err-clause-done : goal.returns-in-Err-clause-done
returns-in-Err-clause-done c = λ s d node stands at found.
    let m = c.args.m.now in
    let none = no_step s.tree.nodes m.to m.name.now d _ (directory_node s.tree.nodes m.to d at) (sym (c.step_to.ensures.step s stands) ∙ c.in-Err.is) in
    subst (λ (chain : Maybe Done). IfOk c.put_in.result (IsSettled s chain c.put_in.new.meta c.put_in.new.touched)) (sym (ap (move_onto s c.args.place (move_of m node)) none)) (c.put_in.ensures.done s node stands found)
