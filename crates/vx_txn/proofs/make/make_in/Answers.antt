use Rattle.std.proofs.Common.{◌≡◌, ◌≢◌, ℕ, ◌*◌, ◌<◌, Some, refl, sym, ◌∙◌, ap, subst}
use Rattle.std.proofs.lemmas.Option.{none-some}
use Rattle.vx_inode.specs.Tables.{Table, is_used}
use Rattle.vx_model.specs.Edits.{set_node}
use Rattle.vx_model.specs.Touching.{Touched}
use Rattle.vx_txn.specs.Calls.{HasGone}
use Rattle.vx_txn.specs.Directories.{IsNewIn}
use Rattle.vx_txn.specs.Edits.{new_node}
use Rattle.vx_txn.specs.Metas.{directory_of}
use Rattle.vx_txn.proofs.CallLaws.{stays, reply_fits}
use Rattle.vx_txn.proofs.Changes.{stands_of}
use Rattle.vx_txn.proofs.MakingLaws.{made_settled, refusal_settled, full_settled, short_refusal, short_full, on_err, back_unchanged}
use Rattle.vx_txn.proofs.NameEdits.{new_directory}
use Rattle.vx_txn.proofs.NodeEdits.{no_directory, used_after}
use Rattle.vx_txn.proofs.StateLaws.{directory_here, directory_node, found}
use Rattle.vx_txn.proofs.make.make_in.Goals as goal

pub add_name-requires-clause-sound : goal.add_name-requires-clause-sound
add_name-requires-clause-sound c =
    let s = c.requires.sound.state in
    let m = c.args.meta.now in
    let start : HasGone s s m c.args.touched.now = subst (λ (t : Touched). HasGone s s m t) (sym c.requires.empty) (stays m s c.requires.sound.stands) in
    let gone = c.in-Ok.ensures.made s s start in
    record { state = set_node s c.in-Ok.ino (new_node c.args.making.kind c.args.making.mode); stands = stands_of s (set_node s c.in-Ok.ino (new_node c.args.making.kind c.args.making.mode)) c.make_node.new.meta c.make_node.new.touched gone }

pub take_back-requires : goal.take_back-requires
take_back-requires c =
    ap (λ (t : Table). is_used t c.in-Ok.ino) c.in-Err-add_name.ensures.unchanged.inodes ∙ used_after c.args.meta.now.inodes c.make_node.new.meta.inodes c.in-Ok.ino c.in-Ok.ensures.change.inode c.in-Ok.ensures.change.inodes

pub returns-in-Ok-add_name-clause-done : goal.returns-in-Ok-add_name-clause-done
returns-in-Ok-add_name-clause-done c = λ s is.
    let m = c.args.meta.now in
    let node = new_node c.args.making.kind c.args.making.mode in
    let p = new_directory c.args.name.now _ c.requires.new in
    let h = directory_here m s is c.args.at p.0 p.1 in
    let start : HasGone s s m c.args.touched.now = subst (λ (t : Touched). HasGone s s m t) (sym c.requires.empty) (stays m s is) in
    let gone = c.in-Ok.ensures.made s s start in
    let low : c.in-Ok.ino < 128 * s.layout.units = subst (λ (u : ℕ). c.in-Ok.ino < 128 * u) (sym is.is.units) c.in-Ok.ensures.place.1 in
    let apart : c.args.at ≢ c.in-Ok.ino = λ e. none-some p.0 (sym (no_directory m s is.is c.in-Ok.ino c.in-Ok.ensures.change.unused) ∙ subst (λ (n : ℕ). directory_of m n ≡ Some p.0) e p.1) in
    made_settled s c.args.at c.args.name.now node h.tree (directory_node m s is c.args.at p.0 p.1) (found m s is c.args.at p.0 c.args.name.now p.1 ∙ subst (IsNewIn c.args.name.now) p.1 c.requires.new)
    c.in-Ok.ino apart h.node_there (c.in-Ok.ensures.lowest s is) low _ c.add_name.new.meta c.add_name.new.touched refl (c.in-Ok-add_name.ensures.added s (set_node s c.in-Ok.ino node) gone)

pub returns-in-Err-add_name-clause-done : goal.returns-in-Err-add_name-clause-done
returns-in-Err-add_name-clause-done c = λ s is.
    let m = c.args.meta.now in
    let node = new_node c.args.making.kind c.args.making.mode in
    let p = new_directory c.args.name.now _ c.requires.new in
    let h = directory_here m s is c.args.at p.0 p.1 in
    let start : HasGone s s m c.args.touched.now = subst (λ (t : Touched). HasGone s s m t) (sym c.requires.empty) (stays m s is) in
    let gone = c.in-Ok.ensures.made s s start in
    let low : c.in-Ok.ino < 128 * s.layout.units = subst (λ (u : ℕ). c.in-Ok.ino < 128 * u) (sym is.is.units) c.in-Ok.ensures.place.1 in
    let apart : c.args.at ≢ c.in-Ok.ino = λ e. none-some p.0 (sym (no_directory m s is.is c.in-Ok.ino c.in-Ok.ensures.change.unused) ∙ subst (λ (n : ℕ). directory_of m n ≡ Some p.0) e p.1) in
    let same = back_unchanged m c.make_node.new.meta c.add_name.new.meta c.take_back.new.meta c.in-Ok.ino c.requires.sound c.in-Ok.ensures.change c.in-Err-add_name.ensures.unchanged
    c.take_back.ensures.inodes c.take_back.ensures.here c.take_back.ensures.others c.take_back.ensures.free c.take_back.ensures.first in
    refusal_settled s c.args.at c.args.name.now node h.tree (directory_node m s is c.args.at p.0 p.1) (found m s is c.args.at p.0 c.args.name.now p.1 ∙ subst (IsNewIn c.args.name.now) p.1 c.requires.new)
    c.in-Ok.ino apart h.node_there (c.in-Ok.ensures.lowest s is) low c.in-Err-add_name.refusal c.refused.result m c.take_back.new.meta c.clear.new.self c.refused.ensures
    (c.in-Err-add_name.ensures.refused (set_node s c.in-Ok.ino node) (stands_of s (set_node s c.in-Ok.ino node) c.make_node.new.meta c.make_node.new.touched gone)) is same c.clear.ensures

pub returns-in-Err-add_name-clause-short : goal.returns-in-Err-add_name-clause-short
returns-in-Err-add_name-clause-short c =
    let s = c.requires.sound.state in
    let m = c.args.meta.now in
    let node = new_node c.args.making.kind c.args.making.mode in
    let start : HasGone s s m c.args.touched.now = subst (λ (t : Touched). HasGone s s m t) (sym c.requires.empty) (stays m s c.requires.sound.stands) in
    let gone = c.in-Ok.ensures.made s s start in
    short_refusal c.in-Err-add_name.refusal c.refused.result _ c.refused.ensures
    (c.in-Err-add_name.ensures.refused (set_node s c.in-Ok.ino node) (stands_of s (set_node s c.in-Ok.ino node) c.make_node.new.meta c.make_node.new.touched gone))

pub returns-in-Err-add_name-clause-unchanged : goal.returns-in-Err-add_name-clause-unchanged
returns-in-Err-add_name-clause-unchanged c =
    on_err c.refused.result
    (back_unchanged c.args.meta.now c.make_node.new.meta c.add_name.new.meta c.take_back.new.meta c.in-Ok.ino c.requires.sound c.in-Ok.ensures.change c.in-Err-add_name.ensures.unchanged
    c.take_back.ensures.inodes c.take_back.ensures.here c.take_back.ensures.others c.take_back.ensures.free c.take_back.ensures.first)

pub returns-in-Err-clause-done : goal.returns-in-Err-clause-done
returns-in-Err-clause-done c = λ s is.
    let m = c.args.meta.now in
    let p = new_directory c.args.name.now _ c.requires.new in
    let h = directory_here m s is c.args.at p.0 p.1 in
    full_settled s c.args.at c.args.name.now (new_node c.args.making.kind c.args.making.mode) h.tree (directory_node m s is c.args.at p.0 p.1)
    (found m s is c.args.at p.0 c.args.name.now p.1 ∙ subst (IsNewIn c.args.name.now) p.1 c.requires.new)
    c.in-Err.why c.full.result m c.make_node.new.meta c.make_node.new.touched c.full.ensures (c.in-Err.ensures.full s is) is c.in-Err.ensures.unchanged (c.in-Err.ensures.untouched ∙ c.requires.empty)

pub returns-in-Err-clause-short : goal.returns-in-Err-clause-short
returns-in-Err-clause-short c = short_full c.in-Err.why c.full.result c.full.ensures

pub returns-in-Err-clause-unchanged : goal.returns-in-Err-clause-unchanged
returns-in-Err-clause-unchanged c = on_err c.full.result c.in-Err.ensures.unchanged

pub returns-in-Err-add_name-clause-fits : goal.returns-in-Err-add_name-clause-fits
returns-in-Err-add_name-clause-fits c = reply_fits c.clear.new.self c.refused.result c.clear.ensures

pub returns-in-Err-clause-fits : goal.returns-in-Err-clause-fits
returns-in-Err-clause-fits c = reply_fits c.make_node.new.touched c.full.result (c.in-Err.ensures.untouched ∙ c.requires.empty)
