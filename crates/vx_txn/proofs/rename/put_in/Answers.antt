use Rattle.std.proofs.Common.{◌<◌, ◌*◌, Ok, sym, ap, subst}
use Rattle.vx_inode.specs.Tables.{Table}
use Rattle.vx_model.specs.Outcome.{Maybe, ◌>>=◌}
use Rattle.vx_model.specs.State.{State}
use Rattle.vx_model.specs.Edits.{add_name, remove_name}
use Rattle.vx_model.specs.Moving.{enter}
use Rattle.vx_model.specs.Removing.{fine}
use Rattle.vx_txn.specs.Renames.{move_of}
use Rattle.vx_txn.specs.Metas.{IsUnchanged}
use Rattle.vx_txn.proofs.Lookups.{begun, stands_of, sound_of, done, edited_to, refusal_settled, used_node, node_high, without_of, new_of}
use Rattle.vx_txn.proofs.Changes.{unchanged_stands}
use Rattle.vx_txn.proofs.MakingLaws.{short_refusal, on_err}
use Rattle.vx_txn.proofs.Renaming.{removed_without, back_once, found_there, keeps_own, keeps_removed, keeps_same, names_back}
use Rattle.vx_txn.proofs.CallLaws.{reply_fits}
use Rattle.vx_txn.proofs.rename.put_in.Goals as goal

pub add_name-requires-clause-sound : goal.add_name-requires-clause-sound
add_name-requires-clause-sound c =
    let s = c.requires.sound.state in
    sound_of _ _ (stands_of _ _ _ _ (c.remove_name.ensures.removed s s (begun s c.args.meta.now c.args.touched.now c.requires.sound.stands c.requires.empty)))

pub add_name-requires-clause-new : goal.add_name-requires-clause-new
add_name-requires-clause-new c =
    let s = c.requires.sound.state in
    let stands = c.requires.sound.stands in
    let m = c.args.m.now in
    let gone = c.remove_name.ensures.removed s s (begun s c.args.meta.now c.args.touched.now stands c.requires.empty) in
    new_of _ (remove_name s m.from.at m.from.name.now) (stands_of _ _ _ _ gone) m.to m.name.now
    (removed_without s m.from.at m.from.name.now m.to m.name.now (without_of c.args.meta.now s stands m.to m.name.now c.requires.free))

pub add_name-requires-clause-inode : goal.add_name-requires-clause-inode
add_name-requires-clause-inode c =
    let s = c.requires.sound.state in
    let stands = c.requires.sound.stands in
    let node = used_node c.args.meta.now s stands c.args.m.now.from.ino c.requires.used in
    subst (λ (t : Table). c.args.m.now.from.ino < 128 * t.units) (sym c.remove_name.ensures.inodes) (node_high c.args.meta.now s stands c.args.m.now.from.ino node.0 node.1)

pub copy_at-requires : goal.copy_at-requires
copy_at-requires c = found_there c.args.meta.now c.requires.sound.state c.requires.sound.stands c.args.m.now.from.at c.args.m.now.from.name.now c.args.m.now.from.ino (c.requires.entry c.requires.sound.state c.requires.sound.stands)

pub remove_name-requires-clause-directory : goal.remove_name-requires-clause-directory
remove_name-requires-clause-directory c = found_there c.args.meta.now c.requires.sound.state c.requires.sound.stands c.args.m.now.from.at c.args.m.now.from.name.now c.args.m.now.from.ino (c.requires.entry c.requires.sound.state c.requires.sound.stands)

pub returns-in-Ok-clause-done : goal.returns-in-Ok-clause-done
returns-in-Ok-clause-done c = λ s node stands found.
    let m = c.args.m.now in
    let removed = remove_name s m.from.at m.from.name.now in
    let e = edited_to s (add_name removed m.to m.name.now m.from.ino) _ _ (c.in-Ok.ensures.added s removed (c.remove_name.ensures.removed s s (begun s c.args.meta.now c.args.touched.now stands c.requires.empty))) in
    done s e.new (enter removed (move_of m node)) _ _ (ap (λ (x : Maybe State). x >>= (λ moved. Ok (fine moved))) e.is) e.gone

unchanged : (c : goal.After-refused) → IsUnchanged c.args.meta.now c.put_back.new.meta
unchanged c =
    let at = c.args.m.now.from.at in
    let p = found_there c.args.meta.now c.requires.sound.state c.requires.sound.stands at c.args.m.now.from.name.now c.args.m.now.from.ino (c.requires.entry c.requires.sound.state c.requires.sound.stands) in
    back_once c.args.meta.now c.remove_name.new.meta c.add_name.new.meta c.put_back.new.meta at
    (record { inodes = c.remove_name.ensures.inodes; others = c.remove_name.ensures.others; free = c.remove_name.ensures.free; first = c.remove_name.ensures.first })
    c.in-Err.ensures.unchanged
    (record { inodes = c.put_back.ensures.inodes; others = c.put_back.ensures.others; free = c.put_back.ensures.free; first = c.put_back.ensures.first })
    (names_back c.args.meta.now c.add_name.new.meta c.put_back.new.meta at p.0 c.in_ok-before.before p.1 c.in_ok-before.ensures
    (keeps_same c.remove_name.new.meta c.add_name.new.meta at p.0 c.in-Err.ensures.unchanged
    (keeps_removed c.args.meta.now c.remove_name.new.meta at c.args.m.now.from.name.now at p.0 c.remove_name.ensures.here c.remove_name.ensures.others (keeps_own c.args.meta.now at p.0 p.1)))
    c.put_back.ensures.here)

pub returns-in-Err-clause-done : goal.returns-in-Err-clause-done
returns-in-Err-clause-done c = λ s node stands found.
    let m = c.args.m.now in
    let removed = remove_name s m.from.at m.from.name.now in
    let gone = c.remove_name.ensures.removed s s (begun s c.args.meta.now c.args.touched.now stands c.requires.empty) in
    refusal_settled s (enter removed (move_of m node)) _ _ (add_name removed m.to m.name.now m.from.ino) c.in-Err.refusal c.refused.result
    (unchanged_stands c.args.meta.now _ s (unchanged c) stands) c.clear.ensures
    (λ why is. ap (λ (x : Maybe State). x >>= (λ moved. Ok (fine moved))) is)
    (c.in-Err.ensures.refused removed (stands_of _ _ _ _ gone)) c.refused.ensures

pub returns-in-Err-clause-short : goal.returns-in-Err-clause-short
returns-in-Err-clause-short c =
    let s = c.requires.sound.state in
    let gone = c.remove_name.ensures.removed s s (begun s c.args.meta.now c.args.touched.now c.requires.sound.stands c.requires.empty) in
    short_refusal c.in-Err.refusal c.refused.result _ c.refused.ensures (c.in-Err.ensures.refused _ (stands_of _ _ _ _ gone))

pub returns-in-Err-clause-unchanged : goal.returns-in-Err-clause-unchanged
returns-in-Err-clause-unchanged c = on_err c.refused.result (unchanged c)

pub returns-in-Err-clause-fits : goal.returns-in-Err-clause-fits
returns-in-Err-clause-fits c = reply_fits c.clear.new.self c.refused.result c.clear.ensures
