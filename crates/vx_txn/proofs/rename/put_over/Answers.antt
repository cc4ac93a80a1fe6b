use Rattle.std.proofs.Common.{◌≡◌, ℕ, Some, Ok, sym, ◌∙◌, ap}
use Rattle.std.specs.FinMap as map
use Rattle.vx_model.specs.Outcome.{Maybe, ◌>>=◌}
use Rattle.vx_model.specs.State.{State}
use Rattle.vx_model.specs.Edits.{add_name, remove_name}
use Rattle.vx_model.specs.Removing.{fine}
use Rattle.vx_txn.specs.Directories.{DirectoryValue}
use Rattle.vx_txn.specs.Metas.{IsUnchanged, directory_of}
use Rattle.vx_txn.specs.Removals.{unnamed}
use Rattle.vx_txn.specs.Renames.{move_of, put_over}
use Rattle.vx_txn.proofs.Lookups.{begun, stands_of, sound_of, done, edited_to, refusal_settled, used_node, node_used, step_of, directory_here, removed_other, added_other, new_of}
use Rattle.vx_txn.proofs.Changes.{unchanged_stands}
use Rattle.vx_txn.proofs.MakingLaws.{short_refusal, on_err}
use Rattle.vx_txn.proofs.Renaming.{removed_directory, removed_name, added_unnamed, back_twice, found_there, Keeps, keeps_named, keeps_own, keeps_removed, keeps_same, names_back}
use Rattle.vx_txn.proofs.CallLaws.{reply_fits}
use Rattle.vx_txn.proofs.rename.put_over.Goals as goal

pub copy_at-requires : goal.copy_at-requires
copy_at-requires c = found_there c.args.meta.now c.requires.sound.state c.requires.sound.stands c.args.m.now.from.at c.args.m.now.from.name.now c.args.m.now.from.ino (c.requires.entry c.requires.sound.state c.requires.sound.stands)

pub copy_at-requires-2 : goal.copy_at-requires-2
copy_at-requires-2 c = found_there c.args.meta.now c.requires.sound.state c.requires.sound.stands c.args.m.now.to c.args.m.now.name.now c.args.target (c.requires.target c.requires.sound.state c.requires.sound.stands)

pub remove_name-requires-clause-directory : goal.remove_name-requires-clause-directory
remove_name-requires-clause-directory c = found_there c.args.meta.now c.requires.sound.state c.requires.sound.stands c.args.m.now.from.at c.args.m.now.from.name.now c.args.m.now.from.ino (c.requires.entry c.requires.sound.state c.requires.sound.stands)

pub remove_name-requires-2-clause-directory : goal.remove_name-requires-2-clause-directory
remove_name-requires-2-clause-directory c =
    let s = c.requires.sound.state in
    let stands = c.requires.sound.stands in
    let m = c.args.m.now in
    let to = step_of s.tree.nodes m.to m.name.now c.args.target (c.requires.target s stands) in
    let d = removed_directory s m.from.at m.from.name.now m.to to.directory to.found in
    let gone = c.remove_name.ensures.removed s s (begun s c.args.meta.now c.args.touched.now stands c.requires.empty) in
    directory_here _ (remove_name s m.from.at m.from.name.now) (stands_of _ _ _ _ gone) m.to d.0 d.1

pub add_name-requires-clause-sound : goal.add_name-requires-clause-sound
add_name-requires-clause-sound c =
    let s = c.requires.sound.state in
    let stands = c.requires.sound.stands in
    let m = c.args.m.now in
    sound_of _ _ (stands_of _ _ _ _ (c.remove_name-2.ensures.removed s (remove_name s m.from.at m.from.name.now) (c.remove_name.ensures.removed s s (begun s c.args.meta.now c.args.touched.now stands c.requires.empty))))

pub add_name-requires-clause-new : goal.add_name-requires-clause-new
add_name-requires-clause-new c =
    let s = c.requires.sound.state in
    let stands = c.requires.sound.stands in
    let m = c.args.m.now in
    let to = step_of s.tree.nodes m.to m.name.now c.args.target (c.requires.target s stands) in
    let removed = remove_name s m.from.at m.from.name.now in
    let d = removed_directory s m.from.at m.from.name.now m.to to.directory to.found in
    new_of _ (remove_name removed m.to m.name.now) (stands_of _ _ _ _ (c.remove_name-2.ensures.removed s (remove_name s m.from.at m.from.name.now) (c.remove_name.ensures.removed s s (begun s c.args.meta.now c.args.touched.now stands c.requires.empty)))) m.to m.name.now (removed_name removed m.to m.name.now d.0 d.1)

pub drop_name-requires-clause-sound : goal.drop_name-requires-clause-sound
drop_name-requires-clause-sound c =
    let s = c.requires.sound.state in
    let stands = c.requires.sound.stands in
    let m = c.args.m.now in
    let removed = remove_name (remove_name s m.from.at m.from.name.now) m.to m.name.now in
    let e = edited_to s (add_name removed m.to m.name.now m.from.ino) _ _ (c.in-Ok.ensures.added s removed
    (c.remove_name-2.ensures.removed s (remove_name s m.from.at m.from.name.now) (c.remove_name.ensures.removed s s (begun s c.args.meta.now c.args.touched.now stands c.requires.empty)))) in
    sound_of _ _ (stands_of _ _ _ _ e.gone)

pub drop_name-requires-clause-used : goal.drop_name-requires-clause-used
drop_name-requires-clause-used c =
    let s = c.requires.sound.state in
    let stands = c.requires.sound.stands in
    let m = c.args.m.now in
    let removed = remove_name (remove_name s m.from.at m.from.name.now) m.to m.name.now in
    let e = edited_to s (add_name removed m.to m.name.now m.from.ino) _ _ (c.in-Ok.ensures.added s removed
    (c.remove_name-2.ensures.removed s (remove_name s m.from.at m.from.name.now) (c.remove_name.ensures.removed s s (begun s c.args.meta.now c.args.touched.now stands c.requires.empty)))) in
    let old = used_node c.args.meta.now s stands c.args.target c.requires.target_used in
    node_used _ e.new (stands_of _ _ _ _ e.gone) c.args.target old.0
    (added_other removed m.to c.args.target m.name.now m.from.ino e.new c.requires.not_to e.is
    ∙ removed_other (remove_name s m.from.at m.from.name.now) m.to m.name.now c.args.target c.requires.not_to
    ∙ removed_other s m.from.at m.from.name.now c.args.target c.requires.not_from ∙ old.1)

pub returns-in-Ok-clause-done : goal.returns-in-Ok-clause-done
returns-in-Ok-clause-done c = λ s node old stands found there.
    let m = c.args.m.now in
    let removed = remove_name (remove_name s m.from.at m.from.name.now) m.to m.name.now in
    let to = step_of s.tree.nodes m.to m.name.now c.args.target (c.requires.target s stands) in
    let e = edited_to s (add_name removed m.to m.name.now m.from.ino) _ _ (c.in-Ok.ensures.added s removed
    (c.remove_name-2.ensures.removed s (remove_name s m.from.at m.from.name.now) (c.remove_name.ensures.removed s s (begun s c.args.meta.now c.args.touched.now stands c.requires.empty)))) in
    let still_there : map.get e.new.tree.nodes c.args.target ≡ Some old =
    added_other removed m.to c.args.target m.name.now m.from.ino e.new c.requires.not_to e.is
    ∙ removed_other (remove_name s m.from.at m.from.name.now) m.to m.name.now c.args.target c.requires.not_to
    ∙ removed_other s m.from.at m.from.name.now c.args.target c.requires.not_from ∙ there in
    let swapped = added_unnamed s m.from.at m.from.name.now m.to m.name.now m.from.ino c.args.place c.args.target old to.directory stands.laid_out (λ same. c.requires.not_to (sym same)) to.found to.entry in
    done s (unnamed e.new c.args.place c.args.target old) (put_over s c.args.place (move_of m node) c.args.target old) _ _
    (ap (λ (x : Maybe State). x >>= (λ moved. Ok (fine moved))) (swapped ∙ ap (λ (x : Maybe State). x >>= (λ more. Ok (unnamed more c.args.place c.args.target old))) e.is))
    (c.drop_name.ensures.unnamed s e.new old e.gone still_there)

unchanged : (c : goal.After-refused) → IsUnchanged c.args.meta.now c.put_back-in-Err.new.meta
unchanged c =
    let s = c.requires.sound.state in
    let stands = c.requires.sound.stands in
    let meta = c.args.meta.now in
    let m = c.args.m.now in
    let from = found_there meta s stands m.from.at m.from.name.now m.from.ino (c.requires.entry s stands) in
    let to = found_there meta s stands m.to m.name.now c.args.target (c.requires.target s stands) in
    let removed : (n : ℕ) (d : DirectoryValue) → directory_of meta n ≡ Some d → Keeps c.add_name.new.meta n d = λ n d was.
    keeps_same c.remove_name-2.new.meta c.add_name.new.meta n d c.in-Err.ensures.unchanged
    (keeps_removed c.remove_name.new.meta c.remove_name-2.new.meta m.to m.name.now n d c.remove_name-2.ensures.here c.remove_name-2.ensures.others
    (keeps_removed meta c.remove_name.new.meta m.from.at m.from.name.now n d c.remove_name.ensures.here c.remove_name.ensures.others (keeps_own meta n d was))) in
    back_twice meta c.remove_name.new.meta c.remove_name-2.new.meta c.add_name.new.meta c.put_back.new.meta c.put_back-in-Err.new.meta m.from.at m.to
    (record { inodes = c.remove_name.ensures.inodes; others = c.remove_name.ensures.others; free = c.remove_name.ensures.free; first = c.remove_name.ensures.first })
    (record { inodes = c.remove_name-2.ensures.inodes; others = c.remove_name-2.ensures.others; free = c.remove_name-2.ensures.free; first = c.remove_name-2.ensures.first })
    c.in-Err.ensures.unchanged
    (record { inodes = c.put_back.ensures.inodes; others = c.put_back.ensures.others; free = c.put_back.ensures.free; first = c.put_back.ensures.first })
    (record { inodes = c.put_back-in-Err.ensures.inodes; others = c.put_back-in-Err.ensures.others; free = c.put_back-in-Err.ensures.free; first = c.put_back-in-Err.ensures.first })
    (names_back meta c.put_back.new.meta c.put_back-in-Err.new.meta m.from.at from.0 c.in_ok-before_from.before_from from.1 c.in_ok-before_from.ensures
    (keeps_named c.add_name.new.meta c.put_back.new.meta m.to c.in_ok-before_to.before_to m.from.at from.0 c.put_back.ensures.here c.put_back.ensures.others (removed m.from.at from.0 from.1))
    c.put_back-in-Err.ensures.here)
    (λ ne. names_back meta c.add_name.new.meta c.put_back.new.meta m.to to.0 c.in_ok-before_to.before_to to.1 c.in_ok-before_to.ensures (removed m.to to.0 to.1) c.put_back.ensures.here)

pub returns-in-Err-clause-done : goal.returns-in-Err-clause-done
returns-in-Err-clause-done c = λ s node old stands found there.
    let m = c.args.m.now in
    let removed = remove_name (remove_name s m.from.at m.from.name.now) m.to m.name.now in
    let to = step_of s.tree.nodes m.to m.name.now c.args.target (c.requires.target s stands) in
    let gone = c.remove_name-2.ensures.removed s (remove_name s m.from.at m.from.name.now) (c.remove_name.ensures.removed s s (begun s c.args.meta.now c.args.touched.now stands c.requires.empty)) in
    let swapped = added_unnamed s m.from.at m.from.name.now m.to m.name.now m.from.ino c.args.place c.args.target old to.directory stands.laid_out (λ same. c.requires.not_to (sym same)) to.found to.entry in
    refusal_settled s (put_over s c.args.place (move_of m node) c.args.target old) _ _ (add_name removed m.to m.name.now m.from.ino) c.in-Err.refusal c.refused.result
    (unchanged_stands c.args.meta.now _ s (unchanged c) stands) c.clear.ensures
    (λ why is. ap (λ (x : Maybe State). x >>= (λ moved. Ok (fine moved))) (swapped ∙ ap (λ (x : Maybe State). x >>= (λ more. Ok (unnamed more c.args.place c.args.target old))) is))
    (c.in-Err.ensures.refused removed (stands_of _ _ _ _ gone)) c.refused.ensures

pub returns-in-Err-clause-short : goal.returns-in-Err-clause-short
returns-in-Err-clause-short c =
    let s = c.requires.sound.state in
    let gone = c.remove_name-2.ensures.removed s _ (c.remove_name.ensures.removed s s (begun s c.args.meta.now c.args.touched.now c.requires.sound.stands c.requires.empty)) in
    short_refusal c.in-Err.refusal c.refused.result _ c.refused.ensures (c.in-Err.ensures.refused _ (stands_of _ _ _ _ gone))

pub returns-in-Err-clause-unchanged : goal.returns-in-Err-clause-unchanged
returns-in-Err-clause-unchanged c = on_err c.refused.result (unchanged c)

pub returns-in-Err-clause-fits : goal.returns-in-Err-clause-fits
returns-in-Err-clause-fits c = reply_fits c.clear.new.self c.refused.result c.clear.ensures
