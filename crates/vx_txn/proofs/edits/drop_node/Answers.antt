use Rattle.std.proofs.Common.{◌≡◌, ℕ, List, [], ◌∷◌, ◌++◌, length, Option, refl, sym, ◌∙◌, ap, subst, arith, length-append}
use Rattle.std.proofs.lemmas.List.{with_items_is, length-map}
use Rattle.std.specs.Option.{option_copied}
use Rattle.vx_filemaps.specs.Settles.{CanWait, pended}
use Rattle.vx_model.specs.Touching.{Touched}
use Rattle.vx_txn.specs.Directories.{DirectoryValue, directory_at}
use Rattle.vx_txn.specs.Edits.{AreBlocks, all_blocks, blocks_past, units_from}
use Rattle.vx_txn.specs.Metas.{directory_of}
use Rattle.vx_txn.proofs.Changes.{stands_of}
use Rattle.vx_txn.proofs.DropEdit.{all_few, all_paged, all_past, all_wait, dropped_gone}
use Rattle.vx_txn.proofs.NodeEdits.{used_low}
use Rattle.vx_txn.proofs.SlotLaws.{Slots}
use Rattle.vx_txn.proofs.edits.drop_node.Goals as goal

pub pend_blocks-requires-clause-used : goal.pend_blocks-requires-clause-used
pend_blocks-requires-clause-used c =
    let m = c.args.meta.now in
    let s = c.requires.sound.state in
    let is = c.requires.sound.stands in
    let dir : option_copied c.directory_at-directory.result ≡ directory_of m c.args.ino = c.directory_at-directory.ensures ∙ ap (λ (x : Slots). directory_at x c.args.ino) c.as_slice.ensures.value in
    subst (λ (o : Option DirectoryValue). CanWait c.args.place (all_blocks o) m.free) (sym dir) (all_wait m s is c.args.ino c.give_laws.ensures (used_low m s is c.args.ino c.requires.used) c.args.place)

pub pend_blocks-requires-clause-paged : goal.pend_blocks-requires-clause-paged
pend_blocks-requires-clause-paged c =
    let m = c.args.meta.now in
    let dir : option_copied c.directory_at-directory.result ≡ directory_of m c.args.ino = c.directory_at-directory.ensures ∙ ap (λ (x : Slots). directory_at x c.args.ino) c.as_slice.ensures.value in
    subst AreBlocks (sym dir) (all_paged m c.requires.sound.state c.requires.sound.stands c.args.ino)

pub touch_units-requires-clause-few : goal.touch_units-requires-clause-few
touch_units-requires-clause-few c =
    let m = c.args.meta.now in
    let dir : option_copied c.directory_at-directory.result ≡ directory_of m c.args.ino = c.directory_at-directory.ensures ∙ ap (λ (x : Slots). directory_at x c.args.ino) c.as_slice.ensures.value in
    let few = all_few m c.requires.sound.state c.requires.sound.stands c.args.ino in
    let same : length (blocks_past 0 0 (option_copied c.directory_at-directory.result)) ≡ length (all_blocks (directory_of m c.args.ino)) = ap (λ (o : Option DirectoryValue). length (blocks_past 0 0 o)) dir ∙ ap length (all_past (directory_of m c.args.ino)) in
    let room = c.requires.room in
    omega arith

pub returns-clause-dropped : goal.returns-clause-dropped
returns-clause-dropped c = λ base s gone.
    let m = c.args.meta.now in
    let dir : option_copied c.directory_at-directory.result ≡ directory_of m c.args.ino = c.directory_at-directory.ensures ∙ ap (λ (x : Slots). directory_at x c.args.ino) c.as_slice.ensures.value in
    let items = with_items_is m.directories c.clear.new.slots (c.clear.auto.slots ∙ c.as_mut_slice.ensures.len) in
    let blocks : blocks_past 0 0 (option_copied c.directory_at-directory.result) ≡ all_blocks (directory_of m c.args.ino) = ap (blocks_past 0 0) dir ∙ all_past (directory_of m c.args.ino) in
    dropped_gone c.edit_laws.ensures c.plain_states.ensures.closed c.give_laws.ensures base s m _ c.args.touched.now c.add_inode.new.self gone c.args.ino c.args.place (used_low m s (stands_of base s m c.args.touched.now gone) c.args.ino c.requires.used) c.requires.other
    c.drop_inode.ensures
    (ap (λ (x : Slots). directory_at x c.args.ino) items ∙ c.clear.ensures.here)
    (λ n ne. ap (λ (x : Slots). directory_at x n) items ∙ c.clear.ensures.others n ne ∙ ap (λ (x : Slots). directory_at x n) c.as_mut_slice.ensures.value)
    (c.pend_blocks.ensures ∙ ap (λ (o : Option DirectoryValue). pended c.args.place (all_blocks o) m.free) dir) refl
    (c.add_inode.ensures ∙ ap (λ (x : Touched). record x { inodes = x.inodes ++ c.args.ino ∷ [] }) c.touch_units.ensures
    ∙ ap (λ (xs : List ℕ). record c.args.touched.now { inodes = c.args.touched.now.inodes ++ c.args.ino ∷ []; units = c.args.touched.now.units ++ units_from m.first xs }) blocks)

pub returns-clause-units : goal.returns-clause-units
returns-clause-units c =
    let m = c.args.meta.now in
    let dir : option_copied c.directory_at-directory.result ≡ directory_of m c.args.ino = c.directory_at-directory.ensures ∙ ap (λ (x : Slots). directory_at x c.args.ino) c.as_slice.ensures.value in
    let few = all_few m c.requires.sound.state c.requires.sound.stands c.args.ino in
    let xs = blocks_past 0 0 (option_copied c.directory_at-directory.result) in
    let same : length xs ≡ length (all_blocks (directory_of m c.args.ino)) = ap (λ (o : Option DirectoryValue). length (blocks_past 0 0 o)) dir ∙ ap length (all_past (directory_of m c.args.ino)) in
    let count : length c.add_inode.new.self.units ≡ length (c.args.touched.now.units ++ units_from m.first xs) = ap (λ (t : Touched). length t.units) c.add_inode.ensures ∙ ap (λ (t : Touched). length t.units) c.touch_units.ensures in
    let both = length-append c.args.touched.now.units (units_from m.first xs) in
    let mapped : length (units_from m.first xs) ≡ length xs = length-map xs _ in
    omega arith
