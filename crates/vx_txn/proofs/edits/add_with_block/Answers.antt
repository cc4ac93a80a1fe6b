use Rattle.std.proofs.Common.{◌≡◌, ℕ, ◌+◌, ◌*◌, ◌≤◌, [], ◌∷◌, ◌++◌, length, Option, Some, Ok, refl, sym, ◌∙◌, ap, subst, arith, length-append}
use Rattle.std.proofs.lemmas.List.{with_items_is, length-map}
use Rattle.std.specs.Option.{option_copied}
use Rattle.vx_base.specs.declared.inode.DirEntry.{DirEntry}
use Rattle.vx_model.specs.Edits.{add_name}
use Rattle.vx_inode.specs.Tables.{with_change}
use Rattle.vx_model.specs.Touching.{Touched, untouched}
use Rattle.vx_txn.specs.Directories.{DirectoryValue, IsNewIn, block_count, directory_at, maps_in}
use Rattle.vx_txn.specs.Edits.{AreBlocks, HasAnswer, IsRefused, blocks_past, units_from}
use Rattle.vx_txn.proofs.CallLaws.{stays}
use Rattle.vx_txn.proofs.Growing.{RequestLaws, refused_as, grown_at, grown_few, grown_gone, index_is, is_ready, new_shape}
use Rattle.vx_txn.proofs.NameEdits.{new_directory}
use Rattle.vx_txn.proofs.SlotLaws.{Slots}
use Rattle.vx_txn.proofs.edits.add_with_block.Goals as goal

pub add_block-requires-clause-ready : goal.add_block-requires-clause-ready
add_block-requires-clause-ready c = is_ready c.args.meta.now c.requires.sound.state c.requires.sound.stands.is

pub touch_units-requires-clause-few : goal.touch_units-requires-clause-few
touch_units-requires-clause-few c =
    let m = c.args.meta.now in
    let s = c.requires.sound.state in
    let p = new_directory c.args.name.now _ c.requires.new in
    let d = p.0 in
    let there = p.1 in
    let e : DirEntry = record { ino = c.args.ino; name = c.args.name.now } in
    let start : directory_at c.as_mut_slice.result.now c.args.at ≡ Some d = ap (λ (x : Slots). directory_at x c.args.at) c.as_mut_slice.ensures.value ∙ there in
    let at = grown_at e d (directory_at c.add_block.new.slots c.args.at) m.free c.add_block.new.free (c.in-Ok.ensures.here d start) in
    let items = with_items_is m.directories c.add_block.new.slots (c.add_block.auto.slots ∙ c.as_mut_slice.ensures.len) in
    let dir : option_copied c.directory_at-directory.result ≡ Some at.now = c.directory_at-directory.ensures ∙ ap (λ (x : Slots). directory_at x c.args.at) (c.as_slice-in-Ok.ensures.value ∙ items) ∙ at.is in
    let maps : c.map_count-maps.result ≡ length d.maps.maps = c.map_count-maps.ensures ∙ ap (λ (x : Slots). length (maps_in (directory_at x c.args.at))) c.as_slice.ensures.value ∙ ap (λ (o : Option DirectoryValue). length (maps_in o)) there in
    let fresh = subst (IsNewIn c.args.name.now) there c.requires.new in
    let answer = subst (HasAnswer (Ok c.args.i) c.args.name.now) there c.requires.place in
    let past = subst (λ (o : Option DirectoryValue). block_count o ≤ c.args.i) there c.requires.past in
    let request : RequestLaws = record { request = c.place_laws.ensures.request; count = c.place_laws.ensures.count } in
    let gone = stays m s c.requires.sound.stands in
    let index = index_is c.edit_laws.ensures request c.place_laws-2.ensures s s m m untouched untouched gone c.args.at d there c.args.name.now c.args.ino fresh c.args.i answer past in
    let few = grown_few c.edit_laws.ensures request c.place_laws-2.ensures s s m m untouched untouched gone c.args.at d there c.args.name.now c.args.ino fresh c.args.i answer past at.now c.add_block.new.free at.grown in
    let xs = blocks_past c.args.i c.map_count-maps.result (option_copied c.directory_at-directory.result) in
    let same : length xs ≡ length (blocks_past (length d.names.blocks) (length d.maps.maps) (Some at.now)) = (λ j. length (blocks_past (index j) (maps j) (dir j))) in
    let units : length c.add_maps.new.self.units ≡ length c.args.touched.now.units =
    ap (λ (t : Touched). length t.units) c.add_maps.ensures ∙ ap (λ (t : Touched). length t.units) c.add_block-in-Ok.ensures ∙ ap (λ (t : Touched). length t.units) c.add_inode.ensures in
    let room = c.requires.room in
    omega arith

pub touch_units-requires-clause-paged : goal.touch_units-requires-clause-paged
touch_units-requires-clause-paged c =
    let m = c.args.meta.now in
    let s = c.requires.sound.state in
    let p = new_directory c.args.name.now _ c.requires.new in
    let d = p.0 in
    let there = p.1 in
    let e : DirEntry = record { ino = c.args.ino; name = c.args.name.now } in
    let start : directory_at c.as_mut_slice.result.now c.args.at ≡ Some d = ap (λ (x : Slots). directory_at x c.args.at) c.as_mut_slice.ensures.value ∙ there in
    let at = grown_at e d (directory_at c.add_block.new.slots c.args.at) m.free c.add_block.new.free (c.in-Ok.ensures.here d start) in
    let items = with_items_is m.directories c.add_block.new.slots (c.add_block.auto.slots ∙ c.as_mut_slice.ensures.len) in
    let dir : option_copied c.directory_at-directory.result ≡ Some at.now = c.directory_at-directory.ensures ∙ ap (λ (x : Slots). directory_at x c.args.at) (c.as_slice-in-Ok.ensures.value ∙ items) ∙ at.is in
    let maps : c.map_count-maps.result ≡ length d.maps.maps = c.map_count-maps.ensures ∙ ap (λ (x : Slots). length (maps_in (directory_at x c.args.at))) c.as_slice.ensures.value ∙ ap (λ (o : Option DirectoryValue). length (maps_in o)) there in
    let fresh = subst (IsNewIn c.args.name.now) there c.requires.new in
    let answer = subst (HasAnswer (Ok c.args.i) c.args.name.now) there c.requires.place in
    let past = subst (λ (o : Option DirectoryValue). block_count o ≤ c.args.i) there c.requires.past in
    let request : RequestLaws = record { request = c.place_laws.ensures.request; count = c.place_laws.ensures.count } in
    let gone = stays m s c.requires.sound.stands in
    let shape = new_shape c.edit_laws.ensures request c.place_laws-2.ensures s s m m untouched untouched gone c.args.at d there c.args.name.now c.args.ino fresh c.args.i answer past at.now c.add_block.new.free at.grown in
    subst AreBlocks (sym dir) (record { same_count = shape.same_count; pages = shape.pages })

pub returns-in-Ok-clause-added : goal.returns-in-Ok-clause-added
returns-in-Ok-clause-added c = λ base s gone.
    let m = c.args.meta.now in
    let p = new_directory c.args.name.now _ c.requires.new in
    let d = p.0 in
    let there = p.1 in
    let e : DirEntry = record { ino = c.args.ino; name = c.args.name.now } in
    let start : directory_at c.as_mut_slice.result.now c.args.at ≡ Some d = ap (λ (x : Slots). directory_at x c.args.at) c.as_mut_slice.ensures.value ∙ there in
    let at = grown_at e d (directory_at c.add_block.new.slots c.args.at) m.free c.add_block.new.free (c.in-Ok.ensures.here d start) in
    let items = with_items_is m.directories c.add_block.new.slots (c.add_block.auto.slots ∙ c.as_mut_slice.ensures.len) in
    let dir : option_copied c.directory_at-directory.result ≡ Some at.now = c.directory_at-directory.ensures ∙ ap (λ (x : Slots). directory_at x c.args.at) (c.as_slice-in-Ok.ensures.value ∙ items) ∙ at.is in
    let maps : c.map_count-maps.result ≡ length d.maps.maps = c.map_count-maps.ensures ∙ ap (λ (x : Slots). length (maps_in (directory_at x c.args.at))) c.as_slice.ensures.value ∙ ap (λ (o : Option DirectoryValue). length (maps_in o)) there in
    let fresh = subst (IsNewIn c.args.name.now) there c.requires.new in
    let answer = subst (HasAnswer (Ok c.args.i) c.args.name.now) there c.requires.place in
    let past = subst (λ (o : Option DirectoryValue). block_count o ≤ c.args.i) there c.requires.past in
    let request : RequestLaws = record { request = c.place_laws.ensures.request; count = c.place_laws.ensures.count } in
    let t = c.args.touched.now in
    grown_gone c.edit_laws.ensures request c.place_laws-2.ensures base s m _ t c.touch_units.new.touched gone c.args.at d there c.args.name.now c.args.ino fresh c.args.i answer past at.now c.add_block.new.free at.grown
    c.requires.name c.requires.inode (ap (λ (x : Slots). directory_at x c.args.at) items ∙ at.is)
    (λ n ne. ap (λ (x : Slots). directory_at x n) items ∙ c.add_block.ensures.others n ne ∙ ap (λ (x : Slots). directory_at x n) c.as_mut_slice.ensures.value)
    (c.set_size.ensures ∙ ap (λ (n : ℕ). with_change m.inodes c.args.at (λ x. record x { size = 1024 * (n + 1) })) c.from.ensures) refl refl
    (c.touch_units.ensures
    ∙ (λ j. record {
      inodes = (c.add_maps.ensures j).inodes;
      blocks = (c.add_maps.ensures j).blocks;
      maps = (c.add_maps.ensures j).maps;
      units = (c.add_maps.ensures j).units ++ units_from m.first (blocks_past c.args.i (maps j) (dir j));
    })
    ∙ (λ j. record {
      inodes = (c.add_block-in-Ok.ensures j).inodes;
      blocks = (c.add_block-in-Ok.ensures j).blocks;
      maps = (c.add_block-in-Ok.ensures j).maps ++ c.args.at ∷ [];
      units = (c.add_block-in-Ok.ensures j).units ++ units_from m.first (blocks_past c.args.i (length d.maps.maps) (Some at.now));
    })
    ∙ (λ j. record {
      inodes = (c.add_inode.ensures j).inodes;
      blocks = (c.add_inode.ensures j).blocks ++ record { ino = c.args.at; index = c.args.i } ∷ [];
      maps = (c.add_inode.ensures j).maps ++ c.args.at ∷ [];
      units = (c.add_inode.ensures j).units ++ units_from m.first (blocks_past c.args.i (length d.maps.maps) (Some at.now));
    }))

pub returns-in-Ok-clause-units : goal.returns-in-Ok-clause-units
returns-in-Ok-clause-units c =
    let m = c.args.meta.now in
    let s = c.requires.sound.state in
    let p = new_directory c.args.name.now _ c.requires.new in
    let d = p.0 in
    let there = p.1 in
    let e : DirEntry = record { ino = c.args.ino; name = c.args.name.now } in
    let start : directory_at c.as_mut_slice.result.now c.args.at ≡ Some d = ap (λ (x : Slots). directory_at x c.args.at) c.as_mut_slice.ensures.value ∙ there in
    let at = grown_at e d (directory_at c.add_block.new.slots c.args.at) m.free c.add_block.new.free (c.in-Ok.ensures.here d start) in
    let items = with_items_is m.directories c.add_block.new.slots (c.add_block.auto.slots ∙ c.as_mut_slice.ensures.len) in
    let dir : option_copied c.directory_at-directory.result ≡ Some at.now = c.directory_at-directory.ensures ∙ ap (λ (x : Slots). directory_at x c.args.at) (c.as_slice-in-Ok.ensures.value ∙ items) ∙ at.is in
    let maps : c.map_count-maps.result ≡ length d.maps.maps = c.map_count-maps.ensures ∙ ap (λ (x : Slots). length (maps_in (directory_at x c.args.at))) c.as_slice.ensures.value ∙ ap (λ (o : Option DirectoryValue). length (maps_in o)) there in
    let fresh = subst (IsNewIn c.args.name.now) there c.requires.new in
    let answer = subst (HasAnswer (Ok c.args.i) c.args.name.now) there c.requires.place in
    let past = subst (λ (o : Option DirectoryValue). block_count o ≤ c.args.i) there c.requires.past in
    let request : RequestLaws = record { request = c.place_laws.ensures.request; count = c.place_laws.ensures.count } in
    let gone = stays m s c.requires.sound.stands in
    let index = index_is c.edit_laws.ensures request c.place_laws-2.ensures s s m m untouched untouched gone c.args.at d there c.args.name.now c.args.ino fresh c.args.i answer past in
    let few = grown_few c.edit_laws.ensures request c.place_laws-2.ensures s s m m untouched untouched gone c.args.at d there c.args.name.now c.args.ino fresh c.args.i answer past at.now c.add_block.new.free at.grown in
    let xs = blocks_past c.args.i c.map_count-maps.result (option_copied c.directory_at-directory.result) in
    let same : length xs ≡ length (blocks_past (length d.names.blocks) (length d.maps.maps) (Some at.now)) = (λ j. length (blocks_past (index j) (maps j) (dir j))) in
    let units : length c.add_maps.new.self.units ≡ length c.args.touched.now.units =
    ap (λ (t : Touched). length t.units) c.add_maps.ensures ∙ ap (λ (t : Touched). length t.units) c.add_block-in-Ok.ensures ∙ ap (λ (t : Touched). length t.units) c.add_inode.ensures in
    let room = c.requires.room in
    let count = ap (λ (t : Touched). length t.units) c.touch_units.ensures in
    let both = length-append c.add_maps.new.self.units (units_from m.first xs) in
    let mapped : length (units_from m.first xs) ≡ length xs = length-map xs _ in
    omega arith

pub returns-in-Err-clause-refused : goal.returns-in-Err-clause-refused
returns-in-Err-clause-refused c = λ s is.
    let m = c.args.meta.now in
    let p = new_directory c.args.name.now _ c.requires.new in
    let d = p.0 in
    let there = p.1 in
    let start : directory_at c.as_mut_slice.result.now c.args.at ≡ Some d = ap (λ (x : Slots). directory_at x c.args.at) c.as_mut_slice.ensures.value ∙ there in
    let fresh = subst (IsNewIn c.args.name.now) there c.requires.new in
    let answer = subst (HasAnswer (Ok c.args.i) c.args.name.now) there c.requires.place in
    let past = subst (λ (o : Option DirectoryValue). block_count o ≤ c.args.i) there c.requires.past in
    let request : RequestLaws = record { request = c.place_laws.ensures.request; count = c.place_laws.ensures.count } in
    subst (IsRefused (add_name s c.args.at c.args.name.now c.args.ino)) (sym c.refusal_of.ensures)
    (refused_as c.edit_laws.ensures request c.place_laws-2.ensures s s m m untouched untouched (stays m s is) c.args.at d there c.args.name.now c.args.ino fresh c.args.i answer past c.in-Err.why (c.in-Err.ensures.refused d start))

pub returns-in-Err-clause-unchanged : goal.returns-in-Err-clause-unchanged
returns-in-Err-clause-unchanged c =
    let m = c.args.meta.now in
    let items = with_items_is m.directories c.add_block.new.slots (c.add_block.auto.slots ∙ c.as_mut_slice.ensures.len) in
    record {
      inodes = refl;
      directories = λ n. ap (λ (x : Slots). directory_at x n) (items ∙ c.in-Err.ensures.err ∙ c.as_mut_slice.ensures.value);
      free = c.in-Err.ensures.free;
      first = refl;
    }
