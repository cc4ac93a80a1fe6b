-- What a name more leaves: the blocks with the entry in one of them, or with a new block.
use Rattle.std.proofs.Common.{◌≡◌, ◌≢◌, ◌⊎◌, ℕ, zero, suc, ◌+◌, Bool, true, false, cond, List, [], ◌∷◌, ◌++◌, length, Option, Some, None, Ok, refl, sym, ap, subst, ◌∙◌, inl, inr}
use Rattle.std.specs.Prelude.{nat_le, slice_get}
use Rattle.std.specs.List.{AllByRecursion}
use Rattle.std.specs.FinMap as map
use Rattle.std.proofs.lemmas.List.{append_assoc}
use Rattle.vx_base.specs.Paths.{FileName}
use Rattle.vx_base.specs.declared.inode.DirEntry.{DirEntry}
use Rattle.vx_layout.specs.Dirs.{IsEntry, IsDir}
use Rattle.vx_space.specs.Placing.{Filling}
use Rattle.vx_model.specs.Outcome.{Maybe, ◌>>=◌}
use Rattle.vx_model.specs.Tree.{Nodes, Node, Directory, IsFile, IsDirectory}
use Rattle.vx_model.specs.Layout.{DirectoryBlock, Layout, blocks_at, block_numbers, has_room, room_place, behind, with_entry, with_blocks, next_block, with_last, filled_or_new, add_entry}
use Rattle.vx_model.specs.LaidOut.{entries_of}
use Rattle.vx_model.specs.State.{State}
use Rattle.vx_model.specs.Walks.{node_at, as_directory, directory_at}
use Rattle.vx_model.specs.Edits.{with_nodes, with_name, add_name_in, add_name}
use Rattle.vx_model.proofs.Chains.{bind_ok, unless_ok, need_ok}
use Rattle.vx_model.proofs.EntryLists.{push_fits}

ok_same : {A : Type 0} (x y : A) → ◌≡◌ {A = Maybe A} (Ok x) (Ok y) → y ≡ x
ok_same x y h = let e : x ≡ y = cc in sym e

directory_ok : (node : Node) (d : Directory) → as_directory node ≡ Ok d → node ≡ IsDirectory d
directory_ok (IsDirectory x) d h = let e : x ≡ d = cc in ap IsDirectory e
directory_ok (IsFile f) d h = absurd cc

pub directory_there : (nodes : Nodes) (at : ℕ) (d : Directory) → directory_at nodes at ≡ Ok d → map.get nodes at ≡ Some (IsDirectory d)
directory_there nodes at d h =
    let node = bind_ok (node_at nodes at) as_directory d h in
    need_ok (map.get nodes at) _ node.0 node.1 ∙ ap Some (directory_ok node.0 d node.2)

-- ---- an entry more in a block with room

abbrev pub IsSpelled : DirectoryBlock → Type 0
IsSpelled b = IsDir 1024 b.entries

pub record IsFilled (ds : List DirectoryBlock) (e : DirEntry) (place : ℕ) (filled : List DirectoryBlock) : Type 0 where
  pub numbers : block_numbers filled ≡ block_numbers ds
  pub spelled : IsEntry e → AllByRecursion IsSpelled ds → AllByRecursion IsSpelled filled
  pub others : (i : ℕ) → i ≢ place → slice_get filled i ≡ slice_get ds i
  -- the entry stands somewhere among the others
  pub pre : List DirEntry
  pub post : List DirEntry
  pub before : entries_of ds ≡ pre ++ post
  pub after : entries_of filled ≡ pre ++ e ∷ post

first_other : (d f : DirectoryBlock) (ds : List DirectoryBlock) (i : ℕ) → i ≢ 0 → slice_get (f ∷ ds) i ≡ slice_get (d ∷ ds) i
first_other d f ds zero ne = absurd (ne refl)
first_other d f ds (suc i) ne = refl

further_other : (d : DirectoryBlock) (ds more : List DirectoryBlock) (place : ℕ) → ((i : ℕ) → i ≢ place → slice_get more i ≡ slice_get ds i) → (i : ℕ) → i ≢ suc place → slice_get (d ∷ more) i ≡ slice_get (d ∷ ds) i
further_other d ds more place same zero ne = refl
further_other d ds more place same (suc i) ne = same i (λ e. ne (ap suc e))

behind_is : (d : DirectoryBlock) (ds filled : List DirectoryBlock) (e : DirEntry) (o : Option (List DirectoryBlock)) → ((more : List DirectoryBlock) → o ≡ Some more → IsFilled ds e (room_place ds e) more)
    → behind d o ≡ Some filled → IsFilled (d ∷ ds) e (suc (room_place ds e)) filled
behind_is d ds filled e None rest h = absurd cc
behind_is d ds filled e (Some more) rest h =
    let is : d ∷ more ≡ filled = cc in
    let f = rest more refl in
    subst (IsFilled (d ∷ ds) e (suc (room_place ds e))) is (record {
      numbers = ap (λ ns. d.block ∷ ns) f.numbers;
      spelled = λ entry all. (all.0, f.spelled entry all.1);
      others = further_other d ds more (room_place ds e) f.others;
      pre = d.entries ++ f.pre;
      post = f.post;
      before = ap (λ es. d.entries ++ es) f.before ∙ sym (append_assoc d.entries f.pre f.post);
      after = ap (λ es. d.entries ++ es) f.after ∙ sym (append_assoc d.entries f.pre (e ∷ f.post));
    })

first_is : (d : DirectoryBlock) (ds filled : List DirectoryBlock) (e : DirEntry) (t : Bool) → has_room d e ≡ t → ((more : List DirectoryBlock) → with_entry ds e ≡ Some more → IsFilled ds e (room_place ds e) more)
    → cond t (Some (record d { entries = d.entries ++ e ∷ [] } ∷ ds)) (behind d (with_entry ds e)) ≡ Some filled → IsFilled (d ∷ ds) e (cond t 0 (suc (room_place ds e))) filled
first_is d ds filled e true room rest h =
    let is : record d { entries = d.entries ++ e ∷ [] } ∷ ds ≡ filled = cc in
    subst (IsFilled (d ∷ ds) e 0) is (record {
      numbers = refl;
      spelled = λ entry all. (push_fits d.entries e all.0 entry room, all.1);
      others = first_other d (record d { entries = d.entries ++ e ∷ [] }) ds;
      pre = d.entries;
      post = entries_of ds;
      before = refl;
      after = append_assoc d.entries (e ∷ []) (entries_of ds);
    })
first_is d ds filled e false room rest h = behind_is d ds filled e (with_entry ds e) rest h

pub filled_is : (ds filled : List DirectoryBlock) (e : DirEntry) → with_entry ds e ≡ Some filled → IsFilled ds e (room_place ds e) filled
filled_is [] filled e h = absurd cc
filled_is (d ∷ ds) filled e h = first_is d ds filled e (has_room d e) refl (λ more. filled_is ds more e) h

-- where no block has room, the place is behind the last one
nowhere_behind : (d : DirectoryBlock) (o : Option (List DirectoryBlock)) → behind d o ≡ None → o ≡ None
nowhere_behind d None h = refl
nowhere_behind d (Some more) h = absurd cc

nowhere_by : (d : DirectoryBlock) (ds : List DirectoryBlock) (e : DirEntry) (t : Bool) → (with_entry ds e ≡ None → room_place ds e ≡ length ds)
    → cond t (Some (record d { entries = d.entries ++ e ∷ [] } ∷ ds)) (behind d (with_entry ds e)) ≡ None → cond t 0 (suc (room_place ds e)) ≡ suc (length ds)
nowhere_by d ds e true rest h = absurd cc
nowhere_by d ds e false rest h = ap suc (rest (nowhere_behind d (with_entry ds e) h))

pub nowhere : (ds : List DirectoryBlock) (e : DirEntry) → with_entry ds e ≡ None → room_place ds e ≡ length ds
nowhere [] e h = refl
nowhere (d ∷ ds) e h = nowhere_by d ds e (has_room d e) (nowhere ds e) h

-- ---- an entry more

pub record Filled (l : Layout) (at : ℕ) (e : DirEntry) (after : Layout) : Type 0 where
  pub blocks : List DirectoryBlock
  pub filled : with_entry (blocks_at l at) e ≡ Some blocks
  pub layout : after ≡ with_blocks l at blocks

pub record Grown (l : Layout) (first at : ℕ) (e : DirEntry) (after : Layout) : Type 0 where
  pub full : with_entry (blocks_at l at) e ≡ None
  pub within : nat_le (length (blocks_at l at) + 1) l.directory_limit ≡ true
  pub filling : Filling
  pub next : next_block l first at ≡ Ok filling
  pub layout : after ≡ with_last l at e filling

entry_by : (l after : Layout) (first at : ℕ) (e : DirEntry) (o : Option (List DirectoryBlock)) → with_entry (blocks_at l at) e ≡ o → filled_or_new l first at e o ≡ Ok after → Filled l at e after ⊎ Grown l first at e after
entry_by l after first at e (Some blocks) is h = inl (record { blocks = blocks; filled = is; layout = ok_same (with_blocks l at blocks) after h })
entry_by l after first at e None is h =
    let two = unless_ok (nat_le (length (blocks_at l at) + 1) l.directory_limit) _ (next_block l first at >>= (λ f. Ok (with_last l at e f))) after h in
    let placed = bind_ok (next_block l first at) (λ f. Ok (with_last l at e f)) after two.1 in
    inr (record { full = is; within = two.0; filling = placed.0; next = placed.1; layout = ok_same (with_last l at e placed.0) after placed.2 })

pub entry_added : (l after : Layout) (first at : ℕ) (e : DirEntry) → add_entry l first at e ≡ Ok after → Filled l at e after ⊎ Grown l first at e after
entry_added l after first at e h = entry_by l after first at e (with_entry (blocks_at l at) e) refl h

-- ---- a name more

pub record Named (s new : State) (at : ℕ) (name : FileName) (ino : ℕ) : Type 0 where
  pub directory : Directory
  pub is_directory : map.get s.tree.nodes at ≡ Some (IsDirectory directory)
  pub layout : Layout
  pub added : add_entry s.layout s.tree.tunables.initial_extent_size at (record { ino = ino; name = name }) ≡ Ok layout
  pub state : new ≡ record { tree = with_nodes s.tree (map.insert s.tree.nodes at (with_name directory name ino)); layout = layout }

pub name_added : (s new : State) (at ino : ℕ) (name : FileName) → add_name s at name ino ≡ Ok new → Named s new at name ino
name_added s new at ino name h =
    let d = bind_ok (directory_at s.tree.nodes at) (add_name_in s at name ino) new h in
    let state_of : Layout → State = λ layout. record { tree = with_nodes s.tree (map.insert s.tree.nodes at (with_name d.0 name ino)); layout = layout } in
    let layout = bind_ok (add_entry s.layout s.tree.tunables.initial_extent_size at (record { ino = ino; name = name })) (λ layout. Ok (state_of layout)) new d.2 in
    record {
      directory = d.0;
      is_directory = directory_there s.tree.nodes at d.0 d.1;
      layout = layout.0;
      added = layout.1;
      state = ok_same (state_of layout.0) new layout.2;
    }
