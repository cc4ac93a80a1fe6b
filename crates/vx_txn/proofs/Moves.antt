-- An entry may be added before or after the inode goes that it replaces.
use Rattle.std.proofs.Common.{◌≡◌, ◌≢◌, ℕ, ◌+◌, ◌≤◌, Bool, true, false, cond, List, [], ◌∷◌, ◌++◌, ◌-◌, length, map as list_map, Option, Some, None, Ok, Err, inl, inr, refl, sym, ◌∙◌, ap, subst, arith, length-append}
use Rattle.std.specs.Prelude.{◌==◌, is_some}
use Rattle.std.specs.List.{AllByRecursion, filter}
use Rattle.std.specs.Option.{option_or}
use Rattle.std.proofs.lemmas.Bool.{cases_Bool, ne_eqb, eq-eqb, eqb-true, cases_eq, false_from_ne_true, both_ways, le-leb}
use Rattle.std.proofs.lemmas.List.Sums.{sum_by-cons}
use Rattle.std.proofs.lemmas.Slice.Eq.{bytes_eq-Decides}
use Rattle.std.specs.Ordering.{nat_cmp, is_eq}
use Rattle.std.specs.Cmp.{nat_cmp_total, tied_itself}
use Rattle.std.specs.FinMap as map
use Rattle.vx_base.specs.declared.refusal.Refusal.TheVariants as no
use Rattle.vx_base.specs.declared.inode.DirEntry.{DirEntry}
use Rattle.vx_base.specs.Paths.{FileName}
use Rattle.vx_base.proofs.Maps.{apart, at_key, at_other, put_twice}
use Rattle.vx_dir.specs.Directories.{inode_in, is_named}
use Rattle.vx_codec.proofs.Entries.{length-entry}
use Rattle.vx_layout.specs.Dirs.{IsDir, entries_bytes, entry_bytes}
use Rattle.vx_model.specs.Outcome.{Maybe, need, ◌>>=◌}
use Rattle.vx_model.specs.Tree.{Node, Nodes, Entries, File, Directory, IsFile, IsDirectory}
use Rattle.vx_model.specs.Layout.{Layout, DirectoryBlock, blocks_at, without_name as block_without, with_blocks, with_entry, filled_or_new, add_entry, behind, entry_size, freed, given_up, has_room, other_name, pages_from, pended, used_by}
use Rattle.vx_model.specs.State.{State}
use Rattle.vx_model.specs.Walks.{as_directory, directory_at}
use Rattle.vx_model.specs.Removing.{unlinked}
use Rattle.vx_model.specs.Edits.{with_nodes, with_name, add_name, add_name_in, remove_name, remove_name_in, set_node, drop_node}
use Rattle.vx_model.specs.LaidOut.{entries_of, IsLaidOut}
use Rattle.vx_space.specs.Space.{no_space, page_blocks}
use Rattle.vx_txn.specs.Directories.{others}
use Rattle.vx_txn.proofs.EntryLaws.{found_by, get_entries, in_append}
use Rattle.vx_txn.proofs.Lookups.{held_node, node_directory, removed_here, removed_other, removed_blocks}

-- ---- inode numbers

pub dropped_other : (nodes : Nodes) (t n : ℕ) → n ≢ t → map.get (map.remove nodes t) n ≡ map.get nodes n
dropped_other nodes t n other = map.get-remove nat_cmp_total nodes t n ∙ ap (λ b. cond b None (map.get nodes n)) (apart nat_cmp map.nat_cmp-IsAntisymmetric n t other)

dropped_here : (nodes : Nodes) (t : ℕ) → map.get (map.remove nodes t) t ≡ None
dropped_here nodes t = map.get-remove nat_cmp_total nodes t t ∙ ap (λ b. cond b None (map.get nodes t)) (ap is_eq (tied_itself nat_cmp_total t))

-- one inode may be put before or after another goes
put_dropped : (nodes : Nodes) (at t : ℕ) (node : Node) → at ≢ t → map.insert (map.remove nodes t) at node ≡ map.remove (map.insert nodes at node) t
put_dropped nodes at t node ne = map.same_map nat_cmp_total map.nat_cmp-IsAntisymmetric _ _ (λ q. elim (cases_eq q at) [
  | inl here ↦
      subst (λ (x : ℕ). map.get (map.insert (map.remove nodes t) at node) x ≡ map.get (map.remove (map.insert nodes at node) t) x) (sym here)
      (at_key (map.remove nodes t) at node ∙ sym (dropped_other (map.insert nodes at node) t at ne ∙ at_key nodes at node))
  | inr elsewhere ↦ elim (cases_eq q t) [
    | inl gone ↦
        subst (λ (x : ℕ). map.get (map.insert (map.remove nodes t) at node) x ≡ map.get (map.remove (map.insert nodes at node) t) x) (sym gone)
        (at_other (map.remove nodes t) at node t (λ e. ne (sym e)) ∙ dropped_here nodes t ∙ sym (dropped_here (map.insert nodes at node) t))
    | inr further ↦
        at_other (map.remove nodes t) at node q elsewhere ∙ dropped_other nodes t q further
        ∙ sym (dropped_other (map.insert nodes at node) t q further ∙ at_other nodes at node q elsewhere)
  ]
])

-- ---- blocks

either_first : (a b : Bool) (x y z : List DirectoryBlock) → (a ≡ true → b ≡ true → ⊥) → cond a x (cond b y z) ≡ cond b y (cond a x z)
either_first true true x y z one = absurd (one refl refl)
either_first true false x y z one = refl
either_first false true x y z one = refl
either_first false false x y z one = refl

-- a block has room
pub record IsFilled (o : Option (List DirectoryBlock)) : Type 0 where
  pub blocks : List DirectoryBlock
  pub is : o ≡ Some blocks

module _ (l : Layout) (place t at : ℕ) (ne : at ≢ t) where
  put_freed : (blocks : List DirectoryBlock) → with_blocks (freed l place t) at blocks ≡ freed (with_blocks l at blocks) place t
  put_freed blocks =
      let directories : (n : ℕ) → cond (n == at) blocks (cond (n == t) [] (l.directories n)) ≡ cond (n == t) [] (cond (n == at) blocks (l.directories n)) = λ n.
      either_first (n == at) (n == t) blocks [] (l.directories n) (λ one two. ne (sym (eqb-true n at one) ∙ eqb-true n t two)) in
      let given : given_up l t ≡ given_up (with_blocks l at blocks) t = ap (λ test. page_blocks (pages_from 0 (cond test blocks (l.directories t)) ++ (l.files t).settled) ++ l.maps t) (sym (ne_eqb t at (λ e. ne (sym e)))) in
      λ i. record {
        log_blocks = l.log_blocks;
        units = l.units;
        device_sectors = l.device_sectors;
        directory_limit = l.directory_limit;
        directories = λ n. directories n i;
        files = λ n. cond (n == t) no_space (l.files n);
        maps = λ n. cond (n == t) [] (l.maps n);
        pending = pended place (given i) l.pending;
      }

  freed_blocks : blocks_at (freed l place t) at ≡ blocks_at l at
  freed_blocks = ap (λ test. cond test [] (l.directories at)) (ne_eqb at t ne)

-- ---- an entry more

past : {A B C : Type 0} (m : Maybe A) (f : A → Maybe B) (g : A → Maybe C) (h : C → Maybe B) → ((x : A) → f x ≡ (g x >>= h)) → (m >>= f) ≡ ((m >>= g) >>= h)
past (Ok x) f g h same = same x
past (Err why) f g h same = refl

module _ (s : State) (at : ℕ) (name : FileName) (ino : ℕ) where
  abbrev first_extent : ℕ
  first_extent = s.tree.tunables.initial_extent_size

  abbrev entry : DirEntry
  entry = record { ino = ino; name = name }

  abbrev grown : State → Directory → Layout → Maybe State
  grown old d layout = Ok (record { tree = with_nodes old.tree (map.insert old.tree.nodes at (with_name d name ino)); layout = layout })

  module _ (place t : ℕ) (ne : at ≢ t) where
    dropped_directory : directory_at (map.remove s.tree.nodes t) at ≡ directory_at s.tree.nodes at
    dropped_directory = ap (λ (o : Option Node). need o no.NoEnt >>= as_directory) (dropped_other s.tree.nodes t at ne)

    dropped_entry : IsFilled (with_entry (blocks_at s.layout at) entry) → add_entry (freed s.layout place t) first_extent at entry ≡ (add_entry s.layout first_extent at entry >>= (λ k. Ok (freed k place t)))
    dropped_entry room =
        ap (λ (blocks : List DirectoryBlock). filled_or_new (freed s.layout place t) first_extent at entry (with_entry blocks entry)) (freed_blocks s.layout place t at ne)
        ∙ ap (filled_or_new (freed s.layout place t) first_extent at entry) room.is ∙ ap Ok (put_freed s.layout place t at ne room.blocks)
        ∙ sym (ap (λ (o : Option (List DirectoryBlock)). filled_or_new s.layout first_extent at entry o >>= (λ k. Ok (freed k place t))) room.is)

    dropped_in : (d : Directory) (m : Maybe Layout) → ((m >>= (λ k. Ok (freed k place t))) >>= grown (drop_node s place t) d) ≡ ((m >>= grown s d) >>= (λ added. Ok (drop_node added place t)))
    dropped_in d (Err why) = refl
    dropped_in d (Ok layout) = ap (λ (nodes : Nodes). Ok (record { tree = with_nodes s.tree nodes; layout = freed layout place t })) (put_dropped s.tree.nodes at t (with_name d name ino) ne)

    -- an entry may be added before or after an inode is dropped
    pub added_dropped : IsFilled (with_entry (blocks_at s.layout at) entry) → add_name (drop_node s place t) at name ino ≡ (add_name s at name ino >>= (λ added. Ok (drop_node added place t)))
    added_dropped room =
        ap (λ (m : Maybe Directory). m >>= add_name_in (drop_node s place t) at name ino) dropped_directory
        ∙ past (directory_at s.tree.nodes at) (add_name_in (drop_node s place t) at name ino) (add_name_in s at name ino) (λ added. Ok (drop_node added place t))
        (λ d. ap (λ (m : Maybe Layout). m >>= grown (drop_node s place t) d) (dropped_entry room) ∙ dropped_in d (add_entry s.layout first_extent at entry))

  module _ (t : ℕ) (node : Node) (ne : at ≢ t) where
    put_directory : directory_at (map.insert s.tree.nodes t node) at ≡ directory_at s.tree.nodes at
    put_directory = ap (λ (o : Option Node). need o no.NoEnt >>= as_directory) (at_other s.tree.nodes t node at ne)

    put_in : (d : Directory) (m : Maybe Layout) → (m >>= grown (set_node s t node) d) ≡ ((m >>= grown s d) >>= (λ added. Ok (set_node added t node)))
    put_in d (Err why) = refl
    put_in d (Ok layout) = ap (λ (nodes : Nodes). Ok (record { tree = with_nodes s.tree nodes; layout = layout })) (put_twice s.tree.nodes t at node (with_name d name ino) (λ e. ne (sym e)))

    -- or another inode is put
    pub added_put : add_name (set_node s t node) at name ino ≡ (add_name s at name ino >>= (λ added. Ok (set_node added t node)))
    added_put =
        ap (λ (m : Maybe Directory). m >>= add_name_in (set_node s t node) at name ino) put_directory
        ∙ past (directory_at s.tree.nodes at) (add_name_in (set_node s t node) at name ino) (add_name_in s at name ino) (λ added. Ok (set_node added t node))
        (λ d. put_in d (add_entry s.layout first_extent at entry))

  -- or a file loses a name
  pub added_unlinked : (place t : ℕ) (last : Bool) (f : File) → at ≢ t → IsFilled (with_entry (blocks_at s.layout at) entry)
      → add_name (unlinked s place t last f) at name ino ≡ (add_name s at name ino >>= (λ added. Ok (unlinked added place t last f)))
  added_unlinked place t true f ne room = added_dropped place t ne room
  added_unlinked place t false f ne room = added_put t (IsFile (record f { nlink = f.nlink - 1 })) ne

-- ---- a name that goes leaves room for an entry of the same name

pub length_bytes : (es : List DirEntry) → length (entries_bytes es) ≡ used_by es
length_bytes [] = refl
length_bytes (e ∷ es) =
    let one = length-append (entry_bytes e) (entries_bytes es) in
    let own = length-entry e in
    let rest = length_bytes es in
    let all = sum_by-cons entry_size e es in
    omega arith

-- the bytes that entries take, without some of them
less : (p : DirEntry → Bool) (es : List DirEntry) → used_by (filter p es) ≤ used_by es
less p [] = omega arith
less p (e ∷ es) =
    let rest = less p es in
    let all = sum_by-cons entry_size e es in
    let kept = sum_by-cons entry_size e (filter p es) in
    elim (cases_Bool (p e)) [
      | inl hit ↦ rw hit (omega arith)
      | inr miss ↦ rw miss (omega arith)
    ]

module _ (name : FileName) where
  abbrev bytes : ℕ
  bytes = 5 + length name

  abbrev Has : List DirEntry → Type 0
  Has es = is_some (inode_in name es) ≡ true

  named_size : (e : DirEntry) → is_named name e ≡ true → entry_size e ≡ bytes
  named_size e hit = ap (λ (x : FileName). 5 + length x) ((bytes_eq-Decides e.name name).0 hit)

  in_rest : (e : DirEntry) (es : List DirEntry) → is_named name e ≡ false → Has (e ∷ es) → Has es
  in_rest e es miss has = sym (ap is_some (found_by (is_named name e) name e es refl ∙ ap (λ (t : Bool). cond t (Some e.ino) (inode_in name es)) miss)) ∙ has

  -- the name's own entry goes, whatever else goes
  once : (es : List DirEntry) → Has es → used_by (others name es) + bytes ≤ used_by es
  once [] has = absurd cc
  once (e ∷ es) has =
      let all = sum_by-cons entry_size e es in
      elim (cases_Bool (is_named name e)) [
        | inl hit ↦
            let size = named_size e hit in
            let rest = less (other_name name) es in
            rw hit (omega arith)
        | inr miss ↦
            let rest = once es (in_rest e es miss has) in
            let kept = sum_by-cons entry_size e (others name es) in
            rw miss (omega arith)
      ]

  twice : (p : DirEntry → Bool) (es : List DirEntry) → Has es → used_by (others name (filter p es)) + bytes ≤ used_by es
  twice p [] has = absurd cc
  twice p (e ∷ es) has =
      let all = sum_by-cons entry_size e es in
      elim (cases_Bool (is_named name e)) [
        | inl hit ↦
            let size = named_size e hit in
            let one = less (other_name name) (filter p es) in
            let two = less p es in
            elim (cases_Bool (p e)) [
              | inl in_first ↦ rw (in_first, hit) (omega arith)
              | inr out ↦ rw out (omega arith)
            ]
        | inr miss ↦
            let rest = twice p es (in_rest e es miss has) in
            let kept = sum_by-cons entry_size e (others name (filter p es)) in
            elim (cases_Bool (p e)) [
              | inl in_first ↦ rw (in_first, miss) (omega arith)
              | inr out ↦ rw out (omega arith)
            ]
      ]

  -- each block that has the name is left with room for the name
  abbrev Leaves : List DirectoryBlock → List DirectoryBlock → Type 0
  Leaves [] [] = Unit {0}
  Leaves [] (c ∷ cs) = ⊥
  Leaves (b ∷ bs) [] = ⊥
  Leaves (b ∷ bs) (c ∷ cs) = (Has b.entries → used_by c.entries + bytes ≤ used_by b.entries) × Leaves bs cs

  leaves_once : (bs : List DirectoryBlock) → Leaves bs (list_map (block_without name) bs)
  leaves_once [] = tt
  leaves_once (b ∷ bs) = (once b.entries, leaves_once bs)

  leaves_twice : (old : FileName) (bs : List DirectoryBlock) → Leaves bs (list_map (block_without name) (list_map (block_without old) bs))
  leaves_twice old [] = tt
  leaves_twice old (b ∷ bs) = (twice (other_name old) b.entries, leaves_twice old bs)

  none_of : (o : Option ℕ) → is_some o ≡ false → o ≡ None
  none_of None is = refl
  none_of (Some x) is = absurd cc

  room_left : (ino : ℕ) (bs cs : List DirectoryBlock) → Leaves bs cs → AllByRecursion (λ (b : DirectoryBlock). IsDir 1024 b.entries) bs → Has (entries_of bs) → IsFilled (with_entry cs (record { ino = ino; name = name }))
  room_left ino [] [] leaves fits has = absurd cc
  room_left ino [] (c ∷ cs) leaves fits has = absurd leaves
  room_left ino (b ∷ bs) [] leaves fits has = absurd leaves
  room_left ino (b ∷ bs) (c ∷ cs) leaves fits has = elim (cases_Bool (has_room c (record { ino = ino; name = name }))) [
    | inl hit ↦ record { blocks = record c { entries = c.entries ++ record { ino = ino; name = name } ∷ [] } ∷ cs; is = rw hit refl }
    | inr full ↦
        let absent : is_some (inode_in name b.entries) ≡ false = false_from_ne_true _ (λ here.
        let most = leaves.0 here in
        let room = fits.0.room in
        let count = length_bytes b.entries in
        both_ways _ full (le-leb _ _ (omega arith))) in
        let later : Has (entries_of bs) = sym (ap is_some (in_append name b.entries (entries_of bs) ∙ ap (λ (o : Option ℕ). option_or o (inode_in name (entries_of bs))) (none_of (inode_in name b.entries) absent))) ∙ has in
        let rest = room_left ino bs cs leaves.1 fits.1 later in
        let e : DirEntry = record { ino = ino; name = name } in
        record { blocks = c ∷ rest.blocks; is = ap (λ (t : Bool). cond t (Some (record c { entries = c.entries ++ e ∷ [] } ∷ cs)) (behind c (with_entry cs e))) full ∙ ap (behind c) rest.is }
  ]

removed_blocks_here : (s : State) (at : ℕ) (name : FileName) (d : Directory) → directory_at s.tree.nodes at ≡ Ok d → blocks_at (remove_name s at name).layout at ≡ list_map (block_without name) (blocks_at s.layout at)
removed_blocks_here s at name d found =
    ap (λ (m : Maybe Directory). blocks_at (remove_name_in s at name m).layout at) found ∙ ap (λ test. cond test (list_map (block_without name) (blocks_at s.layout at)) (blocks_at s.layout at)) (eq-eqb at at refl)

pub room_still : (s : State) (at : ℕ) (d : Directory) (name : FileName) (t : ℕ) → IsLaidOut s → map.get s.tree.nodes at ≡ Some (IsDirectory d) → map.get d.entries name ≡ Some t
    → (from : ℕ) (old : FileName) (ino : ℕ) → IsFilled (with_entry (blocks_at (remove_name (remove_name s from old) at name).layout at) (record { ino = ino; name = name }))
room_still s at d name t laid found has from old ino =
    let kept = (held_node s at (IsDirectory d) laid found).kept in
    let there : is_some (inode_in name (entries_of (blocks_at s.layout at))) ≡ true = sym (ap is_some (ap (λ (es : Entries). map.get es name) kept.entries ∙ get_entries name (entries_of (blocks_at s.layout at)))) ∙ ap is_some has in
    let first : State = remove_name s from old in
    elim (cases_eq at from) [
      | inl here ↦
          let found_here : directory_at s.tree.nodes from ≡ Ok d = node_directory s.tree.nodes from d (ap (map.get s.tree.nodes) (sym here) ∙ found) in
          let blocks : blocks_at first.layout at ≡ list_map (block_without old) (blocks_at s.layout at) =
          ap (blocks_at first.layout) here ∙ removed_blocks_here s from old d found_here ∙ ap (λ (n : ℕ). list_map (block_without old) (blocks_at s.layout n)) (sym here) in
          let still : directory_at first.tree.nodes at ≡ Ok (record d { entries = map.remove d.entries old }) =
          node_directory first.tree.nodes at (record d { entries = map.remove d.entries old }) (ap (map.get first.tree.nodes) here ∙ removed_here s from old d found_here) in
          let result = removed_blocks_here first at name (record d { entries = map.remove d.entries old }) still ∙ ap (list_map (block_without name)) blocks in
          subst (λ (bs : List DirectoryBlock). IsFilled (with_entry bs (record { ino = ino; name = name }))) (sym result)
          (room_left name ino (blocks_at s.layout at) _ (leaves_twice name old (blocks_at s.layout at)) kept.spelled there)
      | inr other ↦
          let still : directory_at first.tree.nodes at ≡ Ok d = node_directory first.tree.nodes at d (removed_other s from old at other ∙ found) in
          let result = removed_blocks_here first at name d still ∙ ap (list_map (block_without name)) (removed_blocks s from old at other) in
          subst (λ (bs : List DirectoryBlock). IsFilled (with_entry bs (record { ino = ino; name = name }))) (sym result)
          (room_left name ino (blocks_at s.layout at) _ (leaves_once name (blocks_at s.layout at)) kept.spelled there)
    ]
