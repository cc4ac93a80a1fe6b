-- Edits of a directory's names.
use Rattle.std.proofs.Common.{◌≡◌, ◌≢◌, ℕ, zero, suc, ◌+◌, ◌-◌, ◌*◌, ◌<◌, ◌≤◌, Bool, true, false, cond, List, [], ◌∷◌, ◌++◌, map, length, set, get_or, Option, Some, None, Ok, Err, refl, sym, ◌∙◌, ap, subst, arith, inl, inr, length-set}
use Rattle.std.specs.Prelude.{◌==◌, ◌||◌, nat_le, nat_lt, drop}
use Rattle.vx_base.specs.declared.kind.Kind.TheVariants.{Data}
use Rattle.vx_model.specs.Images.{among}
use Rattle.std.specs.List.{position_or_len}
use Rattle.std.specs.FinMap as map
use Rattle.std.proofs.lemmas.Bool.{cases_Bool, cases_eq, cases_lt, eq-eqb, ne_eqb, lt-ltb, le-ltb, ltb-true, lt-leb, or_left, or_right}
use Rattle.std.proofs.lemmas.List.{length-map}
use Rattle.vx_base.proofs.Maps.{at_key, at_other}
use Rattle.vx_base.specs.Paths.{FileName, is_name}
use Rattle.vx_base.specs.declared.inode.DirEntry.{DirEntry}
use Rattle.vx_base.specs.declared.inode.Inode.{Inode}
use Rattle.vx_base.specs.declared.kind.FileKind.TheVariants as kind
use Rattle.vx_base.specs.declared.refusal.Refusal.{Refusal}
use Rattle.vx_base.specs.declared.refusal.Refusal.TheVariants as no
use Rattle.vx_dir.specs.Sizes.{Entries}
use Rattle.vx_dir.specs.Directories.{Directory as Names, inode_of, is_there, has_place, place_for, blocks_with, has_room as fits}
use Rattle.vx_dir.specs.declared.refusal.DirRefusal.{DirRefusal}
use Rattle.vx_dir.specs.declared.refusal.DirRefusal.TheVariants as dir
use Rattle.vx_extents.specs.Extents.{Mapped}
use Rattle.vx_inode.specs.Tables.{Table, inode_at}
use Rattle.vx_model.specs.Contents.{settled_of}
use Rattle.vx_model.specs.EditLaws.{EditLaws}
use Rattle.vx_model.specs.Edits.{with_nodes, with_name, add_name, add_name_in, remove_name, remove_name_in}
use Rattle.vx_model.specs.LaidOut.{IsLaidOut}
use Rattle.vx_model.specs.Layout as layout
use Rattle.vx_model.specs.Layout.{Layout, DirectoryBlock, blocks_at, block_numbers, space_at, with_blocks, owned, add_entry, filled_or_new, with_entry, with_new_block, has_room, remove_entry, pages_from, room_place}
use Rattle.vx_model.specs.Outcome.{Maybe, ◌>>=◌, unless}
use Rattle.vx_model.specs.State.{State}
use Rattle.vx_model.specs.Touching.{Touched, IsTouched, IsOnlyIn, entries_touched, new_blocks, units_of}
use Rattle.vx_model.specs.Tree.{Directory, IsDirectory, no_attrs}
use Rattle.vx_model.specs.Walks as walks
use Rattle.vx_space.specs.Space.{page_blocks}
use Rattle.vx_txn.specs.Calls.{HasGone}
use Rattle.vx_txn.specs.Directories.{DirectoryValue, IsDirectory as HasShape, placed, blocks_in, maps_in, block_count, others, without, IsNewIn}
use Rattle.vx_txn.specs.Directories as mine
use Rattle.vx_txn.specs.Edits.{place_answer, refused_as, IsEdited}
use Rattle.vx_txn.specs.Metas.{HasDirectory, directory_of, IsStateOf, Stands}
use Rattle.vx_txn.specs.declared.meta.Meta.{Meta}
use Rattle.vx_txn.proofs.Changes.{edited, free_kept, touched_entries, next_gone, stands_of}
use Rattle.vx_txn.proofs.Claims.{same_free}
use Rattle.vx_txn.proofs.EntryLaws.{not_named}
use Rattle.vx_txn.proofs.Settled.{length_placed}
use Rattle.vx_txn.proofs.StateLaws.{inode_of_node, inode_of_option, DirectoryHere, directory_here, directory_node, blocks_here, maps_here, found}

-- ---- the blocks of one directory

module _ (l : Layout) (at : ℕ) (bs : List DirectoryBlock) where
  pub with_here : blocks_at (with_blocks l at bs) at ≡ bs
  with_here = ap (λ (t : Bool). cond t bs (l.directories at)) (eq-eqb at at refl)

  pub with_other : (n : ℕ) → n ≢ at → blocks_at (with_blocks l at bs) n ≡ blocks_at l n
  with_other n ne = ap (λ (t : Bool). cond t bs (l.directories n)) (ne_eqb n at ne)

  -- the directory keeps its blocks, with other entries
  pub same_owned : block_numbers bs ≡ block_numbers (blocks_at l at) → (i : ℕ) → owned (with_blocks l at bs) i ≡ owned l i
  same_owned same i = elim (cases_eq i at) [
    | inl here ↦ subst (λ (n : ℕ). owned (with_blocks l at bs) n ≡ owned l n) (sym here)
        (ap (λ (x : List DirectoryBlock). block_numbers x ++ (page_blocks (l.files at).present ++ l.maps at)) with_here ∙ ap (λ (x : List ℕ). x ++ (page_blocks (l.files at).present ++ l.maps at)) same)
    | inr other ↦ ap (λ (x : List DirectoryBlock). block_numbers x ++ (page_blocks (l.files i).present ++ l.maps i)) (with_other i other)
  ]

pub numbers_without : (name : FileName) (bs : List DirectoryBlock) → block_numbers (map (layout.without_name name) bs) ≡ block_numbers bs
numbers_without name [] = refl
numbers_without name (d ∷ bs) = ap (λ (x : List ℕ). d.block ∷ x) (numbers_without name bs)

placed_without : (name : FileName) (pages : List Mapped) (blocks : List Entries) → map (layout.without_name name) (placed pages blocks) ≡ placed pages (map (others name) blocks)
placed_without name [] blocks = refl
placed_without name (m ∷ pages) [] = refl
placed_without name (m ∷ pages) (es ∷ blocks) = ap (λ (x : List DirectoryBlock). record { block = m.block; entries = others name es } ∷ x) (placed_without name pages blocks)

pub numbers_placed : (pages : List Mapped) (blocks : List Entries) → length pages ≡ length blocks → block_numbers (placed pages blocks) ≡ page_blocks pages
numbers_placed [] [] same = refl
numbers_placed [] (es ∷ blocks) same = absurd (omega (arith, same))
numbers_placed (m ∷ pages) [] same = absurd (omega (arith, same))
numbers_placed (m ∷ pages) (es ∷ blocks) same = ap (λ (x : List ℕ). m.block ∷ x) (numbers_placed pages blocks (omega (arith, same)))

same_pages : (k : ℕ) (bs cs : List DirectoryBlock) → block_numbers bs ≡ block_numbers cs → pages_from k bs ≡ pages_from k cs
same_pages k [] [] same = refl
same_pages k [] (c ∷ cs) same = absurd (omega (arith, ap length same))
same_pages k (b ∷ bs) [] same = absurd (omega (arith, ap length same))
same_pages k (b ∷ bs) (c ∷ cs) same =
    let here : b.block ≡ c.block = ap (λ (xs : List ℕ). get_or xs 0 0) same in
    let rest = same_pages (k + 1) bs cs (ap (λ (xs : List ℕ). drop 1 xs) same) in
    λ i. record { page = k; block = here i; kind = Data } ∷ rest i

-- as many blocks, with other entries
pub same_shape : (d : DirectoryValue) (names : Names) → HasShape d → names.block_size ≡ d.names.block_size → names.limit ≡ d.names.limit → length names.blocks ≡ length d.names.blocks → HasShape (record d { names = names })
same_shape d names shape size limit count =
    let same_count : length d.maps.space.present ≡ length names.blocks = shape.same_count ∙ sym count in
    record {
      block_size = size ∙ shape.block_size;
      limit = limit ∙ shape.limit;
      settled = shape.settled;
      size = shape.size;
      same_count = same_count;
      pages =
          shape.pages ∙ same_pages 0 (placed d.maps.space.present d.names.blocks) (placed d.maps.space.present names.blocks)
          (numbers_placed d.maps.space.present d.names.blocks shape.same_count ∙ sym (numbers_placed d.maps.space.present names.blocks same_count));
    }

-- ---- room

module _ (e : DirEntry) where
  abbrev pub size : ℕ
  size = 5 + length e.name

  abbrev pub place_in : List Entries → ℕ
  place_in blocks = position_or_len (fits 1020 size) blocks

  first_place : (es : Entries) (blocks : List Entries) (i : ℕ) → fits 1020 size es ≡ true → i ≡ place_in (es ∷ blocks) → i ≡ 0
  first_place es blocks i hit is = is ∙ rw hit refl

  later_place : (es : Entries) (blocks : List Entries) (i : ℕ) → fits 1020 size es ≡ false → i ≡ place_in (es ∷ blocks) → i ≡ suc (place_in blocks)
  later_place es blocks i miss is = is ∙ rw miss (omega arith)

  -- the first block with room has the entry, where there is one
  pub filled_at : (pages : List Mapped) (blocks : List Entries) (i : ℕ) → length pages ≡ length blocks → i ≡ place_in blocks → i < length blocks
      → with_entry (placed pages blocks) e ≡ Some (placed pages (set blocks i (get_or blocks i [] ++ e ∷ [])))
  filled_at pages [] i same is within = absurd (omega (arith, within))
  filled_at [] (es ∷ blocks) i same is within = absurd (omega (arith, same))
  filled_at (m ∷ pages) (es ∷ blocks) zero same is within = elim (cases_Bool (fits 1020 size es)) [
    | inl hit ↦ rw hit refl
    | inr miss ↦ let later = later_place es blocks 0 miss is in absurd (omega (arith, later))
  ]
  filled_at (m ∷ pages) (es ∷ blocks) (suc i) same is within = elim (cases_Bool (fits 1020 size es)) [
    | inl hit ↦ let first = first_place es blocks (suc i) hit is in absurd (omega (arith, first))
    | inr miss ↦
        let later = later_place es blocks (suc i) miss is in
        let rest = filled_at pages blocks i (omega (arith, same)) (omega (arith, later)) (omega (arith, within)) in
        rw miss (ap (layout.behind (record { block = m.block; entries = es })) rest)
  ]

  pub place_most : (blocks : List Entries) → place_in blocks ≤ length blocks
  place_most [] = omega arith
  place_most (es ∷ blocks) = elim (cases_Bool (fits 1020 size es)) [
    | inl hit ↦ let q : place_in (es ∷ blocks) ≡ 0 = rw hit refl in omega arith
    | inr miss ↦
        let q : place_in (es ∷ blocks) ≡ suc (place_in blocks) = rw miss (omega arith) in
        let rest = place_most blocks in omega arith
  ]

  pub no_block_has_room : (pages : List Mapped) (blocks : List Entries) → length pages ≡ length blocks → length blocks ≤ place_in blocks → with_entry (placed pages blocks) e ≡ None
  no_block_has_room [] [] same past = refl
  no_block_has_room [] (es ∷ blocks) same past = absurd (omega (arith, same))
  no_block_has_room (m ∷ pages) [] same past = refl
  no_block_has_room (m ∷ pages) (es ∷ blocks) same past = elim (cases_Bool (fits 1020 size es)) [
    | inl hit ↦ let q : place_in (es ∷ blocks) ≡ 0 = rw hit refl in absurd (omega (arith, past, q))
    | inr miss ↦
        let q : place_in (es ∷ blocks) ≡ suc (place_in blocks) = rw miss (omega arith) in
        let rest = no_block_has_room pages blocks (omega (arith, same)) (omega (arith, past, q)) in
        rw miss (ap (layout.behind (record { block = m.block; entries = es })) rest)
  ]

  pub room_is : (pages : List Mapped) (blocks : List Entries) (i : ℕ) → length pages ≡ length blocks → i ≡ place_in blocks → room_place (placed pages blocks) e ≡ i
  room_is [] [] i same is = sym is
  room_is [] (es ∷ blocks) i same is = absurd (omega (arith, same))
  room_is (m ∷ pages) [] i same is = absurd (omega (arith, same))
  room_is (m ∷ pages) (es ∷ blocks) zero same is = elim (cases_Bool (fits 1020 size es)) [
    | inl hit ↦ rw hit refl
    | inr miss ↦ let later = later_place es blocks 0 miss is in absurd (omega (arith, later))
  ]
  room_is (m ∷ pages) (es ∷ blocks) (suc i) same is = elim (cases_Bool (fits 1020 size es)) [
    | inl hit ↦ let first = first_place es blocks (suc i) hit is in absurd (omega (arith, first))
    | inr miss ↦
        let later = later_place es blocks (suc i) miss is in
        let rest = room_is pages blocks i (omega (arith, same)) (omega (arith, later)) in
        rw miss (ap (λ (n : ℕ). suc n) rest)
  ]

-- ---- what the check answers

place_by : (t h : Bool) (i j : ℕ) (big : DirRefusal) → t ≡ false → refused_as (cond t (Err dir.Exist) (cond h (Ok i) (Err big))) ≡ Ok j → (i ≡ j) × (h ≡ true)
place_by true h i j big e is = absurd (cc)
place_by false true i j big e is = (cc, refl)
place_by false false i j dir.Exist e is = absurd (cc)
place_by false false i j (dir.TooBig end) e is = absurd (cc)
place_by false false i j dir.NoMemory e is = absurd (cc)

big_by : (t h : Bool) (i end : ℕ) (why : Refusal) → t ≡ false → refused_as (cond t (Err dir.Exist) (cond h (Ok i) (Err (dir.TooBig end)))) ≡ Err why → (why ≡ no.TooBig end) × (h ≡ false)
big_by true h i end why e is = absurd (cc)
big_by false true i end why e is = absurd (cc)
big_by false false i end why e is = (cc, refl)

module _ (d : DirectoryValue) (shape : HasShape d) (name : FileName) (ino : ℕ) (new : inode_of d.names name ≡ None) where
  abbrev pub entry : DirEntry
  entry = record { ino = ino; name = name }

  same_place : place_for d.names (5 + length name) ≡ place_in entry d.names.blocks
  same_place = ap (λ (b : ℕ). position_or_len (fits (b - 4) (5 + length name)) d.names.blocks) shape.block_size

  pub answered_place : (i : ℕ) → place_answer d.names name ≡ Ok i → (place_in entry d.names.blocks ≡ i) × (has_place d.names (5 + length name) ≡ true)
  answered_place i answer =
      let p = place_by (is_there d.names name) (has_place d.names (5 + length name)) (place_for d.names (5 + length name)) i _ (not_named d.names name new) answer in
      (sym same_place ∙ p.0, p.1)

  pub answered_big : (why : Refusal) → place_answer d.names name ≡ Err why → (why ≡ no.TooBig (1024 * (length d.names.blocks + 1))) × (has_place d.names (5 + length name) ≡ false)
  answered_big why answer =
      let p = big_by (is_there d.names name) (has_place d.names (5 + length name)) (place_for d.names (5 + length name)) _ why (not_named d.names name new) answer in
      (p.0 ∙ ap (λ (b : ℕ). no.TooBig (b * (length d.names.blocks + 1))) shape.block_size, p.1)

  -- there is no room, but for a block more
  pub more_room : length d.names.blocks ≤ place_in entry d.names.blocks → has_place d.names (5 + length name) ≡ true → length d.names.blocks < 64
  more_room past has =
      let place = same_place in
      let full : nat_lt (place_for d.names (5 + length name)) (length d.names.blocks) ≡ false = le-ltb _ _ (omega (arith, past, place)) in
      let below : nat_lt (length d.names.blocks) d.names.limit ≡ true = sym (ap (λ (t : Bool). t || nat_lt (length d.names.blocks) d.names.limit) full) ∙ has in
      let most : length d.names.blocks < d.names.limit = ltb-true _ _ below in
      let limit : d.names.limit ≡ 64 = shape.limit in
      omega (arith, most, limit)

  pub no_room : has_place d.names (5 + length name) ≡ false → (length d.names.blocks ≤ place_in entry d.names.blocks) × (64 ≤ length d.names.blocks)
  no_room has = elim (cases_lt (place_for d.names (5 + length name)) (length d.names.blocks)) [
    | inl lt ↦ absurd (let e : has_place d.names (5 + length name) ≡ true = or_left _ _ (lt-ltb _ _ lt) in cc)
    | inr past ↦ elim (cases_lt (length d.names.blocks) d.names.limit) [
      | inl below ↦ absurd (let e : has_place d.names (5 + length name) ≡ true = or_right _ _ (lt-ltb _ _ below) in cc)
      | inr most ↦ let place = same_place in let limit : d.names.limit ≡ 64 = shape.limit in (omega (arith, past, place), omega (arith, most, limit))
    ]
  ]

-- a directory that does not have the name
pub new_directory : (name : FileName) (o : Option DirectoryValue) → IsNewIn name o → (d : DirectoryValue) × (o ≡ Some d)
new_directory name None new = absurd new
new_directory name (Some d) new = (d, refl)

-- ---- other entries in the blocks that there are

module _ (laws : EditLaws) (base s : State) (m k : Meta) (t v : Touched) (gone : HasGone base s m t) (at : ℕ) (d : DirectoryValue) (there : directory_of m at ≡ Some d) where
  abbrev pub stands : Stands m s
  stands = stands_of base s m t gone

  abbrev pub own : DirectoryHere s.layout at (inode_at m.inodes at) (map.get s.tree.nodes at) d
  own = directory_here m s stands at d there

  pub is_directory : walks.directory_at s.tree.nodes at ≡ Ok own.tree
  is_directory = directory_node m s stands at d there

  abbrev pub old_pages : List Mapped
  old_pages = d.maps.space.present

  old_blocks : blocks_at s.layout at ≡ placed old_pages d.names.blocks
  old_blocks = blocks_here m s stands at (Some d) there

  module _ (tree : Directory) (names : Names) (mode : tree.mode ≡ own.tree.mode) (size : names.block_size ≡ d.names.block_size) (limit : names.limit ≡ d.names.limit) (count : length names.blocks ≡ length d.names.blocks) where
    abbrev pub filled_blocks : List DirectoryBlock
    filled_blocks = placed old_pages names.blocks

    abbrev pub filled_state : State
    filled_state = record { tree = with_nodes s.tree (map.insert s.tree.nodes at (IsDirectory tree)); layout = with_blocks s.layout at filled_blocks }

    abbrev value : DirectoryValue
    value = record d { names = names }

    shape : HasShape value
    shape = same_shape d names own.shape size limit count

    same_numbers : block_numbers filled_blocks ≡ block_numbers (blocks_at s.layout at)
    same_numbers = numbers_placed old_pages names.blocks shape.same_count ∙ sym (ap block_numbers old_blocks ∙ numbers_placed old_pages d.names.blocks own.shape.same_count)

    pub same_length : length (blocks_at filled_state.layout at) ≡ length (blocks_at s.layout at)
    same_length =
        ap length (with_here s.layout at filled_blocks) ∙ sym (length-map filled_blocks (λ (x : DirectoryBlock). x.block)) ∙ ap length same_numbers
        ∙ length-map (blocks_at s.layout at) (λ (x : DirectoryBlock). x.block)

    same_inode : inode_of_node (settled_of s.layout at) (IsDirectory own.tree) ≡ inode_of_node (settled_of filled_state.layout at) (IsDirectory tree)
    same_inode = λ i. record { kind = kind.Directory; mode = sym mode i; nlink = 1; size = 1024 * sym same_length i + (space_at s.layout at).size; attrs = no_attrs }

    pub filled_is : directory_of k at ≡ Some value → ((n : ℕ) → n ≢ at → directory_of k n ≡ directory_of m n) → k.inodes ≡ m.inodes → k.free ≡ m.free → k.first ≡ m.first → IsStateOf k filled_state
    filled_is here other inodes free first =
        let inode : inode_at k.inodes at ≡ Some (inode_of_node (settled_of filled_state.layout at) (IsDirectory tree)) = ap (λ (x : Table). inode_at x at) inodes ∙ own.inode_there ∙ ap Some same_inode in
        edited m k s filled_state at gone.state
        (record { inodes = λ n ne. ap (λ (x : Table). inode_at x n) inodes; directories = other; units = ap (λ (x : Table). x.units) inodes; first = first })
        (record {
          nodes = λ n ne. at_other s.tree.nodes at (IsDirectory tree) n ne;
          blocks = λ n ne. with_other s.layout at filled_blocks n ne;
          maps = λ n ne. refl;
          spaces = λ n ne. refl;
          units = refl;
          log_blocks = refl;
          limit = refl;
        })
        (record {
          inode = inode ∙ sym (ap (inode_of_option (settled_of filled_state.layout at)) (at_key s.tree.nodes at (IsDirectory tree)));
          blocks = with_here s.layout at filled_blocks ∙ sym (ap blocks_in here);
          maps = maps_here m s stands at (Some d) there ∙ sym (ap maps_in here);
          kind = subst (λ (o : Option DirectoryValue). HasDirectory (inode_at k.inodes at) o) (sym here) (subst (λ (o : Option Inode). HasDirectory o (Some value)) (sym inode) (refl, shape));
        })
        (free_kept m k s filled_state.layout gone.state free
        (λ b. same_free s.layout filled_state.layout b refl refl (λ i. ap (λ (xs : List ℕ). among xs b) (same_owned s.layout at filled_blocks same_numbers i)) refl) (λ b. refl))

  -- ---- a name less

  pub removed_gone : (name : FileName) (i : ℕ) → IsOnlyIn name i (blocks_in (Some d)) → directory_of k at ≡ Some (without name d) → ((n : ℕ) → n ≢ at → directory_of k n ≡ directory_of m n) → k.inodes ≡ m.inodes → k.free ≡ m.free → k.first ≡ m.first
      → v ≡ record t { blocks = t.blocks ++ record { ino = at; index = i } ∷ [] } → HasGone base (remove_name s at name) k v
  removed_gone name i only here other inodes free first touched =
      let tree : Directory = record own.tree { entries = map.remove own.tree.entries name } in
      let names : Names = record d.names { blocks = map (others name) d.names.blocks } in
      let count : length names.blocks ≡ length d.names.blocks = length-map d.names.blocks (others name) in
      let blocks : map (layout.without_name name) (blocks_at s.layout at) ≡ placed old_pages names.blocks = ap (map (layout.without_name name)) old_blocks ∙ placed_without name old_pages d.names.blocks in
      let is : remove_name s at name ≡ filled_state tree names refl refl refl count =
      ap (remove_name_in s at name) is_directory
      ∙ ap (λ (bs : List DirectoryBlock). record { tree = with_nodes s.tree (map.insert s.tree.nodes at (IsDirectory tree)); layout = with_blocks s.layout at bs }) blocks in
      let state = filled_is tree names refl refl refl count here other inodes free first in
      next_gone laws base s (remove_name s at name) m k t (entries_touched at i) v gone (subst (λ (x : State). IsStateOf k x) (sym is) state) (laws.removed s at name gone.laid_out) (laws.removed_plain s at name gone.plain)
      (laws.removed_touches s at i name gone.laid_out (subst (IsOnlyIn name i) (sym old_blocks) only)) (touched ∙ touched_entries t at i)

  -- ---- a name more

  module _ (name : FileName) (ino : ℕ) where
    abbrev pub first_extent : ℕ
    first_extent = s.tree.tunables.initial_extent_size

    abbrev pub named : DirEntry
    named = record { ino = ino; name = name }

    pub named_by : (l : Layout) → add_entry s.layout first_extent at named ≡ Ok l → add_name s at name ino ≡ Ok (record { tree = with_nodes s.tree (map.insert s.tree.nodes at (with_name own.tree name ino)); layout = l })
    named_by l is =
        ap (λ (r : Maybe Directory). r >>= add_name_in s at name ino) is_directory
        ∙ ap (λ (r : Maybe Layout). r >>= (λ x. Ok (record { tree = with_nodes s.tree (map.insert s.tree.nodes at (with_name own.tree name ino)); layout = x }))) is

    pub refused_by : (why : Refusal) → add_entry s.layout first_extent at named ≡ Err why → add_name s at name ino ≡ Err why
    refused_by why is =
        ap (λ (r : Maybe Directory). r >>= add_name_in s at name ino) is_directory
        ∙ ap (λ (r : Maybe Layout). r >>= (λ x. Ok (record { tree = with_nodes s.tree (map.insert s.tree.nodes at (with_name own.tree name ino)); layout = x }))) is

    pub absent : inode_of d.names name ≡ None → map.get own.tree.entries name ≡ None
    absent new = found m s stands at d name there ∙ new

    pub laid_out_named : (new : State) → is_name name ≡ true → inode_of d.names name ≡ None → ino < 128 * m.inodes.units → add_name s at name ino ≡ Ok new → IsLaidOut new
    laid_out_named new legal none low is =
        laws.added s new at ino name own.tree gone.laid_out own.node_there legal (absent none) (subst (λ (n : ℕ). ino < 128 * n) (sym gone.state.units) low) is

    -- no block has room
    pub not_filled : length d.names.blocks ≤ place_in named d.names.blocks → add_entry s.layout first_extent at named ≡ with_new_block s.layout first_extent at named
    not_filled past = ap (filled_or_new s.layout first_extent at named) (ap (λ (bs : List DirectoryBlock). with_entry bs named) old_blocks ∙ no_block_has_room named old_pages d.names.blocks own.shape.same_count past)

    -- ---- in a block with room

    pub filled_gone : (i : ℕ) → place_answer d.names name ≡ Ok i → i < length d.names.blocks → is_name name ≡ true → inode_of d.names name ≡ None → ino < 128 * m.inodes.units → directory_of k at ≡ Some (mine.with_name named d)
        → ((n : ℕ) → n ≢ at → directory_of k n ≡ directory_of m n) → k.inodes ≡ m.inodes → k.free ≡ m.free → k.first ≡ m.first → v ≡ record t { blocks = t.blocks ++ record { ino = at; index = i } ∷ [] } → IsEdited base (add_name s at name ino) k v
    filled_gone i answer within legal new low here other inodes free first touched =
        let at_place = answered_place d own.shape name ino new i answer in
        let p : ℕ = place_in named d.names.blocks in
        let place : p ≡ i = at_place.0 in
        let filled : List Entries = set d.names.blocks p (get_or d.names.blocks p [] ++ named ∷ []) in
        let names : Names = record d.names { blocks = filled } in
        let inside : p < length d.names.blocks = omega (arith, place, within) in
        let count : length filled ≡ length d.names.blocks = length-set d.names.blocks p (get_or d.names.blocks p [] ++ named ∷ []) in
        let value_is : mine.with_name named d ≡ record d { names = names } =
        ap (λ (x : ℕ). record d { names = record d.names { blocks = blocks_with d.names.blocks x named } }) (ap (λ (b : ℕ). position_or_len (fits (b - 4) (5 + length name)) d.names.blocks) own.shape.block_size)
        ∙ ap (λ (c : Bool). record d { names = record d.names { blocks = cond c filled (d.names.blocks ++ (named ∷ []) ∷ []) } }) (lt-ltb p (length d.names.blocks) inside) in
        let tree : Directory = record own.tree { entries = map.insert own.tree.entries name ino } in
        let after : State = filled_state tree names refl refl refl count in
        let is : add_name s at name ino ≡ Ok after =
        named_by (with_blocks s.layout at (placed old_pages filled))
        (ap (filled_or_new s.layout first_extent at named) (ap (λ (bs : List DirectoryBlock). with_entry bs named) old_blocks ∙ filled_at named old_pages d.names.blocks p own.shape.same_count refl inside)) in
        let state = filled_is tree names refl refl refl count (here ∙ ap Some value_is) other inodes free first in
        let same : (length (blocks_at after.layout at) == length (blocks_at s.layout at)) ≡ true = eq-eqb _ _ (same_length tree names refl refl refl count) in
        let room : room_place (blocks_at s.layout at) named ≡ i = ap (λ (bs : List DirectoryBlock). room_place bs named) old_blocks ∙ room_is named old_pages d.names.blocks p own.shape.same_count refl ∙ place in
        let touches : IsTouched s after (entries_touched at i) =
        subst (λ (x : Touched). IsTouched s after x)
        (ap (λ (c : Bool). cond c (entries_touched at (room_place (blocks_at s.layout at) named)) (new_touched after)) same ∙ ap (entries_touched at) room)
        (laws.added_touches s after at ino name gone.laid_out is) in
        subst (λ (r : Maybe State). IsEdited base r k v) (sym is)
        (next_gone laws base s after m k t (entries_touched at i) v gone state (laid_out_named after legal new low is) (laws.added_plain s after at ino name gone.plain is) touches (touched ∙ touched_entries t at i))
      where
        new_touched : State → Touched
        new_touched after = record {
          inodes = at ∷ [];
          blocks = record { ino = at; index = room_place (blocks_at s.layout at) named } ∷ [];
          maps = at ∷ [];
          units = units_of (layout.volume after.layout) (new_blocks s after at);
        }

    -- ---- where no block has room, and there may be no further one

    pub too_big : inode_of d.names name ≡ None → (why : Refusal) → place_answer d.names name ≡ Err why → (add_name s at name ino ≡ Err why) × (why ≡ no.TooBig (1024 * (length d.names.blocks + 1)))
    too_big new why answer =
        let big = answered_big d own.shape name ino new why answer in
        let full = no_room d own.shape name ino new big.1 in
        let same : length (blocks_at s.layout at) ≡ length d.names.blocks = ap length old_blocks ∙ length_placed old_pages d.names.blocks own.shape.same_count in
        let limit : s.layout.directory_limit ≡ 64 = gone.state.limit in
        let most : nat_le (length (blocks_at s.layout at) + 1) s.layout.directory_limit ≡ false = lt-leb _ _ (omega (arith, full.1, same, limit)) in (
          refused_by why (not_filled full.0 ∙ ap (λ (c : Bool). unless c (no.TooBig (1024 * (length (blocks_at s.layout at) + 1))) (layout.next_block s.layout first_extent at >>= (λ f. Ok (layout.with_last s.layout at named f)))) most
              ∙ ap (λ (n : ℕ). Err (no.TooBig (1024 * (n + 1)))) same ∙ ap (λ (w : Refusal). Err w) (sym big.0)),
          big.0,
        )
