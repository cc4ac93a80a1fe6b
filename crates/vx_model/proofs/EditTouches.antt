-- What each edit touches.
use Rattle.std.proofs.Common.{◌≡◌, ◌≢◌, ℕ, zero, suc, ◌+◌, ◌-◌, ◌*◌, ◌/◌, ◌<◌, Bool, true, false, cond, List, [], ◌∷◌, ◌++◌, length, map, take, drop, Option, Some, None, Ok, Err, refl, sym, ap, subst, ◌∙◌, arith, inl, inr, length-append}
use Rattle.std.specs.Prelude.{◌||◌, ◌&&◌, ◌==◌, is_some, slice_get}
use Rattle.std.specs.Option.{option_map, option_and_then}
use Rattle.std.specs.FinMap as map
use Rattle.std.proofs.lemmas.Bool.{cases_eq, eq-eqb, ne_eqb, or_parts, true≢false}
use Rattle.std.proofs.lemmas.List.{length-map, map-append, drop_at}
use Rattle.std.proofs.lemmas.List.Folds.{list_any-append}
use Rattle.std.proofs.lemmas.Nat.{div-mul-add}
use Rattle.std.proofs.lemmas.Option.{slice_get-map, none-some}
use Rattle.vx_base.proofs.Maps.{at_key, at_other}
use Rattle.vx_base.specs.Paths.{FileName}
use Rattle.vx_base.specs.declared.inode.DirEntry.{DirEntry}
use Rattle.vx_layout.specs.Places.{Volume, unit_block}
use Rattle.vx_extents.specs.Extents.{stretches}
use Rattle.vx_space.specs.Space.{page_blocks, maps_for}
use Rattle.vx_model.specs.Outcome.{Maybe}
use Rattle.vx_model.specs.Tree.{Node, Directory, IsDirectory, Entries}
use Rattle.vx_model.specs.Layout.{DirectoryBlock, Layout, Claim, Claimed, volume, blocks_at, space_at, maps_at, block_numbers, owned, settled_at, chain_of, chain_at, claim_of, with_blocks, with_last, with_entry, room_place, given_up, released, without_name}
use Rattle.vx_model.specs.State.{State}
use Rattle.vx_model.specs.Walks.{directory_at}
use Rattle.vx_model.specs.Edits.{with_nodes, add_name, remove_name_in, remove_name, set_node, drop_node}
use Rattle.vx_model.specs.Legal.{with_released}
use Rattle.vx_model.specs.Images.{among}
use Rattle.vx_model.specs.Contents.{settled_of, inode_for, inode_value, parsed_of}
use Rattle.vx_model.specs.LaidOut.{IsDirectoryOf, IsLaidOut}
use Rattle.vx_model.specs.Touching.{BlockPlace, Touched, IsTouched, has_place, joined, untouched, inode_touched, entries_touched, unit_of, units_of, new_blocks, name_touched, IsOnlyIn, drop_touched}
use Rattle.vx_model.proofs.BlockClaims.{HasSame, IsWhole, not_first, numbers_claimed, given_claims, whole_claims, used_same, claims_same, same_length, same_chain, same_claimed, same_held}
use Rattle.vx_model.proofs.EditKeeps.{IsSameAt, same_at, node_held, nothing_whole, directory_whole, here, elsewhere, others_same, same_numbers, removed_other, freed_others, freed_nothing, nothing_blocks}
use Rattle.vx_model.proofs.NameEdits.{filled_is, nowhere, Grown, directory_there, entry_added, name_added}
use Rattle.vx_model.proofs.NameKeeps.{without_numbers, named, next, last, blocks, new, blocks_now, maps_now, grown_whole}

-- ---- units

unit_at : (v : Volume) (u j : ℕ) → j < 4096 → unit_of v (unit_block v u + j) ≡ u
unit_at v u j lt =
    let rest : unit_block v u + j - v.first ≡ u * 4096 + j = omega arith in
    ap (λ x. x / 4096) rest ∙ div-mul-add u 4096 j lt

-- no block of a unit stands among blocks of other units
units_none : (v : Volume) (u j : ℕ) → j < 4096 → (bs : List ℕ) → among (map (unit_of v) bs) u ≡ false → among bs (unit_block v u + j) ≡ false
units_none v u j lt [] h = refl
units_none v u j lt (b ∷ bs) h =
    let first : (unit_block v u + j == b) ≡ false = ne_eqb _ _ (λ e. not_first u (unit_of v b) (map (unit_of v) bs) h (sym (unit_at v u j lt) ∙ ap (unit_of v) e)) in
    let rest = units_none v u j lt bs (or_parts (u == unit_of v b) (among (map (unit_of v) bs) u) h).1 in
    λ i. first i || rest i

-- ---- what other inodes say

inode_same : (s new : State) (n : ℕ) → HasSame s.layout new.layout n → map.get new.tree.nodes n ≡ map.get s.tree.nodes n → inode_value new n ≡ inode_value s n
inode_same s new n same node = λ i. option_map (inode_for (same_held s.layout new.layout n same i)) (node i)

chain_was : (l m : Layout) (n k : ℕ) (c : Claimed) → HasSame l m n → slice_get (chain_at m n) k ≡ Some c → slice_get (chain_at l n) k ≡ Some c
chain_was l m n k c same h = sym (ap (λ (cs : List Claimed). slice_get cs k) (same_chain l m n same)) ∙ h

block_was : (l m : Layout) (n j : ℕ) (d : DirectoryBlock) → IsSameAt l m n → slice_get (blocks_at m n) j ≡ Some d → slice_get (blocks_at l n) j ≡ Some d
block_was l m n j d same h = sym (ap (λ (ds : List DirectoryBlock). slice_get ds j) same.blocks) ∙ h

claimed_was : (l m : Layout) (n b : ℕ) → HasSame l m n → among (numbers_claimed m n) b ≡ among (numbers_claimed l n) b
claimed_was l m n b same = ap (λ (xs : List ℕ). among xs b) (same_claimed l m n same)

-- another place than this one
not_there : (n j at i : ℕ) → has_place (record { ino = at; index = i } ∷ []) n j ≡ false → n ≡ at → j ≢ i
not_there n j at i h e f =
    let x = eq-eqb n at e in
    let y = eq-eqb j i f in
    true≢false (sym (λ k. (x k && y k) || false) ∙ h)

-- ---- a directory with other entries in one of its blocks

module _ (s : State) (at i : ℕ) (d : Directory) (names : Entries) (now : List DirectoryBlock) (there : map.get s.tree.nodes at ≡ Some (IsDirectory d)) (same : block_numbers now ≡ block_numbers (blocks_at s.layout at))
    (others : (j : ℕ) (b : DirectoryBlock) → j ≢ i → slice_get now j ≡ Some b → slice_get (blocks_at s.layout at) j ≡ Some b) where
  abbrev left : State
  left = record { tree = with_nodes s.tree (map.insert s.tree.nodes at (IsDirectory (record d { entries = names }))); layout = with_blocks s.layout at now }

  all_same : (n : ℕ) → HasSame s.layout left.layout n
  all_same = same_numbers s.layout at now same

  -- the inode says nothing of the names
  own_inode : inode_value left at ≡ inode_value s at
  own_inode =
      ap (option_map (inode_for (settled_of left.layout at))) (at_key s.tree.nodes at (IsDirectory (record d { entries = names })))
      ∙ (λ k. Some (inode_for (same_held s.layout left.layout at (all_same at) k) (IsDirectory d)))
      ∙ ap (option_map (inode_for (settled_of s.layout at))) (sym there)

  entries_left : IsTouched s left (entries_touched at i)
  entries_left = record {
    same_volume = refl;
    inodes = λ n h. elim (cases_eq n at) [
      | inl e ↦ subst (λ (k : ℕ). inode_value left k ≡ inode_value s k) (sym e) own_inode
      | inr ne ↦ inode_same s left n (all_same n) (at_other s.tree.nodes at (IsDirectory (record d { entries = names })) n ne)
    ];
    blocks = λ n j b h stands. elim (cases_eq n at) [
      | inl e ↦
          subst (λ (k : ℕ). slice_get (blocks_at s.layout k) j ≡ Some b) (sym e)
          (others j b (not_there n j at i h e)
          (sym (ap (λ (ds : List DirectoryBlock). slice_get ds j) (here at now (s.layout.directories at))) ∙ subst (λ (k : ℕ). slice_get (blocks_at left.layout k) j ≡ Some b) e stands))
      | inr ne ↦ block_was s.layout left.layout n j b (others_same s.layout at now s.layout.maps (λ k other. refl) n ne) stands
    ];
    maps = λ n k c h stands. chain_was s.layout left.layout n k c (all_same n) stands;
    units = λ u j lt h. used_same s.layout left.layout (unit_block (volume s.layout) u + j) refl (λ n. claimed_was s.layout left.layout n (unit_block (volume s.layout) u + j) (all_same n));
  }

-- ---- a name more

abbrev IsNameTouched : State → ℕ → DirEntry → State → Type 0
IsNameTouched s at e new = IsTouched s new (name_touched s new at e)

abbrev next_touched : State → State → ℕ → DirEntry → Touched
next_touched s new at e = record {
  inodes = at ∷ [];
  blocks = record { ino = at; index = room_place (blocks_at s.layout at) e } ∷ [];
  maps = at ∷ [];
  units = units_of (volume new.layout) (new_blocks s new at);
}

by_length : (s new : State) (at : ℕ) (e : DirEntry) (t : Bool) → (length (blocks_at new.layout at) == length (blocks_at s.layout at)) ≡ t
    → IsTouched s new (cond t (entries_touched at (room_place (blocks_at s.layout at) e)) (next_touched s new at e)) → IsNameTouched s at e new
by_length s new at e t is h = subst (λ x. IsTouched s new (cond x (entries_touched at (room_place (blocks_at s.layout at) e)) (next_touched s new at e))) (sym is) h

filled_touches : (s : State) (at : ℕ) (e : DirEntry) (d : Directory) (now : List DirectoryBlock) → map.get s.tree.nodes at ≡ Some (IsDirectory d) → with_entry (blocks_at s.layout at) e ≡ Some now
    → IsNameTouched s at e (named s at e.ino e.name d (with_blocks s.layout at now))
filled_touches s at e d now there filled =
    let f = filled_is (blocks_at s.layout at) now e filled in
    by_length s (named s at e.ino e.name d (with_blocks s.layout at now)) at e true
    (eq-eqb _ _ (ap (λ (ds : List DirectoryBlock). length ds) (here at now (s.layout.directories at)) ∙ same_length now (blocks_at s.layout at) f.numbers))
    (entries_left s at (room_place (blocks_at s.layout at) e) d (map.insert d.entries e.name e.ino) now there f.numbers (λ j b ne stands. sym (f.others j ne) ∙ stands))

or_none : (t : Bool) → (t || false) ≡ t
or_none true = refl
or_none false = refl

among_append : (xs ys : List ℕ) (b : ℕ) → among (xs ++ ys) b ≡ (among xs b || among ys b)
among_append xs ys b = list_any-append (λ y. b == y) xs ys

among_front : (xs ys : List ℕ) (b : ℕ) → among ys b ≡ false → among (xs ++ ys) b ≡ among xs b
among_front xs ys b h = among_append xs ys b ∙ ap (λ t. among xs b || t) h ∙ or_none (among xs b)

neither_in : (xs ys : List ℕ) (n : ℕ) → among (xs ++ ys) n ≡ false → (among xs n ≡ false) × (among ys n ≡ false)
neither_in xs ys n h = or_parts (among xs n) (among ys n) (sym (among_append xs ys n) ∙ h)

front_block : (ds : List DirectoryBlock) (x d : DirectoryBlock) (j : ℕ) → j ≢ length ds → slice_get (ds ++ x ∷ []) j ≡ Some d → slice_get ds j ≡ Some d
front_block [] x d zero ne h = absurd (ne refl)
front_block [] x d (suc j) ne h = absurd cc
front_block (y ∷ ds) x d zero ne h = h
front_block (y ∷ ds) x d (suc j) ne h = front_block ds x d j (λ e. ne (ap suc e)) h

module _ (s : State) (first at : ℕ) (e : DirEntry) (after : Layout) (d : Directory) (is : IsDirectoryOf s.layout at d) (whole : IsWhole s.layout at) (g : Grown s.layout first at e after) where
  abbrev grown : State
  grown = named s at e.ino e.name d (with_last s.layout at e g.filling)

  others_stay : (n : ℕ) → n ≢ at → IsSameAt s.layout grown.layout n
  others_stay n ne = others_same s.layout at (blocks s.layout first at d e after is g) grown.layout.maps (λ k other. elsewhere k at g.filling.maps (s.layout.maps k) other) n ne

  numbers_now : block_numbers (blocks_at grown.layout at) ≡ block_numbers (blocks_at s.layout at) ++ (last s.layout first at d e after is g).block ∷ []
  numbers_now = ap block_numbers (blocks_now s.layout first at d e after is g) ∙ map-append (λ (x : DirectoryBlock). x.block) (blocks_at s.layout at) (last s.layout first at d e after is g ∷ [])

  maps_are : maps_at grown.layout at ≡ maps_at s.layout at ++ (next s.layout first at d e after is g).more
  maps_are = maps_now s.layout first at d e after is g ∙ (next s.layout first at d e after is g).maps

  new_are : new_blocks s grown at ≡ ((last s.layout first at d e after is g).block ∷ []) ++ (next s.layout first at d e after is g).more
  new_are =
      let ns : List ℕ = block_numbers (blocks_at s.layout at) in
      let x : List ℕ = (last s.layout first at d e after is g).block ∷ [] in
      let more : List ℕ = (next s.layout first at d e after is g).more in
      let a : drop (length (blocks_at s.layout at)) (block_numbers (blocks_at grown.layout at)) ≡ x =
      ap (drop (length (blocks_at s.layout at))) numbers_now ∙ drop_at ns x (length (blocks_at s.layout at)) (length-map (blocks_at s.layout at) (λ (y : DirectoryBlock). y.block)) in
      let b : drop (length (maps_at s.layout at)) (maps_at grown.layout at) ≡ more = ap (drop (length (maps_at s.layout at))) maps_are ∙ drop_at (maps_at s.layout at) more (length (maps_at s.layout at)) refl in
      λ i. a i ++ b i

  -- what isn't new is claimed as before
  claimed_here : (b : ℕ) → among (new_blocks s grown at) b ≡ false → among (numbers_claimed grown.layout at) b ≡ among (numbers_claimed s.layout at) b
  claimed_here b h =
      let ns : List ℕ = block_numbers (blocks_at s.layout at) in
      let x : List ℕ = (last s.layout first at d e after is g).block ∷ [] in
      let ps : List ℕ = page_blocks (space_at s.layout at).present in
      let ms : List ℕ = maps_at s.layout at in
      let more : List ℕ = (next s.layout first at d e after is g).more in
      let two = neither_in x more b (sym (ap (λ (xs : List ℕ). among xs b) new_are) ∙ h) in
      let parts : owned grown.layout at ≡ (ns ++ x) ++ (ps ++ (ms ++ more)) = (λ i. numbers_now i ++ (ps ++ maps_are i)) in
      let rest : among (ps ++ (ms ++ more)) b ≡ among (ps ++ ms) b = among_append ps (ms ++ more) b ∙ ap (λ t. among ps b || t) (among_front ms more b two.1) ∙ sym (among_append ps ms b) in
      let begins = among_front ns x b two.0 in
      ap (λ (xs : List ℕ). among xs b) (whole_claims grown.layout at (grown_whole s.layout first at d e after is g) ∙ parts)
      ∙ among_append (ns ++ x) (ps ++ (ms ++ more)) b ∙ (λ i. begins i || rest i) ∙ sym (among_append ns (ps ++ ms) b)
      ∙ ap (λ (xs : List ℕ). among xs b) (sym (whole_claims s.layout at whole))

  grown_next : IsTouched s grown (next_touched s grown at e)
  grown_next = record {
    same_volume = refl;
    inodes = λ n h. (let ne = not_first n at [] h in inode_same s grown n (same_at s.layout grown.layout n (others_stay n ne)) (at_other s.tree.nodes at (IsDirectory (record d { entries = map.insert d.entries e.name e.ino })) n ne));
    blocks = λ n j b h stands. elim (cases_eq n at) [
      | inl same ↦
          subst (λ (k : ℕ). slice_get (blocks_at s.layout k) j ≡ Some b) (sym same)
          (front_block (blocks_at s.layout at) (last s.layout first at d e after is g) b j (λ f. not_there n j at (room_place (blocks_at s.layout at) e) h same (f ∙ sym (nowhere (blocks_at s.layout at) e g.full)))
          (sym (ap (λ (ds : List DirectoryBlock). slice_get ds j) (blocks_now s.layout first at d e after is g)) ∙ subst (λ (k : ℕ). slice_get (blocks_at grown.layout k) j ≡ Some b) same stands))
      | inr ne ↦ block_was s.layout grown.layout n j b (others_stay n ne) stands
    ];
    maps = λ n k c h stands. chain_was s.layout grown.layout n k c (same_at s.layout grown.layout n (others_stay n (not_first n at [] h))) stands;
    units = λ u j lt h.
        let b : ℕ = unit_block (volume s.layout) u + j in
        let none = units_none (volume s.layout) u j lt (new_blocks s grown at) h in
        used_same s.layout grown.layout b refl (λ n. elim (cases_eq n at) [
          | inl same ↦ subst (λ (k : ℕ). among (numbers_claimed grown.layout k) b ≡ among (numbers_claimed s.layout k) b) (sym same) (claimed_here b none)
          | inr ne ↦ claimed_was s.layout grown.layout n b (same_at s.layout grown.layout n (others_stay n ne))
        ]);
  }

  grown_touches : IsNameTouched s at e grown
  grown_touches =
      let longer : length (blocks_at grown.layout at) ≡ length (blocks_at s.layout at) + 1 =
      ap (λ (ds : List DirectoryBlock). length ds) (blocks_now s.layout first at d e after is g) ∙ length-append (blocks_at s.layout at) (last s.layout first at d e after is g ∷ []) in
      by_length s grown at e false (ne_eqb _ _ (λ f. omega (arith, f, longer))) grown_next

pub added_touches : (s new : State) (at ino : ℕ) (name : FileName) → IsLaidOut s → add_name s at name ino ≡ Ok new → IsTouched s new (name_touched s new at (record { ino = ino; name = name }))
added_touches s new at ino name is h =
    let a = name_added s new at ino name h in
    let e : DirEntry = record { ino = ino; name = name } in
    let held = node_held s is at (IsDirectory a.directory) a.is_directory in
    let grows = entry_added s.layout a.layout s.tree.tunables.initial_extent_size at e a.added in
    subst (IsNameTouched s at e) (sym a.state) (elim grows [
      | inl f ↦ subst (λ (l : Layout). IsNameTouched s at e (named s at ino name a.directory l)) (sym f.layout) (filled_touches s at e a.directory f.blocks a.is_directory f.filled)
      | inr g ↦ subst (λ (l : Layout). IsNameTouched s at e (named s at ino name a.directory l)) (sym g.layout) (grown_touches s s.tree.tunables.initial_extent_size at e a.layout a.directory held.0 (directory_whole s.layout at a.directory held.0) g)
    ])

-- ---- a name less

same_touches : (s : State) (t : Touched) → IsTouched s s t
same_touches s t = record { same_volume = refl; inodes = λ n h. refl; blocks = λ n i d h stands. stands; maps = λ n k c h stands. stands; units = λ u j lt h. refl }

some_map : (f : DirectoryBlock → DirectoryBlock) (o : Option DirectoryBlock) (d : DirectoryBlock) → option_map f o ≡ Some d → (x : DirectoryBlock) × (o ≡ Some x) × (f x ≡ d)
some_map f None d h = absurd cc
some_map f (Some x) d h = let e : f x ≡ d = cc in (x, refl, e)

only_here : (name : FileName) (i : ℕ) (ds : List DirectoryBlock) → IsOnlyIn name i ds → (j : ℕ) (d : DirectoryBlock) → j ≢ i → slice_get (map (without_name name) ds) j ≡ Some d → slice_get ds j ≡ Some d
only_here name i ds only j d ne stands =
    let was = some_map (without_name name) (slice_get ds j) d (sym (slice_get-map (without_name name) ds j) ∙ stands) in
    was.1 ∙ ap Some (sym (only j was.0 ne was.1) ∙ was.2)

removed_by : (s : State) (at i : ℕ) (name : FileName) (m : Maybe Directory) → IsOnlyIn name i (blocks_at s.layout at) → directory_at s.tree.nodes at ≡ m → IsTouched s (remove_name_in s at name m) (entries_touched at i)
removed_by s at i name (Err why) only h = same_touches s (entries_touched at i)
removed_by s at i name (Ok d) only h =
    entries_left s at i d (map.remove d.entries name) (map (without_name name) (blocks_at s.layout at)) (directory_there s.tree.nodes at d h) (without_numbers name (blocks_at s.layout at))
    (only_here name i (blocks_at s.layout at) only)

pub removed_touches : (s : State) (at i : ℕ) (name : FileName) → IsLaidOut s → IsOnlyIn name i (blocks_at s.layout at) → IsTouched s (remove_name s at name) (entries_touched at i)
removed_touches s at i name is only = removed_by s at i name (directory_at s.tree.nodes at) only refl

-- ---- an inode

pub set_touches : (s : State) (ino : ℕ) (node : Node) → IsTouched s (set_node s ino node) (inode_touched ino)
set_touches s ino node = record {
  same_volume = refl;
  inodes = λ n h. ap (option_map (inode_for (settled_of s.layout n))) (at_other s.tree.nodes ino node n (not_first n ino [] h));
  blocks = λ n i d h stands. stands;
  maps = λ n k c h stands. stands;
  units = λ u j lt h. refl;
}

take_none : (k : ℕ) → ◌≡◌ {A = List ℕ} (take k []) []
take_none zero = refl
take_none (suc k) = refl

module _ (s : State) (place ino : ℕ) where
  abbrev gone : State
  gone = drop_node s place ino

  empty : (blocks_at gone.layout ino ≡ []) × (maps_at gone.layout ino ≡ [])
  empty = nothing_blocks gone.layout ino (freed_nothing s.layout place ino)

  no_chain : chain_at gone.layout ino ≡ []
  no_chain = ap (λ (ms : List ℕ). chain_of ino (drop 6 (stretches (settled_at gone.layout ino))) ms) (ap (take (maps_for (settled_at gone.layout ino))) empty.1 ∙ take_none _)

  no_claim : (b : ℕ) → among (given_up s.layout ino) b ≡ false → among (numbers_claimed gone.layout ino) b ≡ among (numbers_claimed s.layout ino) b
  no_claim b h =
      ap (λ (xs : List ℕ). among xs b) (whole_claims gone.layout ino (nothing_whole gone.layout ino (freed_nothing s.layout place ino)) ∙ (freed_nothing s.layout place ino).none)
      ∙ sym (given_claims s.layout ino b h)

  pub dropped_touches : IsTouched s gone (drop_touched s ino)
  dropped_touches = record {
    same_volume = refl;
    inodes = λ n h. (let ne = not_first n ino [] h in inode_same s gone n (same_at s.layout gone.layout n (freed_others s.layout place ino n ne)) (removed_other s.tree.nodes ino n ne));
    blocks = λ n j d h stands. elim (cases_eq n ino) [
      | inl e ↦
          let none : slice_get (blocks_at gone.layout n) j ≡ None = ap (λ (k : ℕ). slice_get (blocks_at gone.layout k) j) e ∙ ap (λ (ds : List DirectoryBlock). slice_get ds j) empty.0 in
          absurd (none-some d (sym none ∙ stands))
      | inr ne ↦ block_was s.layout gone.layout n j d (freed_others s.layout place ino n ne) stands
    ];
    maps = λ n k c h stands. elim (cases_eq n ino) [
      | inl e ↦
          let none : slice_get (chain_at gone.layout n) k ≡ None = ap (λ (m : ℕ). slice_get (chain_at gone.layout m) k) e ∙ ap (λ (cs : List Claimed). slice_get cs k) no_chain in
          absurd (none-some c (sym none ∙ stands))
      | inr ne ↦ chain_was s.layout gone.layout n k c (same_at s.layout gone.layout n (freed_others s.layout place ino n ne)) stands
    ];
    units = λ u j lt h.
        let b : ℕ = unit_block (volume s.layout) u + j in
        let none = units_none (volume s.layout) u j lt (given_up s.layout ino) h in
        used_same s.layout gone.layout b refl (λ n. elim (cases_eq n ino) [
          | inl e ↦ subst (λ (k : ℕ). among (numbers_claimed gone.layout k) b ≡ among (numbers_claimed s.layout k) b) (sym e) (no_claim b none)
          | inr ne ↦ claimed_was s.layout gone.layout n b (same_at s.layout gone.layout n (freed_others s.layout place ino n ne))
        ]);
  }

-- ---- the blocks that wait

pub released_says : (s : State) (upto : ℕ) → parsed_of (with_released s upto) ≡ parsed_of s
released_says s upto =
    let same : (b : ℕ) → claim_of (released s.layout upto) b ≡ claim_of s.layout b = λ b. claims_same s.layout (released s.layout upto) b refl (λ n. refl) in
    λ i. record {
      inodes = inode_value s;
      forms = λ b. option_and_then (λ (c : Claim). c.form) (same b i);
      claims = λ b. option_map (λ (c : Claim). c.ino) (same b i);
    }

-- ---- one edit after another

pub same : (s : State) → IsTouched s s untouched
same s = same_touches s untouched

no_place : (xs ys : List BlockPlace) (n i : ℕ) → has_place (xs ++ ys) n i ≡ false → (has_place xs n i ≡ false) × (has_place ys n i ≡ false)
no_place xs ys n i h = or_parts (has_place xs n i) (has_place ys n i) (sym (list_any-append (λ (p : BlockPlace). n == p.ino && i == p.index) xs ys) ∙ h)

pub next_edit : (a b c : State) (t u : Touched) → IsTouched a b t → IsTouched b c u → IsTouched a c (joined t u)
next_edit a b c t u first second = record {
  same_volume = second.same_volume ∙ first.same_volume;
  inodes = λ n h. let two = neither_in t.inodes u.inodes n h in second.inodes n two.1 ∙ first.inodes n two.0;
  blocks = λ n i d h stands. let two = no_place t.blocks u.blocks n i h in first.blocks n i d two.0 (second.blocks n i d two.1 stands);
  maps = λ n k x h stands. let two = neither_in t.maps u.maps n h in first.maps n k x two.0 (second.maps n k x two.1 stands);
  units = λ k j lt h.
      let two = neither_in t.units u.units k h in
      second.units k j lt two.1
      ∙ subst (λ (v : Volume). is_some (claim_of b.layout (unit_block v k + j)) ≡ is_some (claim_of a.layout (unit_block v k + j))) (sym second.same_volume) (first.units k j lt two.0);
}
