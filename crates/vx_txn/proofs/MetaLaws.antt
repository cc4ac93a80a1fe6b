-- What the metadata say of blocks and inodes.
use Rattle.std.proofs.Common.{◌≡◌, ◌≢◌, ℕ, zero, suc, ◌+◌, ◌-◌, ◌*◌, ◌%◌, ◌<◌, ◌≤◌, Bool, true, false, cond, not, ◌&&◌, List, [], ◌∷◌, ◌++◌, map, take, length, Option, Some, None, refl, sym, ◌∙◌, ap, subst, arith, inl, inr, get_or, replicate, lit<, lit≤, IfSome}
use Rattle.std.specs.Prelude.{Result, Ok, Err, IfOk, OnErr, ◌||◌, is_none, is_some, nat_lt, nat_le}
use Rattle.std.specs.Option.{option_map}
use Rattle.std.specs.FinMap as map
use Rattle.std.specs.Ordering.{nat_cmp}
use Rattle.std.proofs.lemmas.Bool.{cases_Bool, cases_eq, and_left, and_parts}
use Rattle.std.proofs.lemmas.List.FromFn.{get_or-map-range_with_len, length-map-range_with_len}
use Rattle.std.proofs.lemmas.List.{length-replicate, length-map}
use Rattle.std.proofs.lemmas.Option.{same_Some}
use Rattle.vx_alloc.proofs.Bits.{length-data_bits}
use Rattle.vx_alloc.specs.FreeMaps.{FreeMapView, is_data as is_data_block, is_free as is_free_block, is_used, is_in_set, is_barred, place_of, released, is_before, all_free}
use Rattle.vx_base.proofs.Maps.{at_key, at_other}
use Rattle.vx_base.specs.declared.inode.Inode.{Inode}
use Rattle.vx_base.specs.declared.kind.FileKind.TheVariants as kind
use Rattle.vx_base.specs.declared.reply.Reply.{Reply}
use Rattle.vx_extents.specs.Extents.{stretches}
use Rattle.vx_inode.specs.Tables.{Table, inode_at}
use Rattle.vx_layout.specs.Places.{is_data}
use Rattle.vx_model.specs.Contents.{Held, inode_value, inode_for, settled_of, value_of}
use Rattle.vx_model.specs.LaidOut.{IsLaidOut, IsHeld, IsDirectoryNode, IsFileNode}
use Rattle.vx_model.specs.Layout.{Layout, volume, is_free, is_owned, is_owned_below, kept_pending, owned, pages_from, settled_at, settled_maps}
use Rattle.vx_model.specs.Layout as layout
use Rattle.vx_model.specs.Legal.{with_released, IfThere}
use Rattle.vx_model.specs.State.{State, Done, fresh}
use Rattle.vx_model.specs.Touching.{Touched}
use Rattle.vx_model.specs.Tree.{Node, Opened, handle_cmp, IsFile, IsDirectory, new_directory, no_attrs}
use Rattle.vx_space.specs.Space.{maps_for}
use Rattle.std.specs.declared.alloc.AllocError.{AllocError}
use Rattle.vx_txn.specs.Calls.{IsDone}
use Rattle.vx_txn.specs.Directories.{DirectoryValue, blocks_in, maps_in, directory_at}
use Rattle.vx_txn.specs.Edits.{empty_directory}
use Rattle.vx_txn.specs.Metas.{HasDirectory, directory_of, IsStateOf, Stands, IsSound, IsUnchanged}
use Rattle.vx_txn.specs.Values.{AreFew, value_by}
use Rattle.vx_txn.specs.declared.meta.Meta.{Meta}
use Rattle.vx_txn.proofs.Changes.{unchanged_stands}
use Rattle.vx_txn.proofs.Claims.{free_is, owner, same_owners}
use Rattle.vx_txn.proofs.Data.{same_data}
use Rattle.vx_txn.proofs.FreeLaws.{data_high, set_is_free}
use Rattle.vx_txn.proofs.NodeEdits.{empty_shape}
use Rattle.vx_txn.proofs.Settled.{maps_few, maps_settled, settled_here}
use Rattle.vx_txn.proofs.StateLaws.{inode_of_node, inode_of_option, directory_here, file_here, blocks_here, maps_here}

-- ---- which blocks are in use

used_by : (o : Bool) (p : Option ℕ) → (o ≡ true → p ≡ None) → (true && (not (true && (not o && is_none p)) && not (is_some p))) ≡ o
used_by true None h = refl
used_by true (Some x) h = absurd (let e = h refl in cc)
used_by false None h = refl
used_by false (Some x) h = refl

module _ (m : Meta) (s : State) (is : Stands m s) (b : ℕ) where
  pub data_is : is_data_block m.free b ≡ is_data (volume s.layout) b
  data_is = same_data m.free s.layout b (is.is.free_first ∙ is.is.first) (is.is.free_units ∙ sym is.is.units) is.is.per_unit

  -- what an inode has does not wait
  waits_not : is_owned s.layout b ≡ true → s.layout.pending b ≡ None
  waits_not has = let o = owner s.layout b (128 * s.layout.units) has in is.laid_out.use_of_blocks.not_pending o.ino b o.has

  pub owned_used : is_data (volume s.layout) b ≡ true → is_used m.free b ≡ is_owned s.layout b
  owned_used within_data =
      let o : Bool = is_owned s.layout b in
      let p : Option ℕ = s.layout.pending b in
      ap (λ (x : Bool). x && (not (is_in_set m.free b) && not (is_some (place_of m.free b)))) (data_is ∙ within_data)
      ∙ ap (λ (x : Bool). true && (not x && not (is_some (place_of m.free b)))) (set_is_free m.free b is.is.bar (data_is ∙ within_data) ∙ is.is.free b ∙ free_is s.layout b ∙ ap (λ (x : Bool). x && (not o && is_none p)) within_data)
      ∙ ap (λ (q : Option ℕ). true && (not (true && (not o && is_none p)) && not (is_some q))) (is.is.pending b)
      ∙ used_by o p waits_not

-- ---- blocks that wait no longer

kept_by : (upto : ℕ) (p : Option ℕ) → cond (is_before upto p) None p ≡ kept_pending upto p
kept_by upto None = refl
kept_by upto (Some x) = refl

get_kept : (upto : ℕ) (xs : List (Option ℕ)) (i : ℕ) → get_or (map (λ place. cond (is_before upto place) None place) xs) i None ≡ kept_pending upto (get_or xs i None)
get_kept upto [] i = refl
get_kept upto (x ∷ xs) zero = kept_by upto x
get_kept upto (x ∷ xs) (suc i) = get_kept upto xs i

released_by : (o : Bool) (p : Option ℕ) (bit : Bool) (upto : ℕ) → (o ≡ true → p ≡ None) → bit ≡ (not o && is_none p) → (is_before upto p || bit) ≡ (not o && is_none (kept_pending upto p))
released_by o None bit upto h is = is
released_by false (Some x) bit upto h is = elim (cases_Bool (nat_lt x upto)) [
  | inl hit ↦ rw hit refl
  | inr miss ↦ rw (miss, is) refl
]
released_by true (Some x) bit upto h is = absurd (let e = h refl in cc)

module _ (m : Meta) (s : State) (is : Stands m s) (upto : ℕ) where
  not_barred : (b : ℕ) → is_barred m.free b ≡ false
  not_barred b = rw is.is.bar refl

  bit_is : (b : ℕ) → is_data_block m.free b ≡ true → is_in_set m.free b ≡ (not (is_owned s.layout b) && is_none (s.layout.pending b))
  bit_is b within_data =
      let o : Bool = is_owned s.layout b in
      let p : Option ℕ = s.layout.pending b in
      let lhs : is_free_block m.free b ≡ is_in_set m.free b = ap (λ (x : Bool). x && (not (is_barred m.free b) && is_in_set m.free b)) within_data ∙ ap (λ (x : Bool). not x && is_in_set m.free b) (not_barred b) in
      let rhs : is_free s.layout b ≡ (not o && is_none p) = free_is s.layout b ∙ ap (λ (x : Bool). x && (not o && is_none p)) (sym (data_is m s is b) ∙ within_data) in
      sym lhs ∙ is.is.free b ∙ rhs

  free_released : (b : ℕ) → is_free_block (released m.free upto) b ≡ is_free (layout.released s.layout upto) b
  free_released b = elim (cases_Bool (is_data_block m.free b)) [
    | inl within_data ↦
        let o : Bool = is_owned s.layout b in
        let i : ℕ = b - m.free.first in
        let within : i < length m.free.free = (let h = data_high m.free b within_data in let e = is.is.bits in omega arith) in
        let bit : is_in_set (released m.free upto) b ≡ (is_before upto (place_of m.free b) || is_in_set m.free b) =
        get_or-map-range_with_len (λ k. is_before upto (get_or m.free.pending k None) || get_or m.free.free k false) 0 (length m.free.free) i i false within (omega arith) in
        let same : is_owned (layout.released s.layout upto) b ≡ o = same_owners s.layout (layout.released s.layout upto) b (128 * s.layout.units) (λ n. refl) in
        ap (λ (x : Bool). x && (not (is_barred m.free b) && is_in_set (released m.free upto) b)) within_data
        ∙ ap (λ (x : Bool). not x && is_in_set (released m.free upto) b) (not_barred b)
        ∙ bit ∙ ap (λ (o : Option ℕ). is_before upto o || is_in_set m.free b) (is.is.pending b)
        ∙ released_by o (s.layout.pending b) (is_in_set m.free b) upto (waits_not m s is b) (bit_is b within_data)
        ∙ sym (free_is (layout.released s.layout upto) b
        ∙ ap (λ (x : Bool). x && (not (is_owned (layout.released s.layout upto) b) && is_none (kept_pending upto (s.layout.pending b)))) (sym (data_is m s is b) ∙ within_data)
        ∙ ap (λ (x : Bool). not x && is_none (kept_pending upto (s.layout.pending b))) same)
    | inr none ↦ and_left _ _ none ∙ sym (free_is (layout.released s.layout upto) b ∙ and_left _ _ (sym (data_is m s is b) ∙ none))
  ]

  pub released_is : (k : Meta) → k.inodes ≡ m.inodes → ((n : ℕ) → directory_of k n ≡ directory_of m n) → k.free ≡ released m.free upto → k.first ≡ m.first → IsStateOf k (with_released s upto)
  released_is k inodes directories free first = record {
    inodes = λ n. ap (λ (t : Table). inode_at t n) inodes ∙ is.is.inodes n;
    blocks = λ n. is.is.blocks n ∙ ap blocks_in (sym (directories n));
    maps = λ n. is.is.maps n ∙ ap maps_in (sym (directories n));
    kinds = λ n. subst (λ (i : Option Inode). HasDirectory i (directory_of k n)) (sym (ap (λ (t : Table). inode_at t n) inodes)) (subst (HasDirectory (inode_at m.inodes n)) (sym (directories n)) (is.is.kinds n));
    free = λ b. ap (λ (f : FreeMapView). is_free_block f b) free ∙ free_released b;
    pending = λ b. ap (λ (f : FreeMapView). place_of f b) free ∙ get_kept upto m.free.pending (b - m.free.first) ∙ ap (kept_pending upto) (is.is.pending b);
    units = is.is.units ∙ ap (λ (t : Table). t.units) (sym inodes);
    free_units = ap (λ (f : FreeMapView). f.units) free ∙ is.is.free_units ∙ ap (λ (t : Table). t.units) (sym inodes);
    first = first ∙ is.is.first;
    free_first = ap (λ (f : FreeMapView). f.first) free ∙ is.is.free_first ∙ sym first;
    per_unit = ap (λ (f : FreeMapView). f.per_unit) free ∙ is.is.per_unit;
    bar = ap (λ (f : FreeMapView). f.bar) free ∙ is.is.bar;
    bits = ap (λ (f : FreeMapView). length f.free) free ∙ length-map-range_with_len (λ k. is_before upto (get_or m.free.pending k None) || get_or m.free.free k false) 0 (length m.free.free) ∙ is.is.bits ∙ ap (λ (f : FreeMapView). 4096 * f.units) (sym free);
    places = ap (λ (f : FreeMapView). length f.pending) free ∙ length-map m.free.pending (λ place. cond (is_before upto place) None place) ∙ is.is.places ∙ ap (λ (f : FreeMapView). 4096 * f.units) (sym free);
    limit = is.is.limit;
  }

-- ---- what an inode's slot says

module _ (m : Meta) (s : State) (is : Stands m s) (n : ℕ) (i : Inode) (there : inode_at m.inodes n ≡ Some i) where
  directory_value : (d : DirectoryValue) → directory_of m n ≡ Some d → Some (value_by i (Some d)) ≡ inode_value s n
  directory_value d at =
      let h = directory_here m s is n d at in
      let inode : i ≡ inode_of_node (settled_of s.layout n) (IsDirectory h.tree) = same_Some i _ (sym there ∙ h.inode_there) in
      ap (λ (x : Inode). Some (value_by x (Some d))) inode
      ∙ (λ k. Some (value_of (record { extents = stretches (sym (settled_here m s is n d at) k); maps = sym (maps_settled m s is n d at) k; size = 0 }) (inode_of_node (settled_of s.layout n) (IsDirectory h.tree))))
      ∙ sym (ap (option_map (inode_for (settled_of s.layout n))) h.node_there)

  file_value : directory_of m n ≡ None → Some (value_by i None) ≡ inode_value s n
  file_value at =
      let h = file_here m s is n i there at in
      let inode : i ≡ inode_of_node (settled_of s.layout n) (IsFile h.file) = same_Some i _ (sym there ∙ h.inode_there) in
      let settled : settled_at s.layout n ≡ [] = (λ k. pages_from 0 (blocks_here m s is n None at k) ++ (h.nothing.space k).settled) in
      let maps : settled_maps s.layout n ≡ [] = (λ k. take (maps_for (settled k)) (maps_here m s is n None at k)) in
      ap (λ (x : Inode). Some (value_by x None)) inode
      ∙ (λ k. Some (value_of (record { extents = stretches (sym settled k); maps = sym maps k; size = 0 }) (inode_of_node (settled_of s.layout n) (IsFile h.file))))
      ∙ sym (ap (option_map (inode_for (settled_of s.layout n))) h.node_there)

  value_of_option : (o : Option DirectoryValue) → directory_of m n ≡ o → Some (value_by i o) ≡ inode_value s n
  value_of_option None at = file_value at
  value_of_option (Some d) at = directory_value d at

  pub value_is : Some (value_by i (directory_of m n)) ≡ inode_value s n
  value_is = value_of_option (directory_of m n) refl

  few_of_option : (o : Option DirectoryValue) → directory_of m n ≡ o → AreFew o
  few_of_option None at = tt
  few_of_option (Some d) at = let few = maps_few m s is n d at in omega arith

  pub few_are : AreFew (directory_of m n)
  few_are = few_of_option (directory_of m n) refl

-- ---- a new file system

get_replicate : (n i : ℕ) → get_or {A = Option ℕ} (replicate n None) i None ≡ None
get_replicate zero i = refl
get_replicate (suc n) zero = refl
get_replicate (suc n) (suc i) = get_replicate n i

none_owned : (l : Layout) (b n : ℕ) → ((i : ℕ) → owned l i ≡ []) → is_owned_below l b n ≡ false
unfolding is_owned_below
none_owned l b zero none = refl
none_owned l b (suc n) none = rw (none n) (none_owned l b n none)

abbrev pub root_inode : Inode
root_inode = record { kind = kind.Directory; mode = 493; nlink = 1; size = 0; attrs = no_attrs }

module _ (m : Meta) (log_blocks device_sectors : ℕ) (inodes : m.inodes ≡ record { units = 1; inodes = map.insert map.empty 2 root_inode }) (directories : m.directories.items ≡ None ∷ None ∷ Some empty_directory ∷ [])
    (free : m.free ≡ all_free (2 + log_blocks) 4063 1) (first : m.first ≡ 2 + log_blocks) where
  abbrev all : FreeMapView
  all = all_free (2 + log_blocks) 4063 1

  abbrev layout_is : Layout
  layout_is = (fresh log_blocks 64 device_sectors).layout

  all_are_free : (b : ℕ) → is_free_block all b ≡ is_free layout_is b
  all_are_free b =
      let same : is_data_block all b ≡ is_data (volume layout_is) b = same_data all layout_is b refl refl refl in
      let rhs : is_free layout_is b ≡ (is_data (volume layout_is) b && true) = free_is layout_is b ∙ ap (λ (x : Bool). is_data (volume layout_is) b && (not x && true)) (none_owned layout_is b 128 (λ i. refl)) in
      elim (cases_Bool (is_data_block all b)) [
        | inl within_data ↦
            let parts = and_parts _ _ ((and_parts _ _ within_data).1) in
            let bit : is_in_set all b ≡ true =
            get_or-map-range_with_len (λ k. nat_le (4096 - 4063) (k % 4096)) 0 (4096 * 1) (b - (2 + log_blocks)) (b - (2 + log_blocks)) false (data_high all b within_data) (omega arith) ∙ parts.1 in
            ap (λ (x : Bool). x && (not (is_barred all b) && is_in_set all b)) within_data ∙ bit ∙ sym (rhs ∙ ap (λ (x : Bool). x && true) (sym same ∙ within_data))
        | inr none ↦ and_left _ _ none ∙ sym (rhs ∙ and_left _ _ (sym same ∙ none))
      ]

  abbrev nothing_held : Held
  nothing_held = record { extents = []; maps = []; size = 0 }

  inode_fresh : (n : ℕ) → inode_at m.inodes n ≡ inode_of_option nothing_held (map.get (fresh log_blocks 64 device_sectors).tree.nodes n)
  inode_fresh n = ap (λ (t : Table). inode_at t n) inodes ∙ elim (cases_eq n 2) [
    | inl here ↦ subst (λ (x : ℕ). map.get (map.insert (map.empty {R = nat_cmp}) 2 root_inode) x ≡ inode_of_option nothing_held (map.get (fresh log_blocks 64 device_sectors).tree.nodes x)) (sym here)
        (at_key map.empty 2 root_inode ∙ sym (ap (inode_of_option nothing_held) (at_key map.empty 2 (new_directory 493))))
    | inr other ↦ at_other map.empty 2 root_inode n other ∙ map.get-empty nat_cmp n
        ∙ sym (ap (inode_of_option nothing_held) (at_other map.empty 2 (new_directory 493) n other ∙ map.get-empty nat_cmp n))
  ]

  no_blocks : (n : ℕ) → blocks_in (directory_at (None ∷ None ∷ Some empty_directory ∷ []) n) ≡ []
  no_blocks zero = refl
  no_blocks (suc zero) = refl
  no_blocks (suc (suc zero)) = refl
  no_blocks (suc (suc (suc n))) = refl

  no_maps : (n : ℕ) → maps_in (directory_at (None ∷ None ∷ Some empty_directory ∷ []) n) ≡ []
  no_maps zero = refl
  no_maps (suc zero) = refl
  no_maps (suc (suc zero)) = refl
  no_maps (suc (suc (suc n))) = refl

  none_at : (n : ℕ) → n ≢ 2 → HasDirectory None (directory_at (None ∷ None ∷ Some empty_directory ∷ []) n)
  none_at zero ne = tt
  none_at (suc zero) ne = tt
  none_at (suc (suc zero)) ne = absurd (ne refl)
  none_at (suc (suc (suc n))) ne = tt

  kind_fresh : (n : ℕ) → HasDirectory (map.get (map.insert (map.empty {R = nat_cmp}) 2 root_inode) n) (directory_at (None ∷ None ∷ Some empty_directory ∷ []) n)
  kind_fresh n = elim (cases_eq n 2) [
    | inl here ↦ subst (λ (x : ℕ). HasDirectory (map.get (map.insert (map.empty {R = nat_cmp}) 2 root_inode) x) (directory_at (None ∷ None ∷ Some empty_directory ∷ []) x)) (sym here)
        (subst (λ (i : Option Inode). HasDirectory i (Some empty_directory)) (sym (at_key map.empty 2 root_inode)) (refl, empty_shape))
    | inr other ↦ subst (λ (i : Option Inode). HasDirectory i (directory_at (None ∷ None ∷ Some empty_directory ∷ []) n)) (sym (at_other map.empty 2 root_inode n other ∙ map.get-empty nat_cmp n)) (none_at n other)
  ]

  pub fresh_is : IsStateOf m (fresh log_blocks 64 device_sectors)
  fresh_is = record {
    inodes = inode_fresh;
    blocks = λ n. sym (ap (λ (x : List (Option DirectoryValue)). blocks_in (directory_at x n)) directories ∙ no_blocks n);
    maps = λ n. sym (ap (λ (x : List (Option DirectoryValue)). maps_in (directory_at x n)) directories ∙ no_maps n);
    kinds = λ n. subst (λ (x : List (Option DirectoryValue)). HasDirectory (inode_at m.inodes n) (directory_at x n)) (sym directories) (subst (λ (t : Table). HasDirectory (inode_at t n) (directory_at (None ∷ None ∷ Some empty_directory ∷ []) n)) (sym inodes) (kind_fresh n));
    free = λ b. ap (λ (f : FreeMapView). is_free_block f b) free ∙ all_are_free b;
    pending = λ b. ap (λ (f : FreeMapView). place_of f b) free ∙ get_replicate (4096 * 1) (b - (2 + log_blocks));
    units = sym (ap (λ (t : Table). t.units) inodes);
    free_units = ap (λ (f : FreeMapView). f.units) free ∙ sym (ap (λ (t : Table). t.units) inodes);
    first = first;
    free_first = ap (λ (f : FreeMapView). f.first) free ∙ sym first;
    per_unit = ap (λ (f : FreeMapView). f.per_unit) free;
    bar = ap (λ (f : FreeMapView). f.bar) free;
    bits = ap (λ (f : FreeMapView). length f.free) free ∙ length-data_bits 4063 (4096 * 1) ∙ ap (λ (f : FreeMapView). 4096 * f.units) (sym free);
    places = ap (λ (f : FreeMapView). length f.pending) free ∙ length-replicate {A = Option ℕ} (4096 * 1) None ∙ ap (λ (f : FreeMapView). 4096 * f.units) (sym free);
    limit = refl;
  }

-- ---- a state of which an image reads as the tree

held_fresh : (log_blocks device_sectors n : ℕ) → IsHeld (fresh log_blocks 64 device_sectors).layout n (map.get (fresh log_blocks 64 device_sectors).tree.nodes n)
held_fresh log_blocks device_sectors n = elim (cases_eq n 2) [
  | inl here ↦ subst (λ (x : ℕ). IsHeld (fresh log_blocks 64 device_sectors).layout x (map.get (fresh log_blocks 64 device_sectors).tree.nodes x)) (sym here)
      (subst (λ (o : Option Node). IsHeld (fresh log_blocks 64 device_sectors).layout 2 o) (sym (at_key map.empty 2 (new_directory 493)))
      (record { mode = lit≤ tt; entries = refl; spelled = tt; few = lit≤ tt; maps = refl; space = refl }, lit≤ tt, lit< tt))
  | inr other ↦ subst (λ (o : Option Node). IsHeld (fresh log_blocks 64 device_sectors).layout n o) (sym (at_other map.empty 2 (new_directory 493) n other ∙ map.get-empty nat_cmp n)) (record { none = refl; space = refl })
]

pub fresh_laid_out : (log_blocks device_sectors : ℕ) → log_blocks ≤ 2048 → 2 * (2 + log_blocks + 4096) ≤ device_sectors → IsLaidOut (fresh log_blocks 64 device_sectors)
fresh_laid_out log_blocks device_sectors few room = record {
  nodes = held_fresh log_blocks device_sectors;
  use_of_blocks = record {
    once = λ n m b has other. absurd (cc);
    apart = λ n b. lit≤ tt;
    data_blocks = λ n b has. absurd (cc);
    not_pending = λ n b has. refl;
    low = λ n b has. absurd (cc);
  };
  has_root = subst (λ (o : Option Node). IfThere o IsDirectoryNode) (sym (at_key map.empty 2 (new_directory 493))) tt;
  units = lit< tt;
  units_limit = lit≤ tt;
  log_blocks = few;
  limit = lit≤ tt;
  room = omega (arith, room);
  handles = λ key. subst (λ (x : Option Opened). IfSome x (λ (o : Opened). IfThere (map.get (fresh log_blocks 64 device_sectors).tree.nodes o.ino) IsFileNode)) (sym (map.get-empty handle_cmp key)) tt;
  tunables = record { some = lit≤ tt; few = lit≤ tt };
}

sound_by : (s : State) (o : Option Done) (k : Meta) (v : Touched) (reply : Reply) → IfThere o (λ done. IsDone s done k v reply) → IsSound k
sound_by s None k v reply done = absurd done
sound_by s (Some d) k v reply done = record { state = d.state; stands = record { laid_out = done.gone.laid_out; plain = done.gone.plain; is = done.gone.state } }

pub still_sound : (m k : Meta) (s : State) (o : Option Done) (v : Touched) (r : Result (Reply × Reply) AllocError) → Stands m s → IfOk r (λ replies. IfThere o (λ done. IsDone s done k v replies.0)) → OnErr r (IsUnchanged m k) → IsSound k
still_sound m k s o v (Ok replies) is done same = sound_by s o k v replies.0 done
still_sound m k s o v (Err e) is done same = record { state = s; stands = unchanged_stands m k s same is }
