-- The metadata and their state after a change at one number.
use Rattle.std.proofs.Common.{◌≡◌, ◌≢◌, ℕ, ◌+◌, ◌*◌, [], ◌∷◌, ◌++◌, length, Option, Some, None, refl, sym, ◌∙◌, ap, subst, inl, inr, append-nil}
use Rattle.std.specs.FinMap as map
use Rattle.std.proofs.lemmas.Bool.{cases_eq}
use Rattle.vx_alloc.specs.FreeMaps.{FreeMapView, is_free as is_free_block, place_of}
use Rattle.vx_base.proofs.Maps.{at_key, at_other}
use Rattle.vx_base.specs.declared.inode.Inode.{Inode}
use Rattle.vx_inode.specs.Tables.{Table, inode_at, with_inode, with_change, changed_from}
use Rattle.vx_model.specs.EditLaws.{EditLaws}
use Rattle.vx_model.specs.Edits.{set_node}
use Rattle.vx_model.specs.LaidOut.{IsLaidOut, IsPlain}
use Rattle.vx_model.specs.Contents.{settled_of}
use Rattle.vx_model.specs.Layout.{Layout, blocks_at, maps_at, space_at, is_free}
use Rattle.vx_model.specs.State.{State}
use Rattle.vx_model.specs.Touching.{Touched, IsTouched, joined, inode_touched, entries_touched}
use Rattle.vx_model.specs.Tree.{Node}
use Rattle.vx_txn.specs.Calls.{HasGone}
use Rattle.vx_txn.specs.Directories.{DirectoryValue, blocks_in, maps_in}
use Rattle.vx_txn.specs.Metas.{HasDirectory, directory_of, IsStateOf, IsUnchanged, Stands}
use Rattle.vx_txn.specs.declared.meta.Meta.{Meta}
use Rattle.vx_txn.proofs.StateLaws.{inode_of_node, inode_of_option, same_held}

pub record MetaChange (m k : Meta) (at : ℕ) : Type 0 where
  pub inodes : (n : ℕ) → n ≢ at → inode_at k.inodes n ≡ inode_at m.inodes n
  pub directories : (n : ℕ) → n ≢ at → directory_of k n ≡ directory_of m n
  pub units : k.inodes.units ≡ m.inodes.units
  pub first : k.first ≡ m.first

pub record StateChange (s t : State) (at : ℕ) : Type 0 where
  pub nodes : (n : ℕ) → n ≢ at → map.get t.tree.nodes n ≡ map.get s.tree.nodes n
  pub blocks : (n : ℕ) → n ≢ at → blocks_at t.layout n ≡ blocks_at s.layout n
  pub maps : (n : ℕ) → n ≢ at → maps_at t.layout n ≡ maps_at s.layout n
  pub spaces : (n : ℕ) → n ≢ at → space_at t.layout n ≡ space_at s.layout n
  pub units : t.layout.units ≡ s.layout.units
  pub log_blocks : t.layout.log_blocks ≡ s.layout.log_blocks
  pub limit : t.layout.directory_limit ≡ s.layout.directory_limit

-- what stands at the number after the change
pub record ChangedAt (k : Meta) (t : State) (at : ℕ) : Type 0 where
  pub inode : inode_at k.inodes at ≡ inode_of_option (settled_of t.layout at) (map.get t.tree.nodes at)
  pub blocks : blocks_at t.layout at ≡ blocks_in (directory_of k at)
  pub maps : maps_at t.layout at ≡ maps_in (directory_of k at)
  pub kind : HasDirectory (inode_at k.inodes at) (directory_of k at)

-- the free blocks after the change
pub record FreeAfter (f g : FreeMapView) (l : Layout) : Type 0 where
  pub free : (b : ℕ) → is_free_block g b ≡ is_free l b
  pub pending : (b : ℕ) → place_of g b ≡ l.pending b
  pub units : g.units ≡ f.units
  pub first : g.first ≡ f.first
  pub per_unit : g.per_unit ≡ f.per_unit
  pub bar : g.bar ≡ f.bar
  pub bits : length g.free ≡ length f.free
  pub places : length g.pending ≡ length f.pending

module _ (m k : Meta) (s t : State) (at : ℕ) (is : IsStateOf m s) (meta : MetaChange m k at) (state : StateChange s t at) where
  pub edited : ChangedAt k t at → FreeAfter m.free k.free t.layout → IsStateOf k t
  edited here free = record {
    inodes = λ n. elim (cases_eq n at) [
      | inl same ↦ subst (λ (x : ℕ). inode_at k.inodes x ≡ inode_of_option (settled_of t.layout x) (map.get t.tree.nodes x)) (sym same) here.inode
      | inr other ↦ meta.inodes n other ∙ is.inodes n ∙ (λ i. inode_of_option (sym (same_held s.layout t.layout n (state.blocks n other) (state.maps n other) (state.spaces n other)) i) (sym (state.nodes n other) i))
    ];
    blocks = λ n. elim (cases_eq n at) [
      | inl same ↦ subst (λ (x : ℕ). blocks_at t.layout x ≡ blocks_in (directory_of k x)) (sym same) here.blocks
      | inr other ↦ state.blocks n other ∙ is.blocks n ∙ ap blocks_in (sym (meta.directories n other))
    ];
    maps = λ n. elim (cases_eq n at) [
      | inl same ↦ subst (λ (x : ℕ). maps_at t.layout x ≡ maps_in (directory_of k x)) (sym same) here.maps
      | inr other ↦ state.maps n other ∙ is.maps n ∙ ap maps_in (sym (meta.directories n other))
    ];
    kinds = λ n. elim (cases_eq n at) [
      | inl same ↦ subst (λ (x : ℕ). HasDirectory (inode_at k.inodes x) (directory_of k x)) (sym same) here.kind
      | inr other ↦
          subst (λ (i : Option Inode). HasDirectory i (directory_of k n)) (sym (meta.inodes n other))
          (subst (HasDirectory (inode_at m.inodes n)) (sym (meta.directories n other)) (is.kinds n))
    ];
    free = free.free;
    pending = free.pending;
    units = state.units ∙ is.units ∙ sym meta.units;
    free_units = free.units ∙ is.free_units ∙ sym meta.units;
    first = meta.first ∙ is.first ∙ ap (λ (x : ℕ). 2 + x) (sym state.log_blocks);
    free_first = free.first ∙ is.free_first ∙ sym meta.first;
    per_unit = free.per_unit ∙ is.per_unit;
    bar = free.bar ∙ is.bar;
    bits = free.bits ∙ is.bits ∙ ap (λ (x : ℕ). 4096 * x) (sym free.units);
    places = free.places ∙ is.places ∙ ap (λ (x : ℕ). 4096 * x) (sym free.units);
    limit = state.limit ∙ is.limit;
  }

-- the free blocks stay as they were
pub free_kept : (m k : Meta) (s : State) (l : Layout) → IsStateOf m s → k.free ≡ m.free → ((b : ℕ) → is_free l b ≡ is_free s.layout b) → ((b : ℕ) → l.pending b ≡ s.layout.pending b) → FreeAfter m.free k.free l
free_kept m k s l is same free pending = record {
  free = λ b. ap (λ (f : FreeMapView). is_free_block f b) same ∙ is.free b ∙ sym (free b);
  pending = λ b. ap (λ (f : FreeMapView). place_of f b) same ∙ is.pending b ∙ sym (pending b);
  units = ap (λ (f : FreeMapView). f.units) same;
  first = ap (λ (f : FreeMapView). f.first) same;
  per_unit = ap (λ (f : FreeMapView). f.per_unit) same;
  bar = ap (λ (f : FreeMapView). f.bar) same;
  bits = ap (λ (f : FreeMapView). length f.free) same;
  places = ap (λ (f : FreeMapView). length f.pending) same;
}

-- ---- an inode that is set

-- the node's kind decides what directory it has
pub same_kind : (i j : Inode) (o : Option DirectoryValue) → j.kind ≡ i.kind → HasDirectory (Some i) o → HasDirectory (Some j) o
same_kind i j None e has = e ∙ has
same_kind i j (Some d) e has = (e ∙ has.0, has.1)

pub set_state : (m k : Meta) (s : State) (at : ℕ) (node : Node) → IsStateOf m s → MetaChange m k at → k.free ≡ m.free → inode_at k.inodes at ≡ Some (inode_of_node (settled_of s.layout at) node)
    → blocks_at s.layout at ≡ blocks_in (directory_of k at) → maps_at s.layout at ≡ maps_in (directory_of k at) → HasDirectory (inode_at k.inodes at) (directory_of k at) → IsStateOf k (set_node s at node)
set_state m k s at node is meta free inode blocks maps kind =
    edited m k s (set_node s at node) at is meta
    (record { nodes = λ n ne. at_other s.tree.nodes at node n ne; blocks = λ n ne. refl; maps = λ n ne. refl; spaces = λ n ne. refl; units = refl; log_blocks = refl; limit = refl })
    (record { inode = inode ∙ ap (inode_of_option (settled_of s.layout at)) (sym (at_key s.tree.nodes at node)); blocks = blocks; maps = maps; kind = kind })
    (free_kept m k s s.layout is free (λ b. refl) (λ b. refl))

-- a table with one inode set
pub change_at : (t : Table) (at : ℕ) (f : Inode → Inode) (i : Inode) → inode_at t at ≡ Some i → with_change t at f ≡ with_inode t at (f i)
change_at t at f i is = ap (changed_from t at f) is

module _ (m k : Meta) (at : ℕ) (i : Inode) (inodes : k.inodes ≡ with_inode m.inodes at i) where
  pub set_here : inode_at k.inodes at ≡ Some i
  set_here = ap (λ (t : Table). inode_at t at) inodes ∙ at_key m.inodes.inodes at i

  pub set_change : ((n : ℕ) → n ≢ at → directory_of k n ≡ directory_of m n) → k.first ≡ m.first → MetaChange m k at
  set_change directories first = record {
    inodes = λ n ne. ap (λ (t : Table). inode_at t n) inodes ∙ at_other m.inodes.inodes at i n ne;
    directories = directories;
    units = ap (λ (t : Table). t.units) inodes;
    first = first;
  }

-- ---- what has been touched

pub touched_inode : (t : Touched) (n : ℕ) → record t { inodes = t.inodes ++ n ∷ [] } ≡ joined t (inode_touched n)
touched_inode t n = rw (append-nil t.blocks, append-nil t.maps, append-nil t.units) refl

pub touched_entries : (t : Touched) (n i : ℕ) → record t { blocks = t.blocks ++ record { ino = n; index = i } ∷ [] } ≡ joined t (entries_touched n i)
touched_entries t n i = rw (append-nil t.inodes, append-nil t.maps, append-nil t.units) refl

pub next_gone : (laws : EditLaws) (base s new : State) (m k : Meta) (t u v : Touched) → HasGone base s m t → IsStateOf k new → IsLaidOut new → IsPlain new → IsTouched s new u → v ≡ joined t u → HasGone base new k v
next_gone laws base s new m k t u v gone is laid_out plain touched same = record {
  state = is;
  laid_out = laid_out;
  plain = plain;
  touched = subst (λ (x : Touched). IsTouched base new x) (sym same) (laws.next base s new t u gone.touched touched);
}

pub stands_of : (base s : State) (m : Meta) (t : Touched) → HasGone base s m t → Stands m s
stands_of base s m t gone = record { laid_out = gone.laid_out; plain = gone.plain; is = gone.state }

-- ---- nothing has changed

pub unchanged_state : (m k : Meta) (s : State) → IsUnchanged m k → IsStateOf m s → IsStateOf k s
unchanged_state m k s same is = record {
  inodes = λ n. ap (λ (t : Table). inode_at t n) same.inodes ∙ is.inodes n;
  blocks = λ n. is.blocks n ∙ ap blocks_in (sym (same.directories n));
  maps = λ n. is.maps n ∙ ap maps_in (sym (same.directories n));
  kinds = λ n. subst (λ (i : Option Inode). HasDirectory i (directory_of k n)) (sym (ap (λ (t : Table). inode_at t n) same.inodes)) (subst (HasDirectory (inode_at m.inodes n)) (sym (same.directories n)) (is.kinds n));
  free = λ b. ap (λ (f : FreeMapView). is_free_block f b) same.free ∙ is.free b;
  pending = λ b. ap (λ (f : FreeMapView). place_of f b) same.free ∙ is.pending b;
  units = is.units ∙ ap (λ (t : Table). t.units) (sym same.inodes);
  free_units = ap (λ (f : FreeMapView). f.units) same.free ∙ is.free_units ∙ ap (λ (t : Table). t.units) (sym same.inodes);
  first = same.first ∙ is.first;
  free_first = ap (λ (f : FreeMapView). f.first) same.free ∙ is.free_first ∙ sym same.first;
  per_unit = ap (λ (f : FreeMapView). f.per_unit) same.free ∙ is.per_unit;
  bar = ap (λ (f : FreeMapView). f.bar) same.free ∙ is.bar;
  bits = ap (λ (f : FreeMapView). length f.free) same.free ∙ is.bits ∙ ap (λ (f : FreeMapView). 4096 * f.units) (sym same.free);
  places = ap (λ (f : FreeMapView). length f.pending) same.free ∙ is.places ∙ ap (λ (f : FreeMapView). 4096 * f.units) (sym same.free);
  limit = is.limit;
}

pub unchanged_stands : (m k : Meta) (s : State) → IsUnchanged m k → Stands m s → Stands k s
unchanged_stands m k s same is = record { laid_out = is.laid_out; plain = is.plain; is = unchanged_state m k s same is.is }
