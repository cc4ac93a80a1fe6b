-- Metadata that are loaded to a number, and to the next one.
use Rattle.std.proofs.Common.{◌≡◌, ◌≢◌, ℕ, zero, suc, ◌+◌, ◌-◌, ◌*◌, ◌%◌, ◌<◌, ◌≤◌, Bool, true, false, not, ◌&&◌, List, [], ◌∷◌, ◌++◌, length, get_or, replicate, Option, Some, None, refl, sym, ◌∙◌, ap, subst, arith, inl, inr}
use Rattle.std.specs.Prelude.{◌||◌, is_none, nat_le}
use Rattle.std.specs.Option.{option_map}
use Rattle.std.specs.FinMap as map
use Rattle.std.specs.Ordering.{nat_cmp}
use Rattle.std.proofs.lemmas.Bool.{cases_Bool, cases_eq, cases_lt, and_left, and_parts}
use Rattle.std.proofs.lemmas.List.{length-replicate}
use Rattle.std.proofs.lemmas.List.FromFn.{get_or-map-range_with_len}
use Rattle.std.proofs.lemmas.Option.{none-some, same_Some}
use Rattle.vx_alloc.proofs.Bits.{length-data_bits}
use Rattle.vx_alloc.specs.FreeMaps.{FreeMapView, all_free, is_data as is_data_block, is_free as is_free_block, is_in_set, is_barred, place_of}
use Rattle.vx_base.proofs.Maps.{at_key, at_other}
use Rattle.vx_base.specs.declared.inode.Inode.{Inode}
use Rattle.vx_base.specs.declared.inode.InodeValue.{InodeValue}
use Rattle.vx_base.specs.declared.kind.FileKind.TheVariants as kind
use Rattle.vx_filemaps.specs.FileMaps.{HasTaken}
use Rattle.vx_inode.specs.Tables.{Table, inode_at, with_inode}
use Rattle.vx_layout.specs.Places.{is_data}
use Rattle.vx_model.specs.Contents.{Held, inode_value, settled_of}
use Rattle.vx_model.specs.Images.{among}
use Rattle.vx_model.specs.LaidOut.{IsHeld, HasNothing, IsLaidOut}
use Rattle.vx_model.specs.Layout.{Layout, DirectoryBlock, volume, blocks_at, block_numbers, maps_at, space_at, owned, is_owned, is_owned_below}
use Rattle.vx_model.specs.State.{State}
use Rattle.vx_model.specs.Tree.{Node, IsFile, IsDirectory}
use Rattle.vx_space.specs.Space.{page_blocks}
use Rattle.vx_txn.specs.Directories.{DirectoryValue, blocks_in, maps_in, directory_at}
use Rattle.vx_txn.specs.Loads.{HasSizes, IsFileThere, IsLoadedTo, LoadingLaws, inode_in}
use Rattle.vx_txn.specs.Metas.{HasDirectory, IsStateOf, directory_of}
use Rattle.vx_txn.specs.declared.meta.Meta.{Meta}
use Rattle.vx_txn.proofs.Claims.{free_is}
use Rattle.vx_txn.proofs.Data.{same_data}
use Rattle.vx_txn.proofs.FreeLaws.{data_high}
use Rattle.vx_txn.proofs.StateLaws.{inode_of_node, inode_of_option}

-- ---- blocks that the inodes below a number have

none_below : (l : Layout) (b : ℕ) → is_owned_below l b 0 ≡ false
unfolding is_owned_below
none_below l b = refl

suc_below : (l : Layout) (b n : ℕ) → is_owned_below l b (suc n) ≡ (among (owned l n) b || is_owned_below l b n)
unfolding is_owned_below
suc_below l b n = refl

more_below : (l : Layout) (b n : ℕ) → is_owned_below l b (n + 1) ≡ (among (owned l n) b || is_owned_below l b n)
more_below l b n = let e : n + 1 ≡ suc n = omega arith in ap (is_owned_below l b) e ∙ suc_below l b n

-- ---- no inode

all_are_free : (l : Layout) (b : ℕ) → is_free_block (all_free (2 + l.log_blocks) 4063 l.units) b ≡ (is_data (volume l) b && not (is_owned_below l b 0))
all_are_free l b =
    let all : FreeMapView = all_free (2 + l.log_blocks) 4063 l.units in
    let same : is_data_block all b ≡ is_data (volume l) b = same_data all l b refl refl refl in
    let rhs : (is_data (volume l) b && not (is_owned_below l b 0)) ≡ (is_data (volume l) b && true) = ap (λ (x : Bool). is_data (volume l) b && not x) (none_below l b) in
    elim (cases_Bool (is_data_block all b)) [
      | inl within_data ↦
          let parts = and_parts _ _ ((and_parts _ _ within_data).1) in
          let bit : is_in_set all b ≡ true =
          get_or-map-range_with_len (λ k. nat_le (4096 - 4063) (k % 4096)) 0 (4096 * l.units) (b - (2 + l.log_blocks)) (b - (2 + l.log_blocks)) false (data_high all b within_data) (omega arith) ∙ parts.1 in
          ap (λ (x : Bool). x && (not (is_barred all b) && is_in_set all b)) within_data ∙ bit ∙ sym (rhs ∙ ap (λ (x : Bool). x && true) (sym same ∙ within_data))
      | inr none ↦ and_left _ _ none ∙ sym (rhs ∙ and_left _ _ (sym same ∙ none))
    ]

get_replicate : (n i : ℕ) → get_or {A = Option ℕ} (replicate n None) i None ≡ None
get_replicate zero i = refl
get_replicate (suc n) zero = refl
get_replicate (suc n) (suc i) = get_replicate n i

module _ (m : Meta) (s : State) (log_blocks units : ℕ) (sizes : HasSizes s log_blocks units) (inodes : m.inodes ≡ record { units = units; inodes = map.empty }) (directories : m.directories.items ≡ [])
    (free : m.free ≡ all_free (2 + log_blocks) 4063 units) (first : m.first ≡ 2 + log_blocks) where
  all_is : all_free (2 + log_blocks) 4063 units ≡ all_free (2 + s.layout.log_blocks) 4063 s.layout.units
  all_is = λ i. all_free (2 + sym sizes.log i) 4063 (sym sizes.units_are i)

  none_at : (k : ℕ) → inode_at m.inodes k ≡ None
  none_at k = ap (λ (t : Table). inode_at t k) inodes ∙ map.get-empty nat_cmp k

  units_are : m.inodes.units ≡ units
  units_are = ap (λ (t : Table). t.units) inodes

  pub empty_is : IsLoadedTo s 0 m
  empty_is = record {
    inodes = λ k lt. absurd (omega arith);
    no_others = λ k le. none_at k;
    blocks = λ k lt. absurd (omega arith);
    maps = λ k lt. absurd (omega arith);
    kinds = λ k. subst (λ (o : Option Inode). HasDirectory o (directory_of m k)) (sym (none_at k)) (subst (λ (x : List (Option DirectoryValue)). HasDirectory None (directory_at x k)) (sym directories) tt);
    free = λ b. ap (λ (f : FreeMapView). is_free_block f b) (free ∙ all_is) ∙ all_are_free s.layout b;
    pending = λ b. ap (λ (f : FreeMapView). place_of f b) free ∙ get_replicate (4096 * units) (b - (2 + log_blocks));
    units = sizes.units_are ∙ sym units_are;
    free_units = ap (λ (f : FreeMapView). f.units) free ∙ sym units_are;
    first = first ∙ ap (λ (x : ℕ). 2 + x) (sym sizes.log);
    free_first = ap (λ (f : FreeMapView). f.first) free ∙ sym first;
    per_unit = ap (λ (f : FreeMapView). f.per_unit) free;
    bar = ap (λ (f : FreeMapView). f.bar) free;
    bits = ap (λ (f : FreeMapView). length f.free) free ∙ length-data_bits 4063 (4096 * units) ∙ ap (λ (f : FreeMapView). 4096 * f.units) (sym free);
    places = ap (λ (f : FreeMapView). length f.pending) free ∙ length-replicate {A = Option ℕ} (4096 * units) None ∙ ap (λ (f : FreeMapView). 4096 * f.units) (sym free);
    limit = sizes.limit;
  }

-- ---- an inode more

but_two : (d a b : Bool) → ((d && not a) && not b) ≡ (d && not (b || a))
but_two false a b = refl
but_two true true true = refl
but_two true true false = refl
but_two true false true = refl
but_two true false false = refl

module _ (m k : Meta) (s : State) (n : ℕ) (is : IsLoadedTo s n m) (inode : Inode) (o : Option DirectoryValue) (there : inode_in s n ≡ Some inode) (inodes : k.inodes ≡ with_inode m.inodes n inode)
    (here : directory_of k n ≡ o) (others : (q : ℕ) → q ≢ n → directory_of k q ≡ directory_of m q) (has : HasDirectory (Some inode) o) (blocks : blocks_at s.layout n ≡ blocks_in o) (maps : maps_at s.layout n ≡ maps_in o)
    (free : (b : ℕ) → is_free_block k.free b ≡ (is_free_block m.free b && not (among (owned s.layout n) b))) (taken : HasTaken m.free k.free) (first : k.first ≡ m.first) where
  inode_here : inode_at k.inodes n ≡ Some inode
  inode_here = ap (λ (t : Table). inode_at t n) inodes ∙ at_key m.inodes.inodes n inode

  inode_other : (q : ℕ) → q ≢ n → inode_at k.inodes q ≡ inode_at m.inodes q
  inode_other q ne = ap (λ (t : Table). inode_at t q) inodes ∙ at_other m.inodes.inodes n inode q ne

  same_units : m.inodes.units ≡ k.inodes.units
  same_units = ap (λ (t : Table). t.units) (sym inodes)

  pub loaded_more : IsLoadedTo s (n + 1) k
  loaded_more = record {
    inodes = λ q lt. elim (cases_eq q n) [
      | inl e ↦ subst (λ (x : ℕ). inode_at k.inodes x ≡ inode_in s x) (sym e) (inode_here ∙ sym there)
      | inr ne ↦ inode_other q ne ∙ is.inodes q (omega arith)
    ];
    no_others = λ q le. inode_other q (λ e. absurd (omega arith)) ∙ is.no_others q (omega arith);
    blocks = λ q lt. elim (cases_eq q n) [
      | inl e ↦ subst (λ (x : ℕ). blocks_at s.layout x ≡ blocks_in (directory_of k x)) (sym e) (blocks ∙ ap blocks_in (sym here))
      | inr ne ↦ is.blocks q (omega arith) ∙ ap blocks_in (sym (others q ne))
    ];
    maps = λ q lt. elim (cases_eq q n) [
      | inl e ↦ subst (λ (x : ℕ). maps_at s.layout x ≡ maps_in (directory_of k x)) (sym e) (maps ∙ ap maps_in (sym here))
      | inr ne ↦ is.maps q (omega arith) ∙ ap maps_in (sym (others q ne))
    ];
    kinds = λ q. elim (cases_eq q n) [
      | inl e ↦ subst (λ (x : ℕ). HasDirectory (inode_at k.inodes x) (directory_of k x)) (sym e)
          (subst (λ (i : Option Inode). HasDirectory i (directory_of k n)) (sym inode_here) (subst (HasDirectory (Some inode)) (sym here) has))
      | inr ne ↦ subst (λ (i : Option Inode). HasDirectory i (directory_of k q)) (sym (inode_other q ne)) (subst (HasDirectory (inode_at m.inodes q)) (sym (others q ne)) (is.kinds q))
    ];
    free = λ b.
        free b ∙ ap (λ (x : Bool). x && not (among (owned s.layout n) b)) (is.free b)
        ∙ but_two (is_data (volume s.layout) b) (is_owned_below s.layout b n) (among (owned s.layout n) b)
        ∙ ap (λ (x : Bool). is_data (volume s.layout) b && not x) (sym (more_below s.layout b n));
    pending = λ b. ap (λ (f : FreeMapView). place_of f b) taken.rest ∙ is.pending b;
    units = is.units ∙ same_units;
    free_units = ap (λ (f : FreeMapView). f.units) taken.rest ∙ is.free_units ∙ same_units;
    first = first ∙ is.first;
    free_first = ap (λ (f : FreeMapView). f.first) taken.rest ∙ is.free_first ∙ sym first;
    per_unit = ap (λ (f : FreeMapView). f.per_unit) taken.rest ∙ is.per_unit;
    bar = ap (λ (f : FreeMapView). f.bar) taken.rest ∙ is.bar;
    bits = taken.bits ∙ is.bits ∙ ap (λ (f : FreeMapView). 4096 * f.units) (sym taken.rest);
    places = ap (λ (f : FreeMapView). length f.pending) taken.rest ∙ is.places ∙ ap (λ (f : FreeMapView). 4096 * f.units) (sym taken.rest);
    limit = is.limit;
  }

-- ---- where nothing is

nil_left : {X : Type 0} (xs ys : List X) → xs ++ ys ≡ [] → xs ≡ []
nil_left [] ys none = refl
nil_left (x ∷ xs) ys none = absurd (omega (arith, ap length none))

nil_right : {X : Type 0} (xs ys : List X) → xs ++ ys ≡ [] → ys ≡ []
nil_right [] ys none = none
nil_right (x ∷ xs) ys none = absurd (omega (arith, ap length none))

no_numbers : (bs : List DirectoryBlock) → block_numbers bs ≡ [] → bs ≡ []
no_numbers [] none = refl
no_numbers (b ∷ bs) none = absurd (omega (arith, ap length none))

module _ (l : Layout) (n : ℕ) (nothing : HasNothing l n) where
  pub no_blocks : blocks_at l n ≡ []
  no_blocks = no_numbers (blocks_at l n) (nil_left (block_numbers (blocks_at l n)) _ nothing.none)

  pub no_maps : maps_at l n ≡ []
  no_maps = nil_right (page_blocks (space_at l n).present) (maps_at l n) (nil_right (block_numbers (blocks_at l n)) _ nothing.none)

  pub none_owned : (b : ℕ) → among (owned l n) b ≡ false
  none_owned b = ap (λ (xs : List ℕ). among xs b) nothing.none

pub no_directory : (o : Option DirectoryValue) → HasDirectory None o → o ≡ None
no_directory None has = refl
no_directory (Some d) has = absurd has

module _ (m : Meta) (s : State) (n : ℕ) (is : IsLoadedTo s n m) where
  -- no directory stands at a number to which nothing is loaded
  pub none_yet : (q : ℕ) → n ≤ q → directory_of m q ≡ None
  none_yet q le = no_directory (directory_of m q) (subst (λ (o : Option Inode). HasDirectory o (directory_of m q)) (is.no_others q le) (is.kinds q))

  pub passed_over : HasNothing s.layout n → inode_in s n ≡ None → IsLoadedTo s (n + 1) m
  passed_over nothing none = record {
    inodes = λ q lt. elim (cases_eq q n) [
      | inl e ↦ subst (λ (x : ℕ). inode_at m.inodes x ≡ inode_in s x) (sym e) (is.no_others n (omega arith) ∙ sym none)
      | inr ne ↦ is.inodes q (omega arith)
    ];
    no_others = λ q le. is.no_others q (omega arith);
    blocks = λ q lt. elim (cases_eq q n) [
      | inl e ↦ subst (λ (x : ℕ). blocks_at s.layout x ≡ blocks_in (directory_of m x)) (sym e) (no_blocks s.layout n nothing ∙ ap blocks_in (sym (none_yet n (omega arith))))
      | inr ne ↦ is.blocks q (omega arith)
    ];
    maps = λ q lt. elim (cases_eq q n) [
      | inl e ↦ subst (λ (x : ℕ). maps_at s.layout x ≡ maps_in (directory_of m x)) (sym e) (no_maps s.layout n nothing ∙ ap maps_in (sym (none_yet n (omega arith))))
      | inr ne ↦ is.maps q (omega arith)
    ];
    kinds = is.kinds;
    free = λ b. is.free b ∙ ap (λ (x : Bool). is_data (volume s.layout) b && not x) (sym (more_below s.layout b n ∙ ap (λ (x : Bool). x || is_owned_below s.layout b n) (none_owned s.layout n nothing b)));
    pending = is.pending;
    units = is.units;
    free_units = is.free_units;
    first = is.first;
    free_first = is.free_first;
    per_unit = is.per_unit;
    bar = is.bar;
    bits = is.bits;
    places = is.places;
    limit = is.limit;
  }

unnamed : (l : Layout) (n : ℕ) (h : Held) (stands : Option Node) → IsHeld l n stands → inode_of_option h stands ≡ None → HasNothing l n
unnamed l n h None held none = held
unnamed l n h (Some node) held none = absurd (none-some _ (sym none))

past_units : (l : Layout) (n : ℕ) (h : Held) (stands : Option Node) → IsHeld l n stands → 128 * l.units ≤ n → HasNothing l n × (inode_of_option h stands ≡ None)
past_units l n h None held past = (held, refl)
past_units l n h (Some node) held past = let high = held.2 in absurd (omega arith)

none_passed : (s : State) (n : ℕ) (m : Meta) → IsLaidOut s → IsLoadedTo s n m → inode_value s n ≡ None → IsLoadedTo s (n + 1) m
none_passed s n m laid is none =
    let inode : inode_in s n ≡ None = ap (option_map (λ (v : InodeValue). v.inode)) none in
    passed_over m s n is (unnamed s.layout n (settled_of s.layout n) (map.get s.tree.nodes n) (laid.nodes n) inode) inode

-- ---- all inodes

module _ (s : State) (m : Meta) (laid : IsLaidOut s) (waits : (b : ℕ) → s.layout.pending b ≡ None) (is : IsLoadedTo s (128 * s.layout.units) m) where
  beyond : (q : ℕ) → 128 * s.layout.units ≤ q → HasNothing s.layout q × (inode_in s q ≡ None)
  beyond q past = past_units s.layout q (settled_of s.layout q) (map.get s.tree.nodes q) (laid.nodes q) past

  with_true : (d o : Bool) → (d && not o) ≡ (d && (not o && true))
  with_true false o = refl
  with_true true true = refl
  with_true true false = refl

  all_loaded : IsStateOf m s
  all_loaded = record {
    inodes = λ q. elim (cases_lt q (128 * s.layout.units)) [
      | inl lt ↦ is.inodes q lt
      | inr past ↦ is.no_others q past ∙ sym (beyond q past).1
    ];
    blocks = λ q. elim (cases_lt q (128 * s.layout.units)) [
      | inl lt ↦ is.blocks q lt
      | inr past ↦ no_blocks s.layout q (beyond q past).0 ∙ ap blocks_in (sym (none_yet m s (128 * s.layout.units) is q past))
    ];
    maps = λ q. elim (cases_lt q (128 * s.layout.units)) [
      | inl lt ↦ is.maps q lt
      | inr past ↦ no_maps s.layout q (beyond q past).0 ∙ ap maps_in (sym (none_yet m s (128 * s.layout.units) is q past))
    ];
    kinds = is.kinds;
    free = λ b.
        is.free b ∙ with_true (is_data (volume s.layout) b) (is_owned s.layout b)
        ∙ sym (free_is s.layout b ∙ ap (λ (p : Option ℕ). is_data (volume s.layout) b && (not (is_owned s.layout b) && is_none p)) (waits b));
    pending = λ b. is.pending b ∙ sym (waits b);
    units = is.units;
    free_units = is.free_units;
    first = is.first;
    free_first = is.free_first;
    per_unit = is.per_unit;
    bar = is.bar;
    bits = is.bits;
    places = is.places;
    limit = is.limit;
  }

pub loading : LoadingLaws
loading = record { none = none_passed; whole = all_loaded }

-- ---- a file

pub record FileFacts (s : State) (n : ℕ) (inode : Inode) : Type 0 where
  pub low : 2 ≤ n
  pub high : n < 128 * s.layout.units
  pub links : inode.nlink ≤ 32767

file_by : (s : State) (n : ℕ) (h : Held) (stands : Option Node) (inode : Inode) → IsHeld s.layout n stands → inode_of_option h stands ≡ Some inode → inode.kind ≡ kind.File → FileFacts s n inode
file_by s n h None inode held is k = absurd (none-some inode is)
file_by s n h (Some (IsFile f)) inode held is k =
    let e : inode_of_node h (IsFile f) ≡ inode = same_Some _ _ is in
    let links : f.nlink ≡ inode.nlink = ap (λ (i : Inode). i.nlink) e in
    record { low = held.1; high = held.2; links = subst (λ (x : ℕ). x ≤ 32767) links held.0.few_links }
file_by s n h (Some (IsDirectory t)) inode held is k =
    let e : inode_of_node h (IsDirectory t) ≡ inode = same_Some _ _ is in
    let other : kind.Directory ≡ inode.kind = ap (λ (i : Inode). i.kind) e in
    absurd (cc (other, k))

module _ (s : State) (n : ℕ) (inode : Inode) (laid : IsLaidOut s) (there : IsFileThere s n inode) where
  pub file_facts : FileFacts s n inode
  file_facts = file_by s n (settled_of s.layout n) (map.get s.tree.nodes n) inode (laid.nodes n) there.inode_is there.kind_is

  pub file_loaded : (m k : Meta) → IsLoadedTo s n m → k.inodes ≡ with_inode m.inodes n inode → ((q : ℕ) → directory_of k q ≡ directory_of m q) → k.free ≡ m.free → k.first ≡ m.first → IsLoadedTo s (n + 1) k
  file_loaded m k is inodes directories free first =
      let nothing = there.nothing in
      loaded_more m k s n is inode None there.inode_is inodes (directories n ∙ none_yet m s n is n (omega arith)) (λ q ne. directories q) there.kind_is (no_blocks s.layout n nothing) (no_maps s.layout n nothing)
      (λ b. ap (λ (f : FreeMapView). is_free_block f b) free ∙ sym (ap (λ (x : Bool). is_free_block m.free b && not x) (none_owned s.layout n nothing b) ∙ and_all (is_free_block m.free b)))
      (subst (HasTaken m.free) (sym free) (record { rest = refl; bits = refl })) first
    where
      and_all : (x : Bool) → (x && true) ≡ x
      and_all true = refl
      and_all false = refl
