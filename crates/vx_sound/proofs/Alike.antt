-- Whether an image is sound is for the sectors of its volume to say.
use Rattle.std.proofs.Common.{◌≡◌, ◌≢◌, ◌⊎◌, ℕ, zero, suc, ◌+◌, ◌*◌, ◌/◌, ◌%◌, ◌<◌, ◌≤◌, Bool, true, false, cond, List, [], ◌∷◌, ◌++◌, map, length, take, get_or, Option, Some, None, refl, sym, ap, ap₂, subst, ◌∙◌, arith, inl, inr}
use Rattle.std.specs.Prelude.{◌||◌, ◌==◌, nat_lt, is_some, IsTrue, IfSome, Contains}
use Rattle.std.specs.Option.{option_map, option_and_then, unwrap_or}
use Rattle.std.specs.List.{flat_map, count_by, AllByRecursion}
use Rattle.std.proofs.lemmas.Bool.{cases_lt, le-ltb, eqb-true}
use Rattle.std.proofs.Math.Nat.{mul-le-mul_right}
use Rattle.std.proofs.Math.Path.{fun_ext}
use Rattle.vx_base.specs.declared.kind.FileKind.{FileKind}
use Rattle.vx_base.specs.declared.kind.FileKind.TheVariants.{File, Directory}
use Rattle.vx_base.specs.declared.inode.InodeValue.{InodeValue}
use Rattle.vx_base.specs.declared.inode.DirEntry.{DirEntry}
use Rattle.vx_layout.specs.Places.{Volume, Place, outside, bits, slots, part, per_block, unit_block, first_data, is_data, place_of, bitmap_sector, inode_sector, block_sector, IsPlaceOf, sectors_of, IsVolume}
use Rattle.vx_layout.specs.Bits.{bits_bytes}
use Rattle.vx_layout.specs.Inodes.{layout1, half_of, slot_at}
use Rattle.vx_layout.specs.Maps.{MapBlock, map_block_at}
use Rattle.vx_layout.specs.Dirs.{dir_at}
use Rattle.vx_sound.specs.FirstFault.{numbers}
use Rattle.vx_sound.specs.Said.{Image, among, inode_count, block_bytes, inode_said, map_said, chain_from, chain_said, in_place, extents_said, extent_blocks, blocks_said, claimed_by, claims_below, entries_said, blocks_by_kind, directory_blocks, entries_below, entries_of, names_of}
use Rattle.vx_sound.specs.Facts.{IsInodeRight, IsClaimable, AreClaimable, IsMapInPlace, IsWholeBlock, IsMapRight, IsExtentRight, AreInOrder, FitKind, AreExtentsRight, AreNamesRight, block_at, AreEntriesRight, HasTarget, AreTargetsRight, IsNamedBy, ReachedIn, FitNames, IsRoot, AreLinksRight, IsBitmapRight}
use Rattle.vx_sound.specs.Sound.{IsInodeSound, IsSound}
use Rattle.vx_sound.specs.Alike.{AreAlike}
use Rattle.vx_layout.proofs.Standing.{place_is, place_bits, place_inode, place_part}

-- ---- sectors of the volume

pub record SectorPlaces (v : Volume) : Type 0 where
  pub bitmaps : (u : ℕ) → u < v.units → place_of v (bitmap_sector v u) ≡ bits u
  pub inodes : (n : ℕ) → n < 128 * v.units → place_of v (inode_sector v n) ≡ slots (n / 2)
  pub parts : (b i : ℕ) → IsTrue (is_data v b) → i < per_block v → place_of v (block_sector (per_block v) b + i) ≡ part b i
  pub named : (s : ℕ) → IsPlaceOf v s (place_of v s)

pub sector_places : (v : Volume) → IsVolume v → SectorPlaces v
sector_places v is = record {
  bitmaps = λ u. place_bits v u is;
  inodes = λ n. place_inode v n is;
  parts = λ b i. place_part v b i is;
  named = λ s. place_is v s is;
}

not_bits : (q : Place) (u : ℕ) → q ≡ bits u → q ≢ outside
not_bits q u e none = let c : bits u ≡ outside = sym e ∙ none in cc

not_slots : (q : Place) (k : ℕ) → q ≡ slots k → q ≢ outside
not_slots q k e none = let c : slots k ≡ outside = sym e ∙ none in cc

not_part : (q : Place) (b i : ℕ) → q ≡ part b i → q ≢ outside
not_part q b i e none = let c : part b i ≡ outside = sym e ∙ none in cc

-- the sectors behind a bitmap belong to its unit
within_unit : (first units pb u i p : ℕ) → p ≡ 4096 * pb → (u + 1) * p ≤ units * p → i < pb → (u + 1) * p ≡ u * p + p → first * pb + u * p + i < first * pb + units * p
within_unit first units pb u i p e more low step = omega arith

not_behind : (v : Volume) (u i : ℕ) → u < v.units → i < per_block v → (bitmap_sector v u + i < v.first * per_block v) ⊎ (sectors_of v ≤ bitmap_sector v u + i) → ⊥
not_behind v u i less low (inl before) = omega arith
not_behind v u i less low (inr past) =
    let p : ℕ = 4096 * per_block v in
    let more : (u + 1) * p ≤ v.units * p = mul-le-mul_right p (omega arith) in
    let step : (u + 1) * p ≡ u * p + p = grind arith in
    let inside = within_unit v.first v.units (per_block v) u i p refl more low step in
    let all : sectors_of v ≡ v.first * per_block v + v.units * p = grind arith in
    omega arith

module _ (v : Volume) (places : SectorPlaces v) where
  behind_inside : (u i : ℕ) → u < v.units → i < per_block v → place_of v (bitmap_sector v u + i) ≢ outside
  behind_inside u i less low none = not_behind v u i less low (subst (IsPlaceOf v (bitmap_sector v u + i)) none (places.named (bitmap_sector v u + i)))

-- ---- lists

abbrev AllData : Volume → List ℕ → Type 0
AllData v xs = AllByRecursion (λ x. IsTrue (is_data v x)) xs

data_each : (v : Volume) (xs : List ℕ) → ((k : ℕ) → k < length xs → IsTrue (is_data v (get_or xs k 0))) → AllData v xs
data_each v [] each = tt
data_each v (x ∷ xs) each = (each 0 (omega arith), data_each v xs (λ k less. each (suc k) (omega arith)))

data_at : (v : Volume) (xs : List ℕ) (k : ℕ) → k < length xs → AllData v xs → IsTrue (is_data v (get_or xs k 0))
data_at v [] k less all = absurd (omega arith)
data_at v (x ∷ xs) zero less all = all.0
data_at v (x ∷ xs) (suc k) less all = data_at v xs k (omega arith) all.1

data_take : (v : Volume) (k : ℕ) (xs : List ℕ) → AllData v xs → AllData v (take k xs)
data_take v zero xs all = tt
data_take v (suc k) [] all = tt
data_take v (suc k) (x ∷ xs) all = (all.0, data_take v k xs all.1)

claimable_data : (v : Volume) (before xs : List ℕ) → AreClaimable v before xs → AllData v xs
claimable_data v before [] h = tt
claimable_data v before (x ∷ xs) h = (h.0.is_data, claimable_data v (before ++ x ∷ []) xs h.1)

data_first : (v : Volume) (x y : ℕ) (xs : List ℕ) (t : Bool) → (x == y) ≡ t → IsTrue (is_data v y) → (among xs x ≡ true → IsTrue (is_data v x)) → (t || among xs x) ≡ true → IsTrue (is_data v x)
data_first v x y xs true e there more h = subst (λ (z : ℕ). IsTrue (is_data v z)) (sym (eqb-true x y e)) there
data_first v x y xs false e there more h = more h

data_among : (v : Volume) (x : ℕ) (xs : List ℕ) → AllData v xs → among xs x ≡ true → IsTrue (is_data v x)
data_among v x [] all h = absurd cc
data_among v x (y ∷ ys) all h = data_first v x y ys (x == y) refl all.0 (data_among v x ys all.1) h

pieces : (f g : ℕ → List ℕ) (a n m : ℕ) → a + n ≡ m → ((i : ℕ) → i < m → f i ≡ g i) → flat_map f (numbers a n) ≡ flat_map g (numbers a n)
pieces f g a zero m e same = refl
pieces f g a (suc n) m e same = ap₂ (λ (xs ys : List ℕ). xs ++ ys) (same a (omega arith)) (pieces f g (suc a) n m (omega arith) same)

each_data : {X : Type 0} (v : Volume) (f g : ℕ → List X) → ((x : ℕ) → IsTrue (is_data v x) → f x ≡ g x) → (xs : List ℕ) → AllData v xs → flat_map f xs ≡ flat_map g xs
each_data v f g same [] all = refl
each_data {X = X} v f g same (x ∷ xs) all = ap₂ (λ (ps qs : List X). ps ++ qs) (same x all.0) (each_data v f g same xs all.1)

all_more : (P Q : DirEntry → Type 0) → ((e : DirEntry) → P e → Q e) → (es : List DirEntry) → AllByRecursion P es → AllByRecursion Q es
all_more P Q more [] h = tt
all_more P Q more (e ∷ es) h = (more e h.0, all_more P Q more es h.1)

module _ (strict : Bool) (v : Volume) (places : SectorPlaces v) (a b : Image) (alike : AreAlike v a b) (sound : IsSound strict v a) where
  -- ---- inodes

  inode_sectors : (n : ℕ) → n < inode_count v → b (inode_sector v n) ≡ a (inode_sector v n)
  inode_sectors n less = sym (alike (inode_sector v n) (not_slots (place_of v (inode_sector v n)) (n / 2) (places.inodes n less)))

  abbrev slot_from : List ℕ → ℕ → Option InodeValue
  slot_from bytes n = option_and_then (λ (o : Option InodeValue). o) (slot_at layout1 (half_of bytes (n % 2)))

  pub inodes_same : (n : ℕ) → inode_said v b n ≡ inode_said v a n
  unfolding inode_said
  inodes_same n = elim (cases_lt n (inode_count v)) [
    | inl less ↦ ap (λ bytes. cond (nat_lt n (inode_count v)) (slot_from bytes n) None) (inode_sectors n less)
    | inr past ↦
        let none : nat_lt n (inode_count v) ≡ false = le-ltb n (inode_count v) past in
        ap (λ t. cond t (slot_from (b (inode_sector v n)) n) None) none ∙ sym (ap (λ t. cond t (slot_from (a (inode_sector v n)) n) None) none)
  ]

  inode_low : (n : ℕ) (i : InodeValue) → inode_said v a n ≡ Some i → n < inode_count v
  unfolding inode_said
  inode_low n i h = elim (cases_lt n (inode_count v)) [
    | inl less ↦ less
    | inr past ↦ absurd (let c : None ≡ Some i = sym (ap (λ t. cond t (slot_from (a (inode_sector v n)) n) None) (le-ltb n (inode_count v) past)) ∙ h in cc)
  ]

  -- ---- data blocks

  block_sectors : (x i : ℕ) → IsTrue (is_data v x) → i < per_block v → b (block_sector (per_block v) x + i) ≡ a (block_sector (per_block v) x + i)
  block_sectors x i there less = sym (alike (block_sector (per_block v) x + i) (not_part (place_of v (block_sector (per_block v) x + i)) x i (places.parts x i there less)))

  bytes_same : (x : ℕ) → IsTrue (is_data v x) → block_bytes v b x ≡ block_bytes v a x
  bytes_same x there =
      pieces (λ i. b (block_sector (per_block v) x + i)) (λ i. a (block_sector (per_block v) x + i)) 0 (per_block v) (per_block v) (omega arith) (λ i less. block_sectors x i there less)

  whole_same : (x : ℕ) → IsTrue (is_data v x) → IsWholeBlock v a x → IsWholeBlock v b x
  whole_same x there w i less = ap length (block_sectors x i there less) ∙ w i less

  maps_same : (x : ℕ) → IsTrue (is_data v x) → map_said v b x ≡ map_said v a x
  maps_same x there = ap map_block_at (bytes_same x there)

  entries_same : (x : ℕ) → IsTrue (is_data v x) → entries_said v b x ≡ entries_said v a x
  entries_same x there = ap (λ bytes. unwrap_or (dir_at bytes) []) (bytes_same x there)

  -- ---- an inode's blocks

  chain_same : (k : ℕ) (at : Option ℕ) → AllData v (chain_from v a k at) → chain_from v b k at ≡ chain_from v a k at
  chain_same zero at all = refl
  chain_same (suc k) None all = refl
  chain_same (suc k) (Some x) all =
      ap (λ xs. x ∷ xs) (ap (λ (m : MapBlock). chain_from v b k m.next) (maps_same x all.0) ∙ chain_same k (map_said v a x).next all.1)

  chain_short : (k : ℕ) (at : Option ℕ) → length (chain_from v a k at) ≤ k
  chain_short zero at = omega arith
  chain_short (suc k) None = omega arith
  chain_short (suc k) (Some x) = omega (arith, chain_short k (map_said v a x).next)

  there_at : (P : InodeValue → Type 0) (n : ℕ) (i : InodeValue) → inode_said v a n ≡ Some i → IfSome (inode_said v a n) P → P i
  there_at P n i e h = subst (λ (o : Option InodeValue). IfSome o P) e h

  record InodeAlike (n : ℕ) (i : InodeValue) : Type 0 where
    chain_data : AllData v (chain_said v a i)
    chain : chain_said v b i ≡ chain_said v a i
    extents : extents_said v b i ≡ extents_said v a i
    right : AreExtentsRight v a n i

  inode_alike : (n : ℕ) (i : InodeValue) → inode_said v a n ≡ Some i → InodeAlike n i
  inode_alike n i e =
      let s = sound.inodes n (inode_low n i e) in
      let all : AllData v (chain_said v a i) = data_each v (chain_said v a i) (λ k less.
      (there_at (λ j. k < j.maps → IsMapInPlace v a n k j) n i e (s.map_places k) (let short = chain_short i.maps i.map in omega arith)).is_data) in
      let chain : chain_said v b i ≡ chain_said v a i = chain_same i.maps i.map all in
      record {
        chain_data = all;
        chain = chain;
        extents = ap (λ xs. flat_map in_place i.first ++ xs)
            (ap (flat_map (λ x. (map_said v b x).extents)) chain
            ∙ each_data v (λ x. (map_said v b x).extents) (λ x. (map_said v a x).extents) (λ x there. ap (λ (m : MapBlock). m.extents) (maps_same x there)) (chain_said v a i) all);
        right = there_at (AreExtentsRight v a n) n i e s.extents;
      }

  pub extents_same : (n : ℕ) (i : InodeValue) → inode_said v a n ≡ Some i → extents_said v b i ≡ extents_said v a i
  extents_same n i e = (inode_alike n i e).extents

  -- a block of an inode holds the same bytes
  pub block_same_bytes : (n : ℕ) (i : InodeValue) → inode_said v a n ≡ Some i → (x : ℕ) → among (blocks_said v a i) x ≡ true → block_bytes v b x ≡ block_bytes v a x
  block_same_bytes n i e x h =
      let right = (inode_alike n i e).right in
      bytes_same x (data_among v x (blocks_said v a i) (claimable_data v (claims_below v a n ++ chain_said v a i) (blocks_said v a i) right.claims) h)

  blocks_same : (n : ℕ) (i : InodeValue) → InodeAlike n i → blocks_said v b i ≡ blocks_said v a i
  blocks_same n i s = ap (flat_map extent_blocks) s.extents

  claims_by : (n : ℕ) (o : Option InodeValue) → inode_said v a n ≡ o → claimed_by v b o ≡ claimed_by v a o
  claims_by n None e = refl
  claims_by n (Some i) e = let s = inode_alike n i e in ap₂ (λ (xs ys : List ℕ). xs ++ ys) s.chain (blocks_same n i s)

  claimed_same : (n : ℕ) → claimed_by v b (inode_said v b n) ≡ claimed_by v a (inode_said v a n)
  claimed_same n = ap (claimed_by v b) (inodes_same n) ∙ claims_by n (inode_said v a n) refl

  claims_same : (n : ℕ) → claims_below v b n ≡ claims_below v a n
  unfolding claims_below
  claims_same n = ap (λ (f : ℕ → List ℕ). flat_map f (numbers 0 n)) (fun_ext claimed_same)

  -- ---- directories

  by_kind : (n : ℕ) (i : InodeValue) (kind : FileKind) → InodeAlike n i → blocks_by_kind v b i kind ≡ blocks_by_kind v a i kind
  by_kind n i File s = refl
  by_kind n i Directory s = blocks_same n i s

  directory_by : (n : ℕ) (o : Option InodeValue) → inode_said v a n ≡ o → directory_blocks v b o ≡ directory_blocks v a o
  directory_by n None e = refl
  directory_by n (Some i) e = by_kind n i i.inode.kind (inode_alike n i e)

  directory_same : (n : ℕ) → directory_blocks v b (inode_said v b n) ≡ directory_blocks v a (inode_said v a n)
  directory_same n = ap (directory_blocks v b) (inodes_same n) ∙ directory_by n (inode_said v a n) refl

  data_by_kind : (n : ℕ) (i : InodeValue) (kind : FileKind) → InodeAlike n i → AllData v (blocks_by_kind v a i kind)
  data_by_kind n i File s = tt
  data_by_kind n i Directory s = claimable_data v (claims_below v a n ++ chain_said v a i) (blocks_said v a i) s.right.claims

  directory_data_by : (n : ℕ) (o : Option InodeValue) → inode_said v a n ≡ o → AllData v (directory_blocks v a o)
  directory_data_by n None e = tt
  directory_data_by n (Some i) e = data_by_kind n i i.inode.kind (inode_alike n i e)

  directory_data : (n : ℕ) → AllData v (directory_blocks v a (inode_said v a n))
  directory_data n = directory_data_by n (inode_said v a n) refl

  pub entries_of_same : (n : ℕ) → entries_of v b n ≡ entries_of v a n
  unfolding entries_of
  entries_of_same n =
      ap (flat_map (entries_said v b)) (directory_same n) ∙ each_data v (entries_said v b) (entries_said v a) entries_same (directory_blocks v a (inode_said v a n)) (directory_data n)

  entries_below_same : (n k : ℕ) → entries_below v b n k ≡ entries_below v a n k
  entries_below_same n k =
      ap (λ xs. flat_map (entries_said v b) (take k xs)) (directory_same n)
      ∙ each_data v (entries_said v b) (entries_said v a) entries_same (take k (directory_blocks v a (inode_said v a n))) (data_take v k (directory_blocks v a (inode_said v a n)) (directory_data n))

  names_same : (n : ℕ) → names_of v b n ≡ names_of v a n
  unfolding names_of
  names_same n = ap (λ (f : ℕ → List DirEntry). count_by (λ (e : DirEntry). e.ino == n) (flat_map f (numbers 0 (inode_count v)))) (fun_ext entries_of_same)

  -- ---- facts of one inode

  -- what holds of the inode in the one image, and so in the other
  lift_by : (n : ℕ) (P Q : InodeValue → Type 0) → ((i : InodeValue) → inode_said v a n ≡ Some i → P i → Q i) → (o : Option InodeValue) → inode_said v a n ≡ o → IfSome o P → IfSome o Q
  lift_by n P Q more None e h = tt
  lift_by n P Q more (Some i) e h = more i e h

  lift : (n : ℕ) (P Q : InodeValue → Type 0) → ((i : InodeValue) → inode_said v a n ≡ Some i → P i → Q i) → IfSome (inode_said v a n) P → IfSome (inode_said v b n) Q
  lift n P Q more h = subst (λ (o : Option InodeValue). IfSome o Q) (sym (inodes_same n)) (lift_by n P Q more (inode_said v a n) refl h)

  inode_right : (n : ℕ) → n < inode_count v → IsInodeRight v a n → IsInodeRight v b n
  inode_right n less r = record {
    slot = r.slot;
    is_slot = r.is_slot;
    spelled = ap (λ bytes. half_of bytes (n % 2)) (inode_sectors n less) ∙ r.spelled;
    whole = ap length (inode_sectors n less) ∙ r.whole;
    first_two = r.first_two;
  }

  map_place : (n k : ℕ) (i : InodeValue) → InodeAlike n i → IsMapInPlace v a n k i → IsMapInPlace v b n k i
  map_place n k i s h =
      subst (λ xs. IsClaimable v (xs ++ take k (chain_said v b i)) (get_or (chain_said v b i) k 0)) (sym (claims_same n))
      (subst (λ xs. IsClaimable v (claims_below v a n ++ take k xs) (get_or xs k 0)) (sym s.chain) h)

  map_right : (n k : ℕ) (i : InodeValue) → InodeAlike n i → IsMapInPlace v a n k i → IsMapRight v a n k i → IsMapRight v b n k i
  map_right n k i s place r =
      let same : get_or (chain_said v b i) k 0 ≡ get_or (chain_said v a i) k 0 = ap (λ xs. get_or xs k 0) s.chain in
      record {
        map = r.map;
        is_map = r.is_map;
        spelled = ap (block_bytes v b) same ∙ bytes_same (get_or (chain_said v a i) k 0) place.is_data ∙ r.spelled;
        whole = subst (IsWholeBlock v b) (sym same) (whole_same (get_or (chain_said v a i) k 0) place.is_data r.whole);
        owner = r.owner;
        share = r.share;
        next = r.next;
      }

  extents_right : (n : ℕ) (i : InodeValue) → InodeAlike n i → AreExtentsRight v a n i → AreExtentsRight v b n i
  extents_right n i s r = record {
    each = subst (AllByRecursion (IsExtentRight v i)) (sym s.extents) r.each;
    order = subst AreInOrder (sym s.extents) r.order;
    kind = subst (λ xs. FitKind i.inode.kind v i xs (extents_said v b i)) (sym (blocks_same n i s)) (subst (FitKind i.inode.kind v i (blocks_said v a i)) (sym s.extents) r.kind);
    claims = subst (AreClaimable v (claims_below v b n ++ chain_said v b i)) (sym (blocks_same n i s))
        (subst (λ xs. AreClaimable v (xs ++ chain_said v b i) (blocks_said v a i)) (sym (claims_same n))
        (subst (λ xs. AreClaimable v (claims_below v a n ++ xs) (blocks_said v a i)) (sym s.chain) r.claims));
  }

  block_same : (n k : ℕ) → block_at v b n k ≡ block_at v a n k
  block_same n k = ap (λ xs. get_or xs k 0) (directory_same n)

  entries_right : (n k : ℕ) → IsTrue (is_data v (block_at v a n k)) → AreEntriesRight v a n k → AreEntriesRight v b n k
  entries_right n k there r = record {
    entries = r.entries;
    is_dir = r.is_dir;
    spelled = ap (block_bytes v b) (block_same n k) ∙ bytes_same (block_at v a n k) there ∙ r.spelled;
    whole = subst (IsWholeBlock v b) (sym (block_same n k)) (whole_same (block_at v a n k) there r.whole);
    names = subst (λ es. AreNamesRight es r.entries) (sym (entries_below_same n k)) r.names;
  }

  targets_right : (n k : ℕ) → IsTrue (is_data v (block_at v a n k)) → AreTargetsRight v a n k → AreTargetsRight v b n k
  targets_right n k there r =
      subst (AllByRecursion (HasTarget v b)) (sym (ap (entries_said v b) (block_same n k) ∙ entries_same (block_at v a n k) there))
      (all_more (HasTarget v a) (HasTarget v b) (λ e h. ap is_some (inodes_same e.ino) ∙ h) (entries_said v a (block_at v a n k)) r)

  inode_sound : (n : ℕ) → n < inode_count v → IsInodeSound v b n
  inode_sound n less =
      let s = sound.inodes n less in
      let inside : (k : ℕ) → k < length (directory_blocks v b (inode_said v b n)) → k < length (directory_blocks v a (inode_said v a n)) = λ k low. subst (λ (xs : List ℕ). k < length xs) (directory_same n) low in
      let there : (k : ℕ) → k < length (directory_blocks v a (inode_said v a n)) → IsTrue (is_data v (block_at v a n k)) = λ k low. data_at v (directory_blocks v a (inode_said v a n)) k low (directory_data n) in
      record {
        slot = inode_right n less s.slot;
        map_places = λ k. lift n (λ i. k < i.maps → IsMapInPlace v a n k i) (λ i. k < i.maps → IsMapInPlace v b n k i) (λ i e h low. map_place n k i (inode_alike n i e) (h low)) (s.map_places k);
        maps = λ k. lift n (λ i. k < i.maps → IsMapRight v a n k i) (λ i. k < i.maps → IsMapRight v b n k i)
            (λ i e h low. map_right n k i (inode_alike n i e) (there_at (λ j. k < j.maps → IsMapInPlace v a n k j) n i e (s.map_places k) low) (h low)) (s.maps k);
        extents = lift n (AreExtentsRight v a n) (AreExtentsRight v b n) (λ i e h. extents_right n i (inode_alike n i e) h) s.extents;
        entries = λ k low. entries_right n k (there k (inside k low)) (s.entries k (inside k low));
        targets = λ k low. targets_right n k (there k (inside k low)) (s.targets k (inside k low));
      }

  -- ---- names

  named_same : (n d : ℕ) → IsNamedBy v a n d → IsNamedBy v b n d
  named_same n d h = subst (λ (es : List DirEntry). Contains (map (λ (e : DirEntry). e.ino) es) n) (sym (entries_of_same d)) h

  reached_in : (k n : ℕ) → ReachedIn v a k n → ReachedIn v b k n
  reached_in zero n h = h
  reached_in (suc k) n h = (h.0, reached_in k h.0 h.1, named_same n h.0 h.2)

  fit_names : (n : ℕ) (i : InodeValue) (kind : FileKind) → FitNames strict v a n i kind → FitNames strict v b n i kind
  fit_names n i File h = record { links = names_same n ∙ h.links; some = h.some }
  fit_names n i Directory h = record { one = names_same n ∙ h.one; reached = record { names = h.reached.names; way = reached_in h.reached.names n h.reached.way } }

  root_right : (n : ℕ) → IsRoot v a (inode_said v a n) → IsRoot v b (inode_said v b n)
  root_right n h = record { directory = ap (option_map (λ (i : InodeValue). i.inode.kind)) (inodes_same n) ∙ h.directory; no_name = names_same 2 ∙ h.no_name }

  links_right : (n : ℕ) → AreLinksRight strict v a n → AreLinksRight strict v b n
  links_right n h = record {
    root_is = λ e. root_right n (h.root_is e);
    other = λ ne. lift n (λ i. FitNames strict v a n i i.inode.kind) (λ i. FitNames strict v b n i i.inode.kind) (λ i e fit. fit_names n i i.inode.kind fit) (h.other ne);
  }

  -- ---- bitmaps

  bitmap_right : (u : ℕ) → u < v.units → IsBitmapRight v a u → IsBitmapRight v b u
  bitmap_right u less r = record {
    bits = sym (alike (bitmap_sector v u) (not_bits (place_of v (bitmap_sector v u)) u (places.bitmaps u less))) ∙ r.bits
        ∙ ap bits_bytes (fun_ext (λ (j : ℕ). ap (λ xs. nat_lt j (first_data (per_block v)) || among xs (unit_block v u + j)) (sym (claims_same (inode_count v)))));
    rest = λ i some low. sym (alike (bitmap_sector v u + i) (behind_inside v places u i less low)) ∙ r.rest i some low;
  }

  pub sound_alike : IsSound strict v b
  sound_alike = record {
    inodes = inode_sound;
    links = λ n less. links_right n (sound.links n less);
    bitmaps = λ u less. bitmap_right u less (sound.bitmaps u less);
  }
