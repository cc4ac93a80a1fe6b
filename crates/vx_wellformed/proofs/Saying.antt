-- What an image that holds a state says of blocks and names.
use Rattle.std.proofs.Common.{◌≡◌, ℕ, zero, suc, ◌+◌, ◌*◌, ◌<◌, ◌≤◌, Bool, true, false, cond, List, [], ◌∷◌, ◌++◌, map, take, Option, Some, None, Ok, refl, sym, ap, ap₂, subst, ◌∙◌, arith, append-nil}
use Rattle.std.specs.Prelude.{◌||◌, ◌==◌, is_some, Contains}
use Rattle.std.specs.List.{flat_map, AllByRecursion}
use Rattle.std.specs.Option.{option_map}
use Rattle.std.specs.FinMap as map
use Rattle.std.proofs.lemmas.Bool.{false_from_ne_true, or_from}
use Rattle.std.proofs.lemmas.Grind.{flat_map-append}
use Rattle.std.proofs.lemmas.List.Sums.{sum_by-append}
use Rattle.vx_base.specs.Paths.{FileName}
use Rattle.vx_base.specs.declared.inode.DirEntry.{DirEntry}
use Rattle.vx_layout.specs.Places.{Volume}
use Rattle.vx_space.specs.Space.{page_blocks, maps_for}
use Rattle.vx_space.specs.Uses.{uses}
use Rattle.vx_sound.specs.FirstFault.{numbers}
use Rattle.vx_sound.specs.Said.{Image, among, inode_said, claimed_by, claims_below, names_of}
use Rattle.vx_sound.specs.Said as said
use Rattle.vx_sound.specs.Facts.{IsNamedBy, ReachedIn, IsReached, HasTarget, AreClaimable}
use Rattle.vx_model.specs.Tree.{Node, Directory, IsFile, IsDirectory}
use Rattle.vx_model.specs.Layout.{Layout, volume, blocks_at, owned, settled_at, device_blocks, is_on_device_below}
use Rattle.vx_model.specs.State.{State}
use Rattle.vx_model.specs.Walks.{root, walk}
use Rattle.vx_model.specs.Images.{Stands}
use Rattle.vx_model.specs.Reads.{entries_from}
use Rattle.vx_model.specs.Contents.{settled_of, inode_for, parsed_of}
use Rattle.vx_model.specs.LaidOut.{Owns, HasNothing, IsHeld, IsLaidOut, entries_of}
use Rattle.vx_model.specs.Saying.{IsImageOf, StateSays}
use Rattle.vx_model.specs.NameLaws.{meaning_in, lookup, names_in, name_count}
use Rattle.vx_model.proofs.Spelled.{nothing_at, no_pages, take_none}
use Rattle.vx_model.proofs.Uses.{among_uses, is_among}
use Rattle.vx_wellformed.specs.Names as names
use Rattle.vx_wellformed.specs.WellFormed.{IsConsistent}
use Rattle.vx_wellformed.proofs.Claiming.{among_both, claimable}
use Rattle.vx_wellformed.proofs.EntryNames.{meaning, naming, naming_first, counted_alike, meaning_contained}
use Rattle.vx_wellformed.proofs.Naming.{named_directory, counted_among, linked, one_same}
use Rattle.vx_wellformed.proofs.Reaching.{walk_first}

-- ---- lists

numbers_more : (a n : ℕ) → numbers a (suc n) ≡ numbers a n ++ (a + n) ∷ []
numbers_more a zero = let e : a + 0 ≡ a = omega arith in ap (λ (x : ℕ). x ∷ []) (sym e)
numbers_more a (suc n) = let f : suc a + n ≡ a + suc n = omega arith in
    ap (λ (xs : List ℕ). a ∷ xs) (numbers_more (suc a) n) ∙ ap (λ (x : ℕ). a ∷ (numbers (suc a) n ++ x ∷ [])) f

listed_more : {X : Type 0} (f : ℕ → List X) (n : ℕ) → flat_map f (numbers 0 (suc n)) ≡ flat_map f (numbers 0 n) ++ f n
listed_more f n =
    let e : 0 + n ≡ n = omega arith in
    ap (flat_map f) (numbers_more 0 n) ∙ flat_map-append f (numbers 0 n) ((0 + n) ∷ [])
    ∙ ap (λ xs. flat_map f (numbers 0 n) ++ xs) (append-nil (f (0 + n)))
    ∙ ap (λ (m : ℕ). flat_map f (numbers 0 n) ++ f m) e

or_swap : (a b : Bool) → (a || b) ≡ (b || a)
or_swap true true = refl
or_swap true false = refl
or_swap false true = refl
or_swap false false = refl

some_map : {A B : Type 0} (f : A → B) (o : Option A) → is_some (option_map f o) ≡ is_some o
some_map f None = refl
some_map f (Some x) = refl

-- where nothing stands
nothing_said : (l : Layout) (n : ℕ) → HasNothing l n → device_blocks l n ≡ []
nothing_said l n h =
    ap₂ (λ (xs ys : List ℕ). xs ++ ys) (ap (take (maps_for (settled_at l n))) (nothing_at l n h).1 ∙ take_none (maps_for (settled_at l n))) (ap page_blocks (no_pages l n h))

-- the blocks that the device says an inode has are some of those that it has
abbrev pub Within : Type 0
Within = (s : State) (n b : ℕ) → IsLaidOut s → uses (device_blocks s.layout n) b ≤ uses (owned s.layout n) b

module _ (within : Within) (says : StateSays) (s : State) (w : IsConsistent s) (image : Image) (stands : Stands (volume s.layout) (parsed_of s) image) where
  abbrev v : Volume
  v = volume s.layout

  abbrev is : IsLaidOut s
  is = w.laid_out

  abbrev l : Layout
  l = s.layout

  pub there : IsImageOf s image
  there = record { laid_out = is; stands = stands }

  -- ---- claims

  claims_by : (n : ℕ) (o : Option Node) → map.get s.tree.nodes n ≡ o → IsHeld l n o → claimed_by v image (option_map (inode_for (settled_of l n)) o) ≡ device_blocks l n
  claims_by n None e h = sym (nothing_said l n h)
  claims_by n (Some node) e h =
      let at = ap (option_map (inode_for (settled_of l n))) e in
      ap₂ (λ (xs ys : List ℕ). xs ++ ys) (says.chain s image there n (inode_for (settled_of l n) node) at) (says.blocks s image there n (inode_for (settled_of l n) node) at)

  claims_are : (n : ℕ) → claimed_by v image (inode_said v image n) ≡ device_blocks l n
  claims_are n = ap (claimed_by v image) (says.inodes s image there n) ∙ claims_by n (map.get s.tree.nodes n) refl (is.nodes n)

  claims_more : (n b : ℕ) → among (claims_below v image (suc n)) b ≡ (among (claims_below v image n) b || among (device_blocks l n) b)
  unfolding claims_below
  claims_more n b =
      ap (λ xs. among xs b) (listed_more (λ m. claimed_by v image (inode_said v image m)) n)
      ∙ among_both (claims_below v image n) (claimed_by v image (inode_said v image n)) b
      ∙ ap (λ xs. among (claims_below v image n) b || among xs b) (claims_are n)

  claims_none : (b : ℕ) → among (claims_below v image 0) b ≡ false
  unfolding claims_below
  claims_none b = refl

  -- a block is claimed in the image where the device says in the state that an inode has it
  pub below_alike : (b n : ℕ) → among (claims_below v image n) b ≡ is_on_device_below l b n
  unfolding is_on_device_below
  below_alike b zero = claims_none b
  below_alike b (suc n) =
      claims_more n b ∙ or_swap (among (claims_below v image n) b) (among (device_blocks l n) b)
      ∙ ap (λ t. among (device_blocks l n) b || t) (below_alike b n)

  -- what the device says an inode has, the inode has
  owns : (n b : ℕ) → among (device_blocks l n) b ≡ true → Owns l n b
  owns n b has = let some = among_uses (device_blocks l n) b has in let fewer = within s n b is in is_among (owned l n) b (omega (arith, some, fewer))

  -- no inode before claims an inode's block
  new_claim : (n b : ℕ) → Owns l n b → (k : ℕ) → k ≤ n → among (claims_below v image k) b ≡ false
  new_claim n b has zero low = claims_none b
  new_claim n b has (suc k) low =
      claims_more k b
      ∙ or_from (among (claims_below v image k) b) (among (device_blocks l k) b) (new_claim n b has k (omega (arith, low)))
      (false_from_ne_true (among (device_blocks l k) b) (λ other. let e : k ≡ n = is.use_of_blocks.once k n b (owns k b other) has in absurd (omega (arith, e, low))))

  pub claims_apart : (n : ℕ) → AreClaimable v (claims_below v image n) (device_blocks l n)
  claims_apart n =
      claimable v (claims_below v image n) (device_blocks l n)
      (λ b h. record { is_data = is.use_of_blocks.data_blocks n b (owns n b h); new = new_claim n b (owns n b h) n (omega arith) })
      (λ b. (let once = is.use_of_blocks.apart n b in let fewer = within s n b is in omega (arith, once, fewer)))

  -- ---- entries

  -- a directory's names are counted alike
  counted_by : (i n : ℕ) (o : Option Node) → IsHeld l n o → naming i (entries_of (blocks_at l n)) ≡ names_in i o
  counted_by i n None h = ap (λ bs. naming i (entries_of bs)) (nothing_at l n h).0
  counted_by i n (Some (IsFile f)) h = ap (λ bs. naming i (entries_of bs)) h.0.no_blocks
  counted_by i n (Some (IsDirectory d)) h =
      sym (ap (λ es. meaning i (map.entries es)) h.0.entries ∙ counted_alike i [] (entries_of (blocks_at l n)) (w.names n))

  counted : (i n : ℕ) → naming i (entries_of (blocks_at l n)) ≡ names_in i (map.get s.tree.nodes n)
  counted i n = counted_by i n (map.get s.tree.nodes n) (is.nodes n)

  counted_below : (i n : ℕ) → naming i (flat_map (said.entries_of v image) (numbers 0 n)) ≡ name_count s.tree.nodes n i
  unfolding name_count
  counted_below i zero = refl
  counted_below i (suc n) =
      ap (naming i) (listed_more (said.entries_of v image) n)
      ∙ omega (
        arith,
        sum_by-append (λ (e : DirEntry). cond (e.ino == i) 1 0) (flat_map (said.entries_of v image) (numbers 0 n)) (said.entries_of v image n),
        ap (naming i) (says.all_entries s image there n) ∙ counted i n,
        counted_below i n,
      )

  -- an inode has as many names in the image as in the tree
  pub names_alike : (i : ℕ) → names_of v image i ≡ name_count s.tree.nodes (128 * l.units) i
  unfolding names_of
  names_alike i = counted_below i (128 * l.units)

  -- ---- what entries name

  named_used : (n i : ℕ) → n < 128 * l.units → 1 ≤ naming i (entries_of (blocks_at l n)) → is_some (inode_said v image i) ≡ true
  named_used n i low some =
      let one_ = counted i n in
      let all = counted_among s.tree.nodes i n (128 * l.units) low in
      let is_ = w.links.links i in
      let there_ = linked i (map.get s.tree.nodes i) (omega arith) in
      ap is_some (says.inodes s image there i) ∙ some_map (inode_for (settled_of l i)) (map.get s.tree.nodes i) ∙ there_

  targets_by : (es : List DirEntry) → ((i : ℕ) → 1 ≤ naming i es → is_some (inode_said v image i) ≡ true) → AllByRecursion (HasTarget v image) es
  targets_by [] each = tt
  targets_by (e ∷ es) each = (each e.ino (omega (arith, naming_first e.ino e es, one_same e.ino e.ino refl)), targets_by es (λ i some. each i (omega (arith, naming_first i e es))))

  pub targets : (n : ℕ) → n < 128 * l.units → AllByRecursion (HasTarget v image) (entries_of (blocks_at l n))
  targets n low = targets_by (entries_of (blocks_at l n)) (λ i some. named_used n i low some)

  -- ---- the way from the root

  names_are : (n : ℕ) (d : Directory) → map.get s.tree.nodes n ≡ Some (IsDirectory d) → d.entries ≡ entries_from (entries_of (blocks_at l n))
  names_are n d at = (subst (IsHeld l n) at (is.nodes n)).0.entries

  named_in : (d : ℕ) (x : FileName) (y : ℕ) → lookup s.tree.nodes d x ≡ Some y → IsNamedBy v image y d
  named_in d x y means =
      let dir = named_directory x y (map.get s.tree.nodes d) means in
      let found : map.get dir.0.entries x ≡ Some y = sym (ap (meaning_in x) dir.1) ∙ means in
      subst (λ (es : List DirEntry). Contains (map (λ (e : DirEntry). e.ino) es) y) (sym (says.all_entries s image there d))
      (meaning_contained x (entries_of (blocks_at l d)) y (ap (λ es. map.get es x) (sym (names_are d dir.0 dir.1)) ∙ found))

  way_on : (k d : ℕ) (path : List FileName) (n : ℕ) → ReachedIn v image k d → walk s.tree.nodes d path ≡ Ok n → IsReached v image n
  way_on k d [] n way walked = let e : d ≡ n = cc in record { names = k; way = subst (ReachedIn v image k) e way }
  way_on k d (x ∷ rest) n way walked =
      let first = walk_first s.tree.nodes d x rest n walked in
      way_on (suc k) first.0 rest n (d, way, named_in d x first.0 first.1) first.2

  pub reached_alike : (n : ℕ) → names.IsReached s.tree.nodes n → IsReached v image n
  reached_alike n r = way_on 0 root r.names n refl r.walked
