-- An image that holds a consistent state is sound, strictly where no file is without a name.
use Rattle.std.proofs.Common.{◌≡◌, ◌≢◌, ℕ, zero, suc, ◌+◌, ◌-◌, ◌*◌, ◌/◌, ◌%◌, ◌<◌, ◌≤◌, Bool, true, false, cond, List, [], ◌∷◌, ◌++◌, length, take, drop, get_or, replicate, Option, Some, None, refl, sym, ap, ap₂, subst, ◌∙◌, arith, lit<, append_assoc, append-nil, length-append}
use Rattle.std.specs.Prelude.{◌||◌, nat_lt, nat_le, is_some, slice_get, IsTrue, IfSome}
use Rattle.std.specs.List.{flat_map, AllByRecursion}
use Rattle.std.specs.Option.{option_map, option_and_then}
use Rattle.std.specs.FinMap as map_of
use Rattle.std.proofs.lemmas.Bool.{le-ltb, lt-leb}
use Rattle.std.proofs.lemmas.List.{take_at, drop_at, take_all, get_or-map, length-map}
use Rattle.std.proofs.lemmas.Nat.{div-add-mod', mod_below}
use Rattle.std.proofs.lemmas.Option.{slice_get-get_or}
use Rattle.std.proofs.Math.Path.{fun_ext}
use Rattle.vx_base.specs.declared.kind.FileKind.TheVariants as kind
use Rattle.vx_base.specs.declared.inode.Extent.{Extent}
use Rattle.vx_base.specs.declared.inode.InodeValue.{InodeValue}
use Rattle.vx_base.specs.declared.inode.DirEntry.{DirEntry}
use Rattle.vx_layout.specs.Places.{Volume, Place, outside, blank, per_block, unit_block, first_data, is_data, place_in_unit, place_of, bitmap_sector, inode_sector, block_sector, sector_part, IsVolume}
use Rattle.vx_layout.specs.Bits.{bits_bytes}
use Rattle.vx_layout.specs.Inodes.{layout1, slot_bytes, half_of, IsInode, IsSlot}
use Rattle.vx_layout.specs.Maps.{MapBlock}
use Rattle.vx_extents.specs.Extents.{stretches}
use Rattle.vx_space.specs.Space.{page_blocks}
use Rattle.vx_sound.specs.Said.{Image, block_bytes, inode_bytes_at, inode_said, chain_said, extents_said, blocks_said, claims_below, entries_said, entries_below, directory_blocks}
use Rattle.vx_sound.specs.Facts.{IsInodeRight, IsMapInPlace, IsMapRight, IsWholeBlock, IsExtentRight, AreExtentsRight, AreInOrder, AreWithoutHoles, FitKind, AreClaimable, AreNamesRight, block_at, AreEntriesRight, HasTarget, AreTargetsRight, FitNames, IsRoot, AreLinksRight, IsBitmapRight}
use Rattle.vx_sound.specs.Facts as facts
use Rattle.vx_sound.specs.Reading.{Form, Entries, Extents, Parsed, Stands, IsForm, DecodingLaws, form_bytes, content, used_in}
use Rattle.vx_sound.specs.Sound.{IsInodeSound, IsSound}
use Rattle.vx_model.specs.Legal.{IfThere}
use Rattle.vx_model.specs.Tree.{Node, IsFile, IsDirectory}
use Rattle.vx_model.specs.Layout.{DirectoryBlock, Layout, Claim, Claimed, volume, blocks_at, block_numbers, settled_at, settled_maps, chain_at, claim_of, is_on_device}
use Rattle.vx_model.specs.State.{State}
use Rattle.vx_model.specs.Walks.{root}
use Rattle.vx_model.specs.Contents.{Held, settled_of, inode_for, inode_value, parsed_of}
use Rattle.vx_model.specs.Images.{content_at}
use Rattle.vx_model.specs.LaidOut.{IsHeld, IsDirectoryNode, IsLaidOut, entries_of}
use Rattle.vx_model.specs.Saying.{IsImageOf, StateSays}
use Rattle.vx_model.proofs.Spelled.{all_first, all_second}
use Rattle.vx_wellformed.specs.WellFormed.{IsConsistent, AreNamed}
use Rattle.vx_wellformed.proofs.Naming.{file_names, directory_names, root_names}
use Rattle.vx_wellformed.proofs.Reaching.{reached}
use Rattle.vx_wellformed.proofs.Forms.{whole_blocks, length-slot, length-part}
use Rattle.vx_wellformed.proofs.Stretches.{each_right, in_order}
use Rattle.vx_wellformed.proofs.Pages.{pages_right}
use Rattle.vx_wellformed.proofs.Claiming.{claimable_first, claimable_rest, claimable_at}
use Rattle.vx_wellformed.proofs.Chaining.{link, chain_got, share_is, next_is}
use Rattle.vx_wellformed.proofs.Saying.{Within, below_alike, claims_apart, names_alike, targets, reached_alike}

-- ---- lists

-- what holds of each member of a list
at_place : {X : Type 0} (P : X → Type 0) (xs : List X) (k : ℕ) (d : X) → AllByRecursion P xs → k < length xs → P (get_or xs k d)
at_place P [] k d all less = absurd (omega (arith, less))
at_place P (x ∷ xs) zero d all less = all.0
at_place P (x ∷ xs) (suc k) d all less = at_place P xs k d all.1 (omega (arith, less))

all_got : {X : Type 0} (P : X → Type 0) (xs : List X) → ((k : ℕ) (x : X) → slice_get xs k ≡ Some x → P x) → AllByRecursion P xs
all_got P [] each = tt
all_got P (x ∷ xs) each = (each 0 x refl, all_got P xs (λ k y h. each (suc k) y h))

some_by : {X : Type 0} (P : X → Type 0) (o : Option X) → ((x : X) → o ≡ Some x → P x) → IfSome o P
some_by P None h = tt
some_by P (Some x) h = h x refl

-- ---- the blocks of a directory, by their places

abbrev no_block : DirectoryBlock
no_block = record { block = 0; entries = [] }

entries_all : (P : DirEntry → Type 0) (ds : List DirectoryBlock) → AllByRecursion P (entries_of ds) → AllByRecursion (λ (d : DirectoryBlock). AllByRecursion P d.entries) ds
entries_all P [] all = tt
entries_all P (d ∷ ds) all = (all_first P d.entries (entries_of ds) all, entries_all P ds (all_second P d.entries (entries_of ds) all))

names_first : (before xs ys : List DirEntry) → AreNamesRight before (xs ++ ys) → AreNamesRight before xs
names_first before [] ys are = tt
names_first before (x ∷ xs) ys are = (are.0, are.1, names_first (before ++ x ∷ []) xs ys are.2)

names_rest : (before xs ys : List DirEntry) → AreNamesRight before (xs ++ ys) → AreNamesRight (before ++ xs) ys
names_rest before [] ys are = subst (λ (zs : List DirEntry). AreNamesRight zs ys) (sym (append-nil before)) are
names_rest before (x ∷ xs) ys are = subst (λ (zs : List DirEntry). AreNamesRight zs ys) (append_assoc before (x ∷ []) xs) (names_rest (before ++ x ∷ []) xs ys are.2)

names_at : (before : List DirEntry) (ds : List DirectoryBlock) (k : ℕ) → AreNamesRight before (entries_of ds) → k < length ds → AreNamesRight (before ++ entries_of (take k ds)) (get_or ds k no_block).entries
names_at before [] k are less = absurd (omega (arith, less))
names_at before (d ∷ ds) zero are less = subst (λ (zs : List DirEntry). AreNamesRight zs d.entries) (sym (append-nil before)) (names_first before d.entries (entries_of ds) are)
names_at before (d ∷ ds) (suc k) are less =
    subst (λ (zs : List DirEntry). AreNamesRight zs (get_or ds k no_block).entries) (append_assoc before d.entries (entries_of (take k ds)))
    (names_at (before ++ d.entries) ds k (names_rest before d.entries (entries_of ds) are) (omega (arith, less)))

-- ---- what an inode of a state says

record IsValueOf (h : Held) (i : InodeValue) : Type 0 where
  maps : i.maps ≡ length h.maps
  extents : i.extents ≡ length h.extents

node_value : (h : Held) (node : Node) → IsValueOf h (inode_for h node)
node_value h (IsFile f) = record { maps = refl; extents = refl }
node_value h (IsDirectory d) = record { maps = refl; extents = refl }

value_by : (h : Held) (o : Option Node) (i : InodeValue) → option_map (inode_for h) o ≡ Some i → IsValueOf h i
value_by h None i e = absurd cc
value_by h (Some node) i e = let same : inode_for h node ≡ i = cc in subst (IsValueOf h) same (node_value h node)

slot_by : (o : Option InodeValue) (bound n : ℕ) → IfSome o (λ i. IsInode layout1 i × (n < bound)) → IsSlot layout1 o
slot_by None bound n h = tt
slot_by (Some i) bound n h = h.0

-- ---- the sector behind a bitmap

quotient : (u q r : ℕ) → 8192 * q + r ≡ 8192 * u + 1 → r < 8192 → q ≡ u
quotient u q r e low = omega arith

rest : (u q r : ℕ) → 8192 * q + r ≡ 8192 * u + 1 → r < 8192 → r ≡ 1
rest u q r e low = omega arith

blank_place : (l : Layout) (u : ℕ) → u < l.units → place_of (volume l) (bitmap_sector (volume l) u + 1) ≡ blank
unfolding place_of
blank_place l u low =
    let v : Volume = volume l in
    let s : ℕ = bitmap_sector v u + 1 in
    let o : ℕ = s - v.first * 2 in
    let far : o ≡ 8192 * u + 1 = omega arith in
    let whole : 8192 * (o / 8192) + o % 8192 ≡ 8192 * u + 1 = omega (arith, div-add-mod' o 8192) in
    let short : o % 8192 < 8192 = mod_below o 8192 (lit< tt) in
    let unit : o / 8192 ≡ u = quotient u (o / 8192) (o % 8192) whole short in
    let index : o % 8192 ≡ 1 = rest u (o / 8192) (o % 8192) whole short in
    let inside : nat_lt s (v.first * 2) ≡ false = le-ltb s (v.first * 2) (omega arith) in
    let within : nat_le v.units u ≡ false = lt-leb v.units u low in
    ap (λ t. cond t outside (cond (nat_le v.units (o / 8192)) outside (place_in_unit v (o / 8192) (o % 8192)))) inside
    ∙ ap (λ q. cond (nat_le v.units q) outside (place_in_unit v q (o % 8192))) unit
    ∙ ap (λ t. cond t outside (place_in_unit v u (o % 8192))) within
    ∙ ap (place_in_unit v u) index

-- what the laws of the layers below say of an image
pub record Laws : Type 0 where
  pub bitmap : (v : Volume) (p : Parsed) (u : ℕ) → IsVolume v → u < v.units → content_at v p (bitmap_sector v u) ≡ Some (bits_bytes (used_in v p u))
  pub inodes : (v : Volume) (p : Parsed) (n : ℕ) → IsVolume v → n < 128 * v.units → content_at v p (inode_sector v n) ≡ Some (slot_bytes (p.inodes (2 * (n / 2))) ++ slot_bytes (p.inodes (2 * (n / 2) + 1)))
  pub parts : (v : Volume) (p : Parsed) (b i : ℕ) → IsVolume v → IsTrue (is_data v b) → i < per_block v
      → content_at v p (block_sector (per_block v) b + i) ≡ option_map (λ x. sector_part i (form_bytes v.block x)) (p.forms b)
  pub block : (s : State) (n i : ℕ) (d : DirectoryBlock) → IsLaidOut s → slice_get (blocks_at s.layout n) i ≡ Some d → claim_of s.layout d.block ≡ Some (record { ino = n; form = Some (Entries d.entries) })
  pub map_block : (s : State) (n k : ℕ) (c : Claimed) → IsLaidOut s → slice_get (chain_at s.layout n) k ≡ Some c → claim_of s.layout c.block ≡ Some (record { ino = n; form = c.form })
  pub on_device : (s : State) (b : ℕ) → is_some (claim_of s.layout b) ≡ is_on_device s.layout b
  pub within : Within
  pub decoding : DecodingLaws
  pub says : StateSays

volume_is : (l : Layout) → IsVolume (volume l)
volume_is l = (whole_blocks l).volume

module _ (laws : Laws) (s : State) (w : IsConsistent s) (strict : Bool) (named : strict ≡ true → AreNamed s) (image : Image) (stands : Stands (volume s.layout) (parsed_of s) image) where
  abbrev v : Volume
  v = volume s.layout

  abbrev is : IsLaidOut s
  is = w.laid_out

  abbrev l : Layout
  l = s.layout

  abbrev here : IsImageOf s image
  here = record { laid_out = is; stands = stands }

  at_sector : (x : ℕ) (bytes : List ℕ) → content_at v (parsed_of s) x ≡ Some bytes → image x ≡ bytes
  at_sector x bytes e = subst (λ (o : Option (List ℕ)). IfSome o (λ b. image x ≡ b)) e (stands x)

  -- ---- an inode's bytes

  pair_is : (n : ℕ) → n < 128 * l.units → image (inode_sector v n) ≡ slot_bytes (inode_value s (2 * (n / 2))) ++ slot_bytes (inode_value s (2 * (n / 2) + 1))
  pair_is n low = at_sector (inode_sector v n) _ (laws.inodes v (parsed_of s) n (volume_is l) low)

  slot_is : (n : ℕ) → IsSlot layout1 (inode_value s n)
  slot_is n = slot_by (inode_value s n) (128 * l.units) n ((laws.says.spelled s is).inodes n)

  slot_length : (n : ℕ) → length (slot_bytes (inode_value s n)) ≡ 256
  slot_length n = length-slot (inode_value s n) (slot_is n)

  pair_length : (n : ℕ) → n < 128 * l.units → length (image (inode_sector v n)) ≡ 512
  pair_length n low =
      ap length (pair_is n low)
      ∙ omega (arith, length-append (slot_bytes (inode_value s (2 * (n / 2)))) (slot_bytes (inode_value s (2 * (n / 2) + 1))), slot_length (2 * (n / 2)), slot_length (2 * (n / 2) + 1))

  half_is : (n r : ℕ) → n < 128 * l.units → r < 2 → half_of (image (inode_sector v n)) r ≡ slot_bytes (inode_value s (2 * (n / 2) + r))
  half_is n zero low few =
      let f : 2 * (n / 2) ≡ 2 * (n / 2) + 0 = omega arith in
      ap (λ (xs : List ℕ). take 256 xs) (pair_is n low) ∙ take_at (slot_bytes (inode_value s (2 * (n / 2)))) _ 256 (slot_length (2 * (n / 2))) ∙ ap (λ (k : ℕ). slot_bytes (inode_value s k)) f
  half_is n (suc zero) low few =
      let second = slot_length (2 * (n / 2) + 1) in
      let short : length (slot_bytes (inode_value s (2 * (n / 2) + 1))) ≤ 256 = omega arith in
      ap (λ (xs : List ℕ). take 256 (drop 256 xs)) (pair_is n low) ∙ ap (take 256) (drop_at (slot_bytes (inode_value s (2 * (n / 2)))) _ 256 (slot_length (2 * (n / 2))))
      ∙ take_all 256 (slot_bytes (inode_value s (2 * (n / 2) + 1))) short
  half_is n (suc (suc r)) low few = absurd (omega arith)

  inode_bytes_are : (n : ℕ) → n < 128 * l.units → inode_bytes_at v image n ≡ slot_bytes (inode_value s n)
  inode_bytes_are n low =
      let few : n % 2 < 2 = mod_below n 2 (omega arith) in
      let whole : 2 * (n / 2) + n % 2 ≡ n = (let e = div-add-mod' n 2 in omega arith) in
      half_is n (n % 2) low few ∙ ap (λ (k : ℕ). slot_bytes (inode_value s k)) whole

  free_by : (n : ℕ) (o : Option Node) → IsHeld l n o → n < 2 → option_map (inode_for (settled_of l n)) o ≡ None
  free_by n None h low = refl
  free_by n (Some node) h low = absurd (let high = h.1 in omega (arith, high, low))

  inode_right : (n : ℕ) → n < 128 * l.units → IsInodeRight v image n
  inode_right n low = record {
    slot = inode_value s n;
    is_slot = slot_is n;
    spelled = inode_bytes_are n low;
    whole = pair_length n low;
    first_two = λ small. free_by n (map_of.get s.tree.nodes n) (is.nodes n) small;
  }

  -- what holds of the inode that the state has holds of the one that is said
  said_from : (P : InodeValue → Type 0) (n : ℕ) → ((i : InodeValue) → inode_value s n ≡ Some i → P i) → IfSome (inode_said v image n) P
  said_from P n h = subst (λ (o : Option InodeValue). IfSome o P) (sym (laws.says.inodes s image here n)) (some_by P (inode_value s n) h)

  value : (n : ℕ) (i : InodeValue) → inode_value s n ≡ Some i → IsValueOf (settled_of l n) i
  value n i e = value_by (settled_of l n) (map_of.get s.tree.nodes n) i e

  -- ---- blocks with a form

  record HasForm (b : ℕ) (x : Form) : Type 0 where
    is_form : IsForm 1024 x
    spelled : block_bytes v image b ≡ form_bytes 1024 x
    whole : IsWholeBlock v image b

  formed : (b : ℕ) (x : Form) → (parsed_of s).forms b ≡ Some x → HasForm b x
  formed b x at =
      let fits = subst (λ (o : Option Form). IfSome o (λ y. IsForm 1024 y × IsTrue (is_data v b))) at ((laws.says.spelled s is).forms b) in
      record {
        is_form = fits.0;
        spelled = subst (λ (o : Option Form). IfSome o (λ y. block_bytes v image b ≡ form_bytes 1024 y)) at (laws.decoding.blocks v (parsed_of s) image (whole_blocks l) (laws.says.spelled s is) stands b);
        whole = λ i low.
            ap length (at_sector (block_sector 2 b + i) (sector_part i (form_bytes 1024 x))
            (laws.parts v (parsed_of s) b i (volume_is l) fits.1 low ∙ ap (option_map (λ (y : Form). sector_part i (form_bytes 1024 y))) at))
            ∙ length-part x i fits.0 low;
      }

  -- ---- map blocks

  abbrev es_of : ℕ → List Extent
  es_of n = stretches (settled_at l n)

  link_form : (n k : ℕ) → k < length (settled_maps l n) → (parsed_of s).forms (get_or (settled_maps l n) k 0) ≡ Some (Extents (link n (drop 6 (es_of n)) (settled_maps l n) k))
  link_form n k less =
      ap (option_and_then (λ (c : Claim). c.form))
      (laws.map_block s n k (record { block = get_or (settled_maps l n) k 0; form = Some (Extents (link n (drop 6 (es_of n)) (settled_maps l n) k)) }) is
      (chain_got n (drop 6 (es_of n)) (settled_maps l n) k less))

  chained : (n : ℕ) (i : InodeValue) → inode_value s n ≡ Some i → chain_said v image i ≡ settled_maps l n
  chained n i e = laws.says.chain s image here n i e

  claims_parted : (n : ℕ) → AreClaimable v (claims_below v image n) (settled_maps l n ++ page_blocks (settled_at l n))
  claims_parted = claims_apart laws.within laws.says s w image stands

  map_in_place : (n k : ℕ) (i : InodeValue) → inode_value s n ≡ Some i → k < i.maps → IsMapInPlace v image n k i
  map_in_place n k i e less =
      let count = (value n i e).maps in
      subst (λ (ms : List ℕ). facts.IsClaimable v (claims_below v image n ++ take k ms) (get_or ms k 0)) (sym (chained n i e))
      (claimable_at v (claims_below v image n) (settled_maps l n) k (claimable_first v (claims_below v image n) (settled_maps l n) (page_blocks (settled_at l n)) (claims_parted n)) (omega (arith, less, count)))

  map_right : (n k : ℕ) (i : InodeValue) → inode_value s n ≡ Some i → k < i.maps → IsMapRight v image n k i
  map_right n k i e less =
      let is_value = value n i e in
      let count = is_value.maps in
      let said : get_or (chain_said v image i) k 0 ≡ get_or (settled_maps l n) k 0 = ap (λ (ms : List ℕ). get_or ms k 0) (chained n i e) in
      let m : MapBlock = link n (drop 6 (es_of n)) (settled_maps l n) k in
      let has = formed (get_or (settled_maps l n) k 0) (Extents m) (link_form n k (omega (arith, less, count))) in
      let after : suc k ≡ k + 1 = omega arith in
      record {
        map = m;
        is_map = has.is_form;
        spelled = ap (block_bytes v image) said ∙ has.spelled;
        whole = subst (IsWholeBlock v image) (sym said) has.whole;
        owner = refl;
        share = share_is n (es_of n) (settled_maps l n) k ∙ ap (λ (x : ℕ). cond (nat_lt (x - 6 - 63 * k) 63) (x - 6 - 63 * k) 63) (sym is_value.extents);
        next = next_is (suc k) (settled_maps l n) ∙ ap (λ (x : ℕ). nat_lt x (length (settled_maps l n))) after ∙ ap (nat_lt (k + 1)) (sym count);
      }

  -- ---- extents

  extents_right : (n : ℕ) (i : InodeValue) → inode_value s n ≡ Some i → AreExtentsRight v image n i
  extents_right n i e =
      let es = laws.says.extents s image here n i e in
      let bs = laws.says.blocks s image here n i e in
      let pages = pages_right l is.limit n (map_of.get s.tree.nodes n) i (is.nodes n) e in record {
        each = subst (AllByRecursion (IsExtentRight v i)) (sym es) (each_right l i (settled_at l n) pages.rising pages.right);
        order = subst AreInOrder (sym es) (in_order l i (settled_at l n) pages.rising pages.right);
        kind = subst (λ (xs : List ℕ). FitKind i.inode.kind v i xs (extents_said v image i)) (sym bs) (subst (FitKind i.inode.kind v i (page_blocks (settled_at l n))) (sym es) pages.kind);
        claims = subst (λ (ms : List ℕ). AreClaimable v (claims_below v image n ++ ms) (blocks_said v image i)) (sym (chained n i e))
            (subst (AreClaimable v (claims_below v image n ++ settled_maps l n)) (sym bs)
            (claimable_rest v (claims_below v image n) (settled_maps l n) (page_blocks (settled_at l n)) (claims_parted n)));
      }

  -- ---- directory blocks

  abbrev block_of : ℕ → ℕ → DirectoryBlock
  block_of n k = get_or (blocks_at l n) k no_block

  block_got : (n k : ℕ) → k < length (blocks_at l n) → slice_get (blocks_at l n) k ≡ Some (block_of n k)
  block_got n k less = slice_get-get_or (blocks_at l n) k no_block less

  block_form : (n k : ℕ) → k < length (blocks_at l n) → (parsed_of s).forms (block_of n k).block ≡ Some (Entries (block_of n k).entries)
  block_form n k less = ap (option_and_then (λ (c : Claim). c.form)) (laws.block s n k (block_of n k) is (block_got n k less))

  block_is : (n k : ℕ) → k < length (blocks_at l n) → block_at v image n k ≡ (block_of n k).block
  block_is n k less = ap (λ (bs : List ℕ). get_or bs k 0) (laws.says.directories s image here n) ∙ get_or-map (λ (d : DirectoryBlock). d.block) (blocks_at l n) k no_block 0 less

  said_by : (ds : List DirectoryBlock) (k : ℕ) → AllByRecursion (λ (d : DirectoryBlock). entries_said v image d.block ≡ d.entries) ds → flat_map (entries_said v image) (take k (block_numbers ds)) ≡ entries_of (take k ds)
  said_by ds zero all = refl
  said_by [] (suc k) all = refl
  said_by (d ∷ ds) (suc k) all = ap₂ (λ (xs ys : List DirEntry). xs ++ ys) all.0 (said_by ds k all.1)

  before_is : (n k : ℕ) → entries_below v image n k ≡ entries_of (take k (blocks_at l n))
  before_is n k =
      ap (λ (bs : List ℕ). flat_map (entries_said v image) (take k bs)) (laws.says.directories s image here n)
      ∙ said_by (blocks_at l n) k (all_got (λ (d : DirectoryBlock). entries_said v image d.block ≡ d.entries) (blocks_at l n) (laws.says.entries s image here n))

  entries_right : (n k : ℕ) → k < length (blocks_at l n) → AreEntriesRight v image n k
  entries_right n k less =
      let has = formed (block_of n k).block (Entries (block_of n k).entries) (block_form n k less) in record {
        entries = (block_of n k).entries;
        is_dir = has.is_form;
        spelled = ap (block_bytes v image) (block_is n k less) ∙ has.spelled;
        whole = subst (IsWholeBlock v image) (sym (block_is n k less)) has.whole;
        names = subst (λ (zs : List DirEntry). AreNamesRight zs (block_of n k).entries) (sym (before_is n k)) (names_at [] (blocks_at l n) k (w.names n) less);
      }

  targets_right : (n k : ℕ) → n < 128 * l.units → k < length (blocks_at l n) → AreTargetsRight v image n k
  targets_right n k low less =
      let said = ap (entries_said v image) (block_is n k less) ∙ laws.says.entries s image here n k (block_of n k) (block_got n k less) in
      subst (AllByRecursion (HasTarget v image)) (sym said)
      (at_place (λ (d : DirectoryBlock). AllByRecursion (HasTarget v image) d.entries) (blocks_at l n) k no_block (entries_all (HasTarget v image) (blocks_at l n) (targets laws.within laws.says s w image stands n low)) less)

  fewer : (n k : ℕ) → k < length (directory_blocks v image (inode_said v image n)) → k < length (blocks_at l n)
  fewer n k less =
      let count : length (directory_blocks v image (inode_said v image n)) ≡ length (blocks_at l n) =
      ap (λ (bs : List ℕ). length bs) (laws.says.directories s image here n) ∙ length-map (blocks_at l n) (λ (d : DirectoryBlock). d.block) in
      omega (arith, less, count)

  inode_sound : (n : ℕ) → n < 128 * l.units → IsInodeSound v image n
  inode_sound n low = record {
    slot = inode_right n low;
    map_places = λ k. said_from (λ i. k < i.maps → IsMapInPlace v image n k i) n (λ i e less. map_in_place n k i e less);
    maps = λ k. said_from (λ i. k < i.maps → IsMapRight v image n k i) n (λ i e less. map_right n k i e less);
    extents = said_from (AreExtentsRight v image n) n (λ i e. extents_right n i e);
    entries = λ k less. entries_right n k (fewer n k less);
    targets = λ k less. targets_right n k low (fewer n k less);
  }

  -- ---- links

  links_by : (n : ℕ) (o : Option Node) → map_of.get s.tree.nodes n ≡ o → n ≢ root → IfSome (option_map (inode_for (settled_of l n)) o) (λ i. FitNames strict v image n i i.inode.kind)
  links_by n None at ne = tt
  links_by n (Some (IsFile f)) at ne = record { links = names_alike laws.within laws.says s w image stands n ∙ file_names s w.links n f at; some = λ e. named e n f at }
  links_by n (Some (IsDirectory d)) at ne = record {
    one = names_alike laws.within laws.says s w image stands n ∙ directory_names s w.links n d at ne;
    reached = reached_alike laws.within laws.says s w image stands n (reached s w.links w.no_loops n d at);
  }

  root_kind : (h : Held) (o : Option Node) → IfThere o IsDirectoryNode → option_map (λ (i : InodeValue). i.inode.kind) (option_map (inode_for h) o) ≡ Some kind.Directory
  root_kind h None is_there = absurd is_there
  root_kind h (Some (IsFile f)) is_there = absurd is_there
  root_kind h (Some (IsDirectory d)) is_there = refl

  root_right : IsRoot v image (inode_said v image root)
  root_right = record {
    directory = ap (option_map (λ (i : InodeValue). i.inode.kind)) (laws.says.inodes s image here root) ∙ root_kind (settled_of l root) (map_of.get s.tree.nodes root) is.has_root;
    no_name = names_alike laws.within laws.says s w image stands root ∙ root_names s w.links is.has_root;
  }

  links_right : (n : ℕ) → AreLinksRight strict v image n
  links_right n = record {
    root_is = λ e. subst (λ (k : ℕ). IsRoot v image (inode_said v image k)) (sym e) root_right;
    other = λ ne. subst (λ (o : Option InodeValue). IfSome o (λ i. FitNames strict v image n i i.inode.kind)) (sym (laws.says.inodes s image here n)) (links_by n (map_of.get s.tree.nodes n) refl ne);
  }

  -- ---- bitmaps

  some_ino : (o : Option Claim) → is_some (option_map (λ (c : Claim). c.ino) o) ≡ is_some o
  some_ino None = refl
  some_ino (Some c) = refl

  used_alike : (u j : ℕ) → used_in v (parsed_of s) u j ≡ facts.used_in v image u j
  used_alike u j =
      ap (λ t. nat_lt j (first_data (per_block v)) || t)
      (some_ino (claim_of l (unit_block v u + j)) ∙ laws.on_device s (unit_block v u + j) ∙ sym (below_alike laws.within laws.says s w image stands (unit_block v u + j) (128 * l.units)))

  blank_is : (u : ℕ) → u < l.units → image (bitmap_sector v u + 1) ≡ replicate 512 0
  blank_is u low = subst (λ (q : Place). IfSome (content v (parsed_of s) q) (λ bytes. image (bitmap_sector v u + 1) ≡ bytes)) (blank_place l u low) (stands (bitmap_sector v u + 1))

  bitmap_right : (u : ℕ) → u < l.units → IsBitmapRight v image u
  bitmap_right u low = record {
    bits = at_sector (bitmap_sector v u) _ (laws.bitmap v (parsed_of s) u (volume_is l) low) ∙ ap bits_bytes (fun_ext (used_alike u));
    rest = λ i some few. (let e : i ≡ 1 = one_only i some few in subst (λ (k : ℕ). image (bitmap_sector v u + k) ≡ replicate 512 0) (sym e) (blank_is u low));
  }
    where
      one_only : (i : ℕ) → 0 < i → i < 2 → i ≡ 1
      one_only i some few = omega arith

  pub sound : IsSound strict v image
  sound = record {
    inodes = inode_sound;
    links = λ n low. links_right n;
    bitmaps = bitmap_right;
  }
