-- A sound image holds what it says.
use Rattle.std.proofs.Common.{◌≡◌, ◌⊎◌, ℕ, zero, suc, ◌+◌, ◌*◌, ◌/◌, ◌%◌, ◌<◌, Bool, true, false, cond, List, [], ◌∷◌, ◌++◌, length, take, drop, get_or, refl, sym, ap, ap₂, subst, ◌∙◌, inl, inr, arith, rules}
use Rattle.std.specs.Prelude.{Option, Some, None, IfSome, is_some, ◌==◌, ◌||◌, nat_lt}
use Rattle.std.specs.Option.{option_map, option_and_then, unwrap_or}
use Rattle.std.specs.List.{flat_map}
use Rattle.std.proofs.lemmas.Bool.{eqb-true}
use Rattle.std.proofs.lemmas.List.{take_at, take-append-drop, length-drop, take_all}
use Rattle.std.proofs.lemmas.List.Folds.{list_any-append}
use Rattle.std.proofs.Math.Path.{fun_ext}
use Rattle.std.proofs.Math.Nat.{mul-add-div, add-mul-mod_self_left}
use Rattle.vx_base.specs.declared.kind.FileKind.{FileKind}
use Rattle.vx_base.specs.declared.kind.FileKind.TheVariants.{File, Directory}
use Rattle.vx_base.specs.declared.inode.InodeValue.{InodeValue}
use Rattle.vx_base.specs.declared.inode.DirEntry.{DirEntry}
use Rattle.vx_layout.specs.Places.{Volume, Place, outside, blank, bits, slots, part, per_block, unit_block, first_data, place_of, bitmap_sector, pair_sector, block_sector, sector_part, IsPlaceOf}
use Rattle.vx_layout.specs.Bits.{bits_bytes}
use Rattle.vx_layout.specs.Inodes.{layout1, slot_bytes, slot_at, half_of}
use Rattle.vx_layout.specs.Maps.{map_bytes, map_block_at}
use Rattle.vx_layout.specs.Dirs.{dir_bytes, dir_at}
use Rattle.vx_sound.specs.FirstFault.{numbers}
use Rattle.vx_sound.specs.Said.{Image, among, inode_count, block_bytes, inode_bytes_at, inode_said, map_said, chain_said, blocks_said, claimed_by, claims_below, directory_blocks, blocks_by_kind, entries_said}
use Rattle.vx_sound.specs.Facts.{IsInodeRight, IsMapRight, IsWholeBlock}
use Rattle.vx_sound.specs.Sound.{IsSound}
use Rattle.vx_sound.specs.Reading.{Form, Entries, Extents, form_bytes, used_in, content, Stands, owner_below, owner, form_by_kind, form_in, form_said, said}
use Rattle.vx_sound.proofs.Volumes.{Spelling}
use Rattle.vx_sound.proofs.Sounds.{claims_more, claims_none, chain_short, there}

-- ---- lists

pub or_true : (a : Bool) → (a || true) ≡ true
or_true true = refl
or_true false = refl

or_false : (a : Bool) → (a || false) ≡ a
or_false true = refl
or_false false = refl

record IsAt (xs : List ℕ) (x : ℕ) : Type 0 where
  pub index : ℕ
  pub inside : index < length xs
  pub is : get_or xs index 0 ≡ x

pub among_cons : (y : ℕ) (ys : List ℕ) (x : ℕ) → among (y ∷ ys) x ≡ ((x == y) || among ys x)
among_cons y ys x = list_any-append (λ z. x == z) (y ∷ []) ys ∙ ap (λ (t : Bool). t || among ys x) (or_false (x == y))

at_first : (x y : ℕ) (ys : List ℕ) (t : Bool) → (x == y) ≡ t → (among ys x ≡ true → IsAt ys x) → (t || among ys x) ≡ true → IsAt (y ∷ ys) x
at_first x y ys true e later h = record { index = 0; inside = omega arith; is = sym (eqb-true x y e) }
at_first x y ys false e later h = let rest = later h in record { index = suc rest.index; inside = (let less = rest.inside in omega arith); is = rest.is }

among_at : (xs : List ℕ) (x : ℕ) → among xs x ≡ true → IsAt xs x
among_at [] x h = absurd (cc)
among_at (y ∷ ys) x h = at_first x y ys (x == y) refl (among_at ys x) (sym (among_cons y ys x) ∙ h)

either_true : (a b : Bool) → (a || b) ≡ true → (a ≡ true) ⊎ (b ≡ true)
either_true true b h = inl refl
either_true false b h = inr h

-- the index-th 512 bytes of a list of whole sectors
part_of_whole : (f : ℕ → List ℕ) (a n i : ℕ) → i < n → ((k : ℕ) → k < n → length (f (a + k)) ≡ 512) → take 512 (drop (512 * i) (flat_map f (numbers a n))) ≡ f (a + i)
part_of_whole f a zero i less whole = absurd (omega arith)
part_of_whole f a (suc n) zero less whole =
    let e : a + 0 ≡ a = omega arith in
    let first : length (f a) ≡ 512 = subst (λ (x : ℕ). length (f x) ≡ 512) e (whole 0 (omega arith)) in
    take_at (f a) (flat_map f (numbers (suc a) n)) 512 first ∙ ap f (sym e)
part_of_whole f a (suc n) (suc i) less whole =
    let e : a + 0 ≡ a = omega arith in
    let first : length (f a) ≡ 512 = subst (λ (x : ℕ). length (f x) ≡ 512) e (whole 0 (omega arith)) in
    let far : 512 * suc i ≡ 512 + 512 * i = omega arith in
    let g : suc a + i ≡ a + suc i = omega arith in
    ap (λ (k : ℕ). take 512 (drop k (f a ++ flat_map f (numbers (suc a) n)))) far
    ∙ ap (take 512) (drop_past (f a) (flat_map f (numbers (suc a) n)) 512 (512 * i) first)
    ∙ part_of_whole f (suc a) n i (omega arith) (λ k low. let h : suc a + k ≡ a + suc k = omega arith in subst (λ (x : ℕ). length (f x) ≡ 512) (sym h) (whole (suc k) (omega arith)))
    ∙ ap f g
  where
    drop_past : (xs ys : List ℕ) (m k : ℕ) → length xs ≡ m → drop (m + k) (xs ++ ys) ≡ drop k ys
    drop_past [] ys m k h = let e : m + k ≡ k = omega arith in ap (λ (x : ℕ). drop x ys) e
    drop_past (x ∷ xs) ys m k h = let e : m + k ≡ suc (length xs + k) = omega arith in ap (λ (j : ℕ). drop j (x ∷ (xs ++ ys))) e ∙ drop_past xs ys (length xs) k refl

-- two halves of a whole sector
halves : (s : List ℕ) → length s ≡ 512 → s ≡ half_of s 0 ++ half_of s 1
halves s long =
    let rest : length (drop 256 s) ≡ 256 = length-drop 256 s ∙ (let e = long in omega arith) in
    sym (ap (λ (xs : List ℕ). take 256 s ++ xs) (take_all 256 (drop 256 s) (omega arith)) ∙ take-append-drop 256 s)

double_div : (k : ℕ) → 2 * k / 2 ≡ k
double_div k =
    let some : 0 < 2 = omega arith in
    let e : 2 * k ≡ 2 * k + 0 = omega arith in
    let f : k + 0 ≡ k = omega arith in
    ap (λ (x : ℕ). x / 2) e ∙ mul-add-div some k 0 ∙ f

odd_div : (k : ℕ) → (2 * k + 1) / 2 ≡ k
odd_div k =
    let some : 0 < 2 = omega arith in
    let f : k + 0 ≡ k = omega arith in
    mul-add-div some k 1 ∙ f

double_mod : (k : ℕ) → 2 * k % 2 ≡ 0
double_mod k = let e : 2 * k ≡ 0 + 2 * k = omega arith in ap (λ (x : ℕ). x % 2) e ∙ add-mul-mod_self_left 0 2 k

odd_mod : (k : ℕ) → (2 * k + 1) % 2 ≡ 1
odd_mod k = let e : 2 * k + 1 ≡ 1 + 2 * k = omega arith in ap (λ (x : ℕ). x % 2) e ∙ add-mul-mod_self_left 1 2 k

-- ---- owners

pub among_both : (xs ys : List ℕ) (b : ℕ) → among (xs ++ ys) b ≡ (among xs b || among ys b)
among_both xs ys b = list_any-append (λ y. b == y) xs ys

module _ (v : Volume) (image : Image) (b : ℕ) where
  owner_step : (n : ℕ) (t : Bool) → among (claimed_by v image (inode_said v image n)) b ≡ t → is_some (owner_below v image b n) ≡ among (claims_below v image n) b
      → is_some (cond t (Some n) (owner_below v image b n)) ≡ (among (claims_below v image n) b || t)
  owner_step n true e h = sym (or_true (among (claims_below v image n) b))
  owner_step n false e h = h ∙ sym (or_false (among (claims_below v image n) b))

  owner_claims : (n : ℕ) → is_some (owner_below v image b n) ≡ among (claims_below v image n) b
  unfolding owner_below
  owner_claims zero = sym (ap (λ (xs : List ℕ). among xs b) (claims_none v image))
  owner_claims (suc n) =
      let t = among (claimed_by v image (inode_said v image n)) b in
      owner_step n t refl (owner_claims n)
      ∙ sym (ap (λ (xs : List ℕ). among xs b) (claims_more v image n) ∙ among_both (claims_below v image n) (claimed_by v image (inode_said v image n)) b)

  owner_found : (n m : ℕ) (t : Bool) → among (claimed_by v image (inode_said v image n)) b ≡ t
      → (owner_below v image b n ≡ Some m → (m < n) × (among (claimed_by v image (inode_said v image m)) b ≡ true))
      → cond t (Some n) (owner_below v image b n) ≡ Some m → (m < suc n) × (among (claimed_by v image (inode_said v image m)) b ≡ true)
  owner_found n m true e below h =
      let same : n ≡ m = cc in
      (omega arith, subst (λ (x : ℕ). among (claimed_by v image (inode_said v image x)) b ≡ true) same e)
  owner_found n m false e below h = let r = below h in ((let less = r.0 in omega arith), r.1)

  pub owner_is : (n m : ℕ) → owner_below v image b n ≡ Some m → (m < n) × (among (claimed_by v image (inode_said v image m)) b ≡ true)
  unfolding owner_below
  owner_is zero m h = absurd (cc)
  owner_is (suc n) m h = owner_found n m (among (claimed_by v image (inode_said v image n)) b) refl (owner_is n m) h

-- ---- what stands at each place

module _ (strict : Bool) (v : Volume) (image : Image) (sp : Spelling v) (sound : IsSound strict v image) where
  inode_is : (n : ℕ) → n < inode_count v → (r : IsInodeRight v image n) → inode_said v image n ≡ r.slot
  unfolding inode_said
  inode_is n less r =
      let inside : nat_lt n (inode_count v) ≡ true = search rules in
      ap (λ (t : Bool). cond t (option_and_then (λ (o : Option InodeValue). o) (slot_at layout1 (inode_bytes_at v image n))) None) inside
      ∙ ap (option_and_then (λ (o : Option InodeValue). o)) (ap (slot_at layout1) r.spelled ∙ sp.slots_again r.slot r.is_slot)

  half_is : (n k h : ℕ) → n < inode_count v → n / 2 ≡ k → n % 2 ≡ h → half_of (image (pair_sector v k)) h ≡ slot_bytes (inode_said v image n)
  half_is n k h less quotient rest =
      let r = (sound.inodes n less).slot in
      ap₂ (λ (x y : ℕ). half_of (image (pair_sector v x)) y) (sym quotient) (sym rest) ∙ r.spelled ∙ ap slot_bytes (sym (inode_is n less r))

  slots_stand : (k : ℕ) → k < 64 * v.units → image (pair_sector v k) ≡ slot_bytes (inode_said v image (2 * k)) ++ slot_bytes (inode_said v image (2 * k + 1))
  slots_stand k less =
      let even : 2 * k < inode_count v = omega arith in
      let odd : 2 * k + 1 < inode_count v = omega arith in
      let whole : length (image (pair_sector v k)) ≡ 512 = subst (λ (x : ℕ). length (image (pair_sector v x)) ≡ 512) (double_div k) (sound.inodes (2 * k) even).slot.whole in
      halves (image (pair_sector v k)) whole
      ∙ ap₂ (λ (xs ys : List ℕ). xs ++ ys) (half_is (2 * k) k 0 even (double_div k) (double_mod k)) (half_is (2 * k + 1) k 1 odd (odd_div k) (odd_mod k))

  bits_stand : (u : ℕ) → u < v.units → image (bitmap_sector v u) ≡ bits_bytes (used_in v (said v image) u)
  bits_stand u less =
      (sound.bitmaps u less).bits
      ∙ ap bits_bytes (fun_ext (λ (j : ℕ). ap (λ (t : Bool). nat_lt j (first_data (per_block v)) || t) (sym (owner_claims v image (unit_block v u + j) (inode_count v)))))

  -- a block that holds metadata is spelled by what it is said to say
  abbrev IsRight : ℕ → Form → Type 0
  IsRight b x = (block_bytes v image b ≡ form_bytes v.block x) × IsWholeBlock v image b

  map_is : (n : ℕ) (i : InodeValue) (b : ℕ) → n < inode_count v → inode_said v image n ≡ Some i → among (chain_said v image i) b ≡ true → IsRight b (Extents (map_said v image b))
  map_is n i b less e h =
      let at = among_at (chain_said v image i) b h in
      let few : at.index < i.maps = let short = chain_short v image i.maps i.map in let a = at.inside in omega arith in
      let r = there (λ j. at.index < j.maps → IsMapRight v image n at.index j) (inode_said v image n) i e ((sound.inodes n less).maps at.index) few in
      let spelled : block_bytes v image b ≡ map_bytes v.block r.map = subst (λ (x : ℕ). block_bytes v image x ≡ map_bytes v.block r.map) at.is r.spelled in
      let same : map_said v image b ≡ r.map = ap map_block_at spelled ∙ sp.maps_again r.map r.is_map in
      (spelled ∙ sym (ap (map_bytes v.block) same), subst (IsWholeBlock v image) at.is r.whole)

  entries_are : (n b : ℕ) → n < inode_count v → among (directory_blocks v image (inode_said v image n)) b ≡ true → IsRight b (Entries (entries_said v image b))
  entries_are n b less h =
      let at = among_at (directory_blocks v image (inode_said v image n)) b h in
      let r = (sound.inodes n less).entries at.index at.inside in
      let spelled : block_bytes v image b ≡ dir_bytes v.block r.entries = subst (λ (x : ℕ). block_bytes v image x ≡ dir_bytes v.block r.entries) at.is r.spelled in
      let same : entries_said v image b ≡ r.entries = ap (λ (o : Option (List DirEntry)). unwrap_or o []) (ap dir_at spelled ∙ sp.dirs_again r.entries r.is_dir) in
      (spelled ∙ sym (ap (dir_bytes v.block) same), subst (IsWholeBlock v image) at.is r.whole)

  by_kind : (n : ℕ) (i : InodeValue) (b : ℕ) (kd : FileKind) (x : Form) → n < inode_count v → inode_said v image n ≡ Some i → i.inode.kind ≡ kd → among (blocks_said v image i) b ≡ true
      → form_by_kind v image b kd ≡ Some x → IsRight b x
  by_kind n i b File x less e kd h is = absurd (cc)
  by_kind n i b Directory x less e kd h is =
      let same : Entries (entries_said v image b) ≡ x = cc in
      let blocks : directory_blocks v image (inode_said v image n) ≡ blocks_said v image i = ap (directory_blocks v image) e ∙ ap (blocks_by_kind v image i) kd in
      subst (IsRight b) same (entries_are n b less (ap (λ (xs : List ℕ). among xs b) blocks ∙ h))

  by_chain : (n : ℕ) (i : InodeValue) (b : ℕ) (t : Bool) (x : Form) → n < inode_count v → inode_said v image n ≡ Some i → among (chain_said v image i) b ≡ t
      → (t || among (blocks_said v image i) b) ≡ true → cond t (Some (Extents (map_said v image b))) (form_by_kind v image b i.inode.kind) ≡ Some x → IsRight b x
  by_chain n i b true x less e c h is = let same : Extents (map_said v image b) ≡ x = cc in subst (IsRight b) same (map_is n i b less e c)
  by_chain n i b false x less e c h is = by_kind n i b i.inode.kind x less e refl h is

  by_inode : (n b : ℕ) (o : Option InodeValue) (x : Form) → n < inode_count v → inode_said v image n ≡ o → among (claimed_by v image o) b ≡ true
      → option_and_then (form_in v image b) o ≡ Some x → IsRight b x
  by_inode n b None x less e h is = absurd (cc)
  by_inode n b (Some i) x less e h is =
      by_chain n i b (among (chain_said v image i) b) x less e refl (sym (among_both (chain_said v image i) (blocks_said v image i) b) ∙ h) is

  by_owner : (b : ℕ) (o : Option ℕ) (x : Form) → owner v image b ≡ o → option_and_then (λ (n : ℕ). option_and_then (form_in v image b) (inode_said v image n)) o ≡ Some x → IsRight b x
  by_owner b None x e is = absurd (cc)
  by_owner b (Some n) x e is =
      let known = owner_is v image b (inode_count v) n e in
      by_inode n b (inode_said v image n) x known.0 refl known.1 is

  form_right : (b : ℕ) (x : Form) → form_said v image b ≡ Some x → IsRight b x
  unfolding form_said
  form_right b x h = by_owner b (owner v image b) x refl h

  part_is : (b index : ℕ) (x : Form) → index < per_block v → IsRight b x → image (block_sector (per_block v) b + index) ≡ sector_part index (form_bytes v.block x)
  unfolding sector_part
  part_is b index x less r =
      sym (ap (λ (xs : List ℕ). take 512 (drop (512 * index) xs)) (sym r.0)
      ∙ part_of_whole (λ (i : ℕ). image (block_sector (per_block v) b + i)) 0 (per_block v) index less (λ k low. let e : k ≡ 0 + k = omega arith in subst (λ (j : ℕ). length (image (block_sector (per_block v) b + j)) ≡ 512) e (r.1 k low))
      ∙ (let e : 0 + index ≡ index = omega arith in ap (λ (j : ℕ). image (block_sector (per_block v) b + j)) e))

  parts_stand : (s b index : ℕ) (o : Option Form) → form_said v image b ≡ o → index < per_block v → s ≡ block_sector (per_block v) b + index
      → IfSome (option_map (λ (x : Form). sector_part index (form_bytes v.block x)) o) (λ bytes. image s ≡ bytes)
  parts_stand s b index None e less at = tt
  parts_stand s b index (Some x) e less at = ap image at ∙ part_is b index x less (form_right b x e)

  place_stands : (s : ℕ) (q : Place) → place_of v s ≡ q → IsPlaceOf v s q → IfSome (content v (said v image) q) (λ bytes. image s ≡ bytes)
  place_stands s outside e is = tt
  place_stands s blank e is =
      let at = sp.blanks s e in
      ap image at.at ∙ (sound.bitmaps at.unit at.inside).rest at.index at.behind at.within
  place_stands s (bits u) e is = ap image is.1 ∙ bits_stand u is.0
  place_stands s (slots k) e is = ap image is.1 ∙ slots_stand k is.0
  place_stands s (part b index) e is = parts_stand s b index (form_said v image b) refl is.1 is.2

  pub stands : Stands v (said v image) image
  stands s = place_stands s (place_of v s) refl (sp.named s)
