-- A batch that has the sectors of all that is touched is whole.
use Rattle.std.proofs.Common.{◌≡◌, ◌⊎◌, ℕ, zero, suc, ◌+◌, ◌*◌, ◌/◌, ◌<◌, Bool, true, false, List, [], ◌∷◌, ◌++◌, map, Option, Some, None, refl, sym, ap, subst, ◌∙◌, arith, inl, inr, lit<}
use Rattle.std.specs.Prelude.{◌||◌, IfSome, nat_lt, slice_get}
use Rattle.std.specs.Option.{option_map, option_and_then}
use Rattle.std.specs.List.{AllByRecursion}
use Rattle.std.proofs.lemmas.Bool.{true≢false}
use Rattle.std.proofs.lemmas.Option.{slice_get-map, none-some}
use Rattle.vx_layout.specs.Places.{Volume, Place, outside, blank, bits, slots, part, per_block, unit_block, first_data, block_sector, bitmap_sector, pair_sector, inode_sector, place_of, IsPlaceOf, sector_part}
use Rattle.vx_layout.specs.Bits.{bit_value, bit_byte, bits_from, bits_bytes}
use Rattle.vx_layout.specs.Inodes.{slot_bytes}
use Rattle.vx_layout.specs.LogForms.{AfterImage}
use Rattle.vx_layout.proofs.Standing.{place_is}
use Rattle.vx_sound.specs.Reading.{Form, Entries, form_bytes, used_in}
use Rattle.vx_model.specs.Layout.{DirectoryBlock, Layout, Claim, Claimed, volume, blocks_at, space_at, chain_at, names_claimed, page_claimed, claim_of}
use Rattle.vx_model.specs.State.{State}
use Rattle.vx_model.specs.Images.{content, content_at, among, sectors_in, IsBatch}
use Rattle.vx_model.specs.Contents.{inode_value, parsed_of}
use Rattle.vx_model.specs.Touching.{Touched, IsTouched, HasTouched, has_place}
use Rattle.vx_model.proofs.BlockClaims.{claim_is, some_map}

-- ---- bits

byte_same : (f g : ℕ → Bool) (i : ℕ) → ((j : ℕ) → j < i + 8 → f j ≡ g j) → bit_byte f i ≡ bit_byte g i
unfolding bit_byte
byte_same f g i same =
    let e0 : f i ≡ g i = same i (omega arith) in
    let e1 = same (i + 1) (omega arith) in
    let e2 = same (i + 2) (omega arith) in
    let e3 = same (i + 3) (omega arith) in
    let e4 = same (i + 4) (omega arith) in
    let e5 = same (i + 5) (omega arith) in
    let e6 = same (i + 6) (omega arith) in
    let e7 = same (i + 7) (omega arith) in
    λ k. bit_value (e0 k) + 2 * bit_value (e1 k) + 4 * bit_value (e2 k) + 8 * bit_value (e3 k)
    + 16 * bit_value (e4 k) + 32 * bit_value (e5 k) + 64 * bit_value (e6 k) + 128 * bit_value (e7 k)

bits_same : (f g : ℕ → Bool) (n i : ℕ) → ((j : ℕ) → j < i + 8 * n → f j ≡ g j) → bits_from f i n ≡ bits_from g i n
unfolding bits_from
bits_same f g zero i same = refl
bits_same f g (suc n) i same =
    let one = byte_same f g i (λ j lt. same j (omega arith)) in
    let rest = bits_same f g n (i + 8) (λ j lt. same j (omega arith)) in
    λ k. one k ∷ rest k

sector_same : (f g : ℕ → Bool) → ((j : ℕ) → j < 4096 → f j ≡ g j) → bits_bytes f ≡ bits_bytes g
unfolding bits_bytes
sector_same f g same = bits_same f g 512 0 (λ j lt. same j (omega arith))

-- ---- the places

same_content : (o p : Option (List ℕ)) → o ≡ p → IfSome o (λ bytes. p ≡ Some bytes)
same_content None p e = tt
same_content (Some x) p e = sym e

-- the sector of a thing that is touched is in the batch
not_missing : {A : Type 0} (b : Bool) → b ≡ true → b ≡ false → A
not_missing b has missing = absurd (true≢false (sym has ∙ missing))

-- ---- where a form stands

-- a form is that of a directory's block, or of a map block
pub record IsEntriesOf (l : Layout) (b : ℕ) (x : Claim) : Type 0 where
  pub index : ℕ
  pub directory_block : DirectoryBlock
  pub stands : slice_get (blocks_at l x.ino) index ≡ Some directory_block
  pub block : directory_block.block ≡ b
  pub form : x.form ≡ Some (Entries directory_block.entries)

pub record IsExtentsOf (l : Layout) (b : ℕ) (x : Claim) : Type 0 where
  pub index : ℕ
  pub claimed : Claimed
  pub stands : slice_get (chain_at l x.ino) index ≡ Some claimed
  pub block : claimed.block ≡ b
  pub form : x.form ≡ claimed.form

-- a thing of two lists is one of the first or of the second
either_list : {A : Type 0} (xs ys : List A) (k : ℕ) (x : A) → slice_get (xs ++ ys) k ≡ Some x → (slice_get xs k ≡ Some x) ⊎ ((j : ℕ) × (slice_get ys j ≡ Some x))
either_list [] ys k x h = inr (k, h)
either_list (y ∷ xs) ys zero x h = inl h
either_list (y ∷ xs) ys (suc k) x h = either_list xs ys k x h

was_mapped : {A B : Type 0} (f : A → B) (o : Option A) (y : B) → option_map f o ≡ Some y → (x : A) × (o ≡ Some x) × (f x ≡ y)
was_mapped f None y h = absurd cc
was_mapped f (Some x) y h = let e : f x ≡ y = cc in (x, refl, e)

mapped_from : {A B : Type 0} (f : A → B) (xs : List A) (k : ℕ) (y : B) → slice_get (map f xs) k ≡ Some y → (x : A) × (slice_get xs k ≡ Some x) × (f x ≡ y)
mapped_from f xs k y h = was_mapped f (slice_get xs k) y (sym (slice_get-map f xs k) ∙ h)

form_stands : (l : Layout) (b : ℕ) (x : Claim) (f : Form) → claim_of l b ≡ Some x → x.form ≡ Some f → IsEntriesOf l b x ⊎ IsExtentsOf l b x
form_stands l b x f h is =
    let c = claim_is l b x (128 * l.units) h in
    let found = c.among in
    let ino : x.ino ≡ c.ino = ap (λ (y : Claim). y.ino) found.claim in
    let form : x.form ≡ found.found.form = ap (λ (y : Claim). y.form) found.claim in
    elim (either_list (map names_claimed (blocks_at l c.ino)) (map page_claimed (space_at l c.ino).settled ++ chain_at l c.ino) found.place found.found found.stands) [
      | inl names ↦
          let d = mapped_from names_claimed (blocks_at l c.ino) found.place found.found names in
          inl (record {
            index = found.place;
            directory_block = d.0;
            stands = subst (λ (n : ℕ). slice_get (blocks_at l n) found.place ≡ Some d.0) (sym ino) d.1;
            block = ap (λ (y : Claimed). y.block) d.2 ∙ found.block;
            form = form ∙ ap (λ (y : Claimed). y.form) (sym d.2);
          })
      | inr rest ↦ elim (either_list (map page_claimed (space_at l c.ino).settled) (chain_at l c.ino) rest.0 found.found rest.1) [
        | inl pages ↦
            let m = mapped_from page_claimed (space_at l c.ino).settled rest.0 found.found pages in
            absurd (none-some f (ap (λ (y : Claimed). y.form) m.2 ∙ sym form ∙ is))
        | inr chain ↦ inr (record {
          index = chain.0;
          claimed = found.found;
          stands = subst (λ (n : ℕ). slice_get (chain_at l n) chain.0 ≡ Some found.found) (sym ino) chain.1;
          block = found.block;
          form = form;
        })
      ]
    ]

-- what is claimed is the claim of its block
pub record AreClaims (l : Layout) : Type 0 where
  pub block : (n i : ℕ) (d : DirectoryBlock) → slice_get (blocks_at l n) i ≡ Some d → claim_of l d.block ≡ Some (record { ino = n; form = Some (Entries d.entries) })
  pub map_block : (n k : ℕ) (c : Claimed) → slice_get (chain_at l n) k ≡ Some c → claim_of l c.block ≡ Some (record { ino = n; form = c.form })

module _ (old new : State) (t : Touched) (batch : List AfterImage) (claims : AreClaims old.layout) (is : IsTouched old new t) (has : HasTouched new t batch) where
  abbrev v : Volume
  v = volume new.layout

  -- ---- a bitmap

  bit_same : (u j : ℕ) → j < 4096 → among t.units u ≡ false → used_in v (parsed_of new) u j ≡ used_in v (parsed_of old) u j
  bit_same u j lt h =
      let b : ℕ = unit_block v u + j in
      ap (λ x. nat_lt j (first_data (per_block v)) || x)
      (some_map (λ (c : Claim). c.ino) (claim_of new.layout (unit_block v u + j)) ∙ is.units u j lt h ∙ sym (some_map (λ (c : Claim). c.ino) (claim_of old.layout (unit_block v u + j))))

  bits_whole : (s u : ℕ) → u < v.units → s ≡ bitmap_sector v u → sectors_in batch s ≡ false → (x : Bool) → among t.units u ≡ x
      → content v (parsed_of new) (bits u) ≡ content v (parsed_of old) (bits u)
  bits_whole s u lt at none true h = not_missing (sectors_in batch s) (ap (sectors_in batch) at ∙ has.units u h lt) none
  bits_whole s u lt at none false h = ap Some (sector_same (used_in v (parsed_of new) u) (used_in v (parsed_of old) u) (λ j low. bit_same u j low h))

  -- ---- two inodes

  inode_by : (n : ℕ) → n < 128 * v.units → sectors_in batch (inode_sector v n) ≡ false → (x : Bool) → among t.inodes n ≡ x → inode_value new n ≡ inode_value old n
  inode_by n lt none true h = not_missing (sectors_in batch (inode_sector v n)) (has.inodes n h lt) none
  inode_by n lt none false h = is.inodes n h

  slots_whole : (s k : ℕ) → k < 64 * v.units → s ≡ pair_sector v k → sectors_in batch s ≡ false
      → content v (parsed_of new) (slots k) ≡ content v (parsed_of old) (slots k)
  slots_whole s k lt at none =
      let missing : sectors_in batch (pair_sector v k) ≡ false = ap (sectors_in batch) (sym at) ∙ none in
      let even : k ≡ 2 * k / 2 = omega arith in
      let odd : k ≡ (2 * k + 1) / 2 = omega arith in
      let a = inode_by (2 * k) (omega arith) (subst (λ (w : ℕ). sectors_in batch (pair_sector v w) ≡ false) even missing) _ refl in
      let b = inode_by (2 * k + 1) (omega arith) (subst (λ (w : ℕ). sectors_in batch (pair_sector v w) ≡ false) odd missing) _ refl in
      λ i. Some (slot_bytes (a i) ++ slot_bytes (b i))

  -- ---- a part of a block that holds metadata

  abbrev form_of : Option Claim → Option Form
  form_of o = option_and_then (λ (c : Claim). c.form) o

  abbrev half : ℕ → Option Form → Option (List ℕ)
  half i o = option_map (λ (x : Form). sector_part i (form_bytes v.block x)) o

  -- where the sector is in no batch, the old state said the same of the block
  entries_were : (s b i : ℕ) (x : Claim) → i < 2 → s ≡ block_sector 2 b + i → sectors_in batch s ≡ false → (e : IsEntriesOf new.layout b x) → (y : Bool) → has_place t.blocks x.ino e.index ≡ y → form_of (claim_of old.layout b) ≡ x.form
  entries_were s b i x lt at none e true h =
      not_missing (sectors_in batch s) (ap (sectors_in batch) (at ∙ ap (λ (c : ℕ). block_sector 2 c + i) (sym e.block)) ∙ has.blocks x.ino e.index i e.directory_block h e.stands lt) none
  entries_were s b i x lt at none e false h =
      ap (λ (c : ℕ). form_of (claim_of old.layout c)) (sym e.block) ∙ ap form_of (claims.block x.ino e.index e.directory_block (is.blocks x.ino e.index e.directory_block h e.stands)) ∙ sym e.form

  extents_were : (s b i : ℕ) (x : Claim) → i < 2 → s ≡ block_sector 2 b + i → sectors_in batch s ≡ false → (e : IsExtentsOf new.layout b x) → (y : Bool) → among t.maps x.ino ≡ y → form_of (claim_of old.layout b) ≡ x.form
  extents_were s b i x lt at none e true h =
      not_missing (sectors_in batch s) (ap (sectors_in batch) (at ∙ ap (λ (c : ℕ). block_sector 2 c + i) (sym e.block)) ∙ has.maps x.ino e.index i e.claimed h e.stands lt) none
  extents_were s b i x lt at none e false h =
      ap (λ (c : ℕ). form_of (claim_of old.layout c)) (sym e.block) ∙ ap form_of (claims.map_block x.ino e.index e.claimed (is.maps x.ino e.index e.claimed h e.stands)) ∙ sym e.form

  form_was : (s b i : ℕ) (x : Claim) (f : Form) → i < 2 → s ≡ block_sector 2 b + i → sectors_in batch s ≡ false → claim_of new.layout b ≡ Some x → x.form ≡ Some f → form_of (claim_of old.layout b) ≡ x.form
  form_was s b i x f lt at none h form = elim (form_stands new.layout b x f h form) [
    | inl e ↦ entries_were s b i x lt at none e (has_place t.blocks x.ino e.index) refl
    | inr e ↦ extents_were s b i x lt at none e (among t.maps x.ino) refl
  ]

  form_by : (s b i : ℕ) (x : Claim) (o : Option Form) → i < 2 → s ≡ block_sector 2 b + i → sectors_in batch s ≡ false → claim_of new.layout b ≡ Some x → x.form ≡ o → IfSome (half i o) (λ bytes. half i (form_of (claim_of old.layout b)) ≡ Some bytes)
  form_by s b i x None lt at none h form = tt
  form_by s b i x (Some f) lt at none h form = ap (half i) (form_was s b i x f lt at none h form ∙ form)

  part_whole : (s b i : ℕ) (o : Option Claim) → i < 2 → s ≡ block_sector 2 b + i → sectors_in batch s ≡ false → claim_of new.layout b ≡ o → IfSome (half i (form_of o)) (λ bytes. half i (form_of (claim_of old.layout b)) ≡ Some bytes)
  part_whole s b i None lt at none h = tt
  part_whole s b i (Some x) lt at none h = form_by s b i x x.form lt at none h refl

  place_whole : (s : ℕ) (p : Place) → IsPlaceOf v s p → sectors_in batch s ≡ false → IfSome (content v (parsed_of new) p) (λ bytes. content v (parsed_of old) p ≡ Some bytes)
  place_whole s outside at none = tt
  place_whole s blank at none = refl
  place_whole s (bits u) at none = same_content _ _ (bits_whole s u at.0 at.1 none _ refl)
  place_whole s (slots k) at none = same_content _ _ (slots_whole s k at.0 at.1 none)
  place_whole s (part b i) at none = part_whole s b i (claim_of new.layout b) at.1 at.2 none refl

  pub touched_batch : AllByRecursion (λ e. content_at (volume new.layout) (parsed_of new) e.0 ≡ Some e.1) batch → IsBatch (volume new.layout) (parsed_of old) (parsed_of new) batch
  touched_batch right = record {
    right = right;
    whole = λ s none. place_whole s (place_of v s) (place_is v s (record { some = lit< tt; even = refl })) none;
  }
