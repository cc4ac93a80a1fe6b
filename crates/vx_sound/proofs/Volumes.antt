-- In a volume of whole blocks what is spelled is read again, and each sector has its place.
use Rattle.std.proofs.Common.{◌≡◌, ℕ, zero, suc, ◌+◌, ◌-◌, ◌*◌, ◌/◌, ◌%◌, ◌<◌, ◌≤◌, Bool, true, false, cond, List, [], ◌∷◌, ◌++◌, length, replicate, refl, ◌∙◌, arith, length-append}
use Rattle.std.specs.Prelude.{Option, Some, None, unwrap_or, ◌==◌, nat_lt, nat_le, IsTrue}
use Rattle.std.specs.Int.{w32, to_le_bytes}
use Rattle.std.specs.List.{flat_map}
use Rattle.std.proofs.lemmas.Bool.{ltb-true, ltb-false, leb-false}
use Rattle.std.proofs.lemmas.Nat.{div-add-mod'}
use Rattle.std.proofs.lemmas.List.{length-replicate}
use Rattle.vx_base.specs.declared.inode.InodeValue.{InodeValue}
use Rattle.vx_base.specs.declared.inode.Extent.{Extent}
use Rattle.vx_base.specs.declared.inode.DirEntry.{DirEntry}
use Rattle.vx_layout.specs.Places.{Volume, Place, outside, blank, bits, slots, part, per_block, is_data, block_sector, bitmap_sector, inode_sector, place_in_unit, place_of, IsPlaceOf}
use Rattle.vx_layout.specs.Inodes.{layout1, place_bytes, inode_head, inode_bytes, slot_bytes, slot_at, extent_bytes, IsInode, IsSlot}
use Rattle.vx_layout.specs.Maps.{MapBlock, IsMap, map_head, map_bytes, map_block_at}
use Rattle.vx_layout.specs.Dirs.{IsDir, dir_bytes, dir_at}
use Rattle.vx_layout.proofs.Standing.{place_is, place_inode, place_part}
use Rattle.vx_codec.proofs.InodeLaws.{slot_again}
use Rattle.vx_codec.proofs.MapLaws.{block_again, length-extents, length-head as length-map_head}
use Rattle.vx_codec.proofs.DirLaws.{dir_again, length-dir}
use Rattle.vx_sound.specs.Said.{inode_count}
use Rattle.vx_sound.specs.Reading.{Form, Entries, Extents, form_bytes, IsForm, HasWholeBlocks}

-- a sector of a unit's first block, behind its bitmap
pub record IsBlank (v : Volume) (s : ℕ) : Type 0 where
  pub unit : ℕ
  pub index : ℕ
  pub inside : unit < v.units
  pub behind : 0 < index
  pub within : index < per_block v
  pub at : s ≡ bitmap_sector v unit + index

pub record Spelling (v : Volume) : Type 0 where
  pub slots_again : (o : Option InodeValue) → IsSlot layout1 o → slot_at layout1 (slot_bytes o) ≡ Some o
  pub maps_again : (m : MapBlock) → IsMap v.block m → map_block_at (map_bytes v.block m) ≡ m
  pub dirs_again : (es : List DirEntry) → IsDir v.block es → dir_at (dir_bytes v.block es) ≡ Some es
  pub named : (s : ℕ) → IsPlaceOf v s (place_of v s)
  pub blanks : (s : ℕ) → place_of v s ≡ blank → IsBlank v s

pub record Places (v : Volume) : Type 0 where
  pub again : Spelling v
  pub inode_place : (n : ℕ) → n < inode_count v → place_of v (inode_sector v n) ≡ slots (n / 2)
  pub part_place : (b i : ℕ) → IsTrue (is_data v b) → i < per_block v → place_of v (block_sector (per_block v) b + i) ≡ part b i
  pub slot_length : (o : Option InodeValue) → IsSlot layout1 o → length (slot_bytes o) ≡ 256
  pub form_length : (x : Form) → IsForm v.block x → length (form_bytes v.block x) ≡ 512 * per_block v

-- ---- lengths

length-place : (p : Option Extent) → length (place_bytes p) ≡ 16
unfolding extent_bytes
length-place None = refl
length-place (Some e) = refl

length-places : (ps : List (Option Extent)) → length (flat_map place_bytes ps) ≡ 16 * length ps
length-places [] = refl
length-places (p ∷ ps) = omega (arith, length-append (place_bytes p) (flat_map place_bytes ps), length-place p, length-places ps)

length-head : (i : InodeValue) → length (inode_head i) ≡ 32
unfolding inode_head
length-head i = refl

length-inode : (i : InodeValue) → IsInode layout1 i → length (inode_bytes i) ≡ 256
unfolding inode_bytes
length-inode i is =
    let six : length i.first ≡ 6 = is.six in
    omega (
      arith,
      length-append (inode_head i ++ flat_map place_bytes i.first ++ to_le_bytes w32 (unwrap_or i.map 0)) (replicate 124 0),
      length-append (inode_head i ++ flat_map place_bytes i.first) (to_le_bytes w32 (unwrap_or i.map 0)),
      length-append (inode_head i) (flat_map place_bytes i.first),
      length-head i,
      length-places i.first,
    )

length-slot : (o : Option InodeValue) → IsSlot layout1 o → length (slot_bytes o) ≡ 256
length-slot None is = refl
length-slot (Some i) is = length-inode i is

-- the head and the extents of a map block fit it
map_fits : (size n : ℕ) → 1 ≤ n → n ≤ size / 16 - 1 → 16 + 16 * n ≤ size
map_fits size n some most = omega (arith, div-add-mod' size 16)

length-map : (size : ℕ) (m : MapBlock) → IsMap size m → length (map_bytes size m) ≡ size
unfolding map_bytes
length-map size m is =
    let fits : 16 + 16 * length m.extents ≤ size = map_fits size (length m.extents) is.some is.most in
    let rest : ℕ = size - (16 + 16 * length m.extents) in
    omega (
      arith,
      length-append (map_head m ++ flat_map extent_bytes m.extents) (replicate (size - (16 + 16 * length m.extents)) 0),
      length-append (map_head m) (flat_map extent_bytes m.extents),
      length-map_head m,
      length-extents m.extents,
      length-replicate {A = ℕ} (size - (16 + 16 * length m.extents)) 0,
    )

length-form : (size : ℕ) (x : Form) → IsForm size x → length (form_bytes size x) ≡ size
length-form size (Entries es) is = length-dir size es is
length-form size (Extents m) is = length-map size m is

-- ---- blank sectors

-- of two places only the second is blank
other : (p q : Place) (b : Bool) → (p ≡ blank → ⊥) → cond b p q ≡ blank → (b ≡ false) × (q ≡ blank)
other p q true not e = absurd (not e)
other p q false not e = (refl, e)

not_outside : outside ≡ blank → ⊥
not_outside e = absurd (cc)

not_bits : (u : ℕ) → bits u ≡ blank → ⊥
not_bits u e = absurd (cc)

not_slots : (k : ℕ) → slots k ≡ blank → ⊥
not_slots k e = absurd (cc)

not_part : (b i : ℕ) → part b i ≡ blank → ⊥
not_part b i e = absurd (cc)

-- where the first of two places is blank, or the second can't be
first_is : (p q : Place) (b : Bool) → (q ≡ blank → ⊥) → cond b p q ≡ blank → b ≡ true
first_is p q true not e = refl
first_is p q false not e = absurd (not e)

later_not : (k b i : ℕ) (t : Bool) → cond t (slots k) (part b i) ≡ blank → ⊥
later_not k b i true e = not_slots k e
later_not k b i false e = not_part b i e

some_from : (o : ℕ) → (o == 0) ≡ false → 0 < o
some_from zero h = absurd (cc)
some_from (suc o) h = omega arith

pub blank_is : (v : Volume) (s : ℕ) → place_of v s ≡ blank → IsBlank v s
unfolding place_of
blank_is v s e =
    let u : ℕ = (s - v.first * per_block v) / (4096 * per_block v) in
    let o : ℕ = (s - v.first * per_block v) % (4096 * per_block v) in
    let one = other outside (cond (nat_le v.units ((s - v.first * per_block v) / (4096 * per_block v))) outside (place_in_unit v ((s - v.first * per_block v) / (4096 * per_block v)) ((s - v.first * per_block v) % (4096 * per_block v)))) (nat_lt s (v.first * per_block v)) not_outside e in
    let two = other outside (place_in_unit v ((s - v.first * per_block v) / (4096 * per_block v)) ((s - v.first * per_block v) % (4096 * per_block v))) (nat_le v.units ((s - v.first * per_block v) / (4096 * per_block v))) not_outside one.1 in
    let three = other (bits u) _ (o == 0) (not_bits u) two.1 in
    let within = first_is blank _ (nat_lt o (per_block v)) (later_not _ _ _ (nat_lt o (per_block v + 64))) three.1 in
    let low : v.first * per_block v ≤ s = ltb-false _ _ one.0 in
    record {
      unit = (s - v.first * per_block v) / (4096 * per_block v);
      index = (s - v.first * per_block v) % (4096 * per_block v);
      inside = leb-false _ _ two.0;
      behind = some_from ((s - v.first * per_block v) % (4096 * per_block v)) three.0;
      within = ltb-true _ _ within;
      at = omega (arith, div-add-mod' (s - v.first * per_block v) (4096 * per_block v));
    }

-- ---- both

pub spelling : (v : Volume) → HasWholeBlocks v → Spelling v
spelling v is = record {
  slots_again = slot_again layout1;
  maps_again = λ m fits. block_again v.block m is.high fits;
  dirs_again = λ es fits. dir_again v.block es fits;
  named = λ s. place_is v s is.volume;
  blanks = blank_is v;
}

pub places : (v : Volume) → HasWholeBlocks v → Places v
places v is = record {
  again = spelling v is;
  inode_place = λ n less. place_inode v n is.volume less;
  part_place = λ b i data_ less. place_part v b i is.volume data_ less;
  slot_length = length-slot;
  form_length = λ x fits. length-form v.block x fits ∙ is.whole;
}
