-- The checks of the bitmaps.
use Rattle.std.proofs.Common.{◌≡◌, ℕ, zero, suc, ◌+◌, ◌*◌, ◌/◌, ◌<◌, Bool, false, List, ◌∷◌, get_or, replicate, refl, sym, ap, subst, ◌∙◌, inl, arith}
use Rattle.std.specs.Prelude.{◌||◌, nat_lt}
use Rattle.vx_layout.specs.Places.{Volume, per_block, unit_block, first_data, bitmap_sector, sectors_of}
use Rattle.vx_layout.specs.Bits.{bit_value, bit_byte, bits_from, bits_bytes}
use Rattle.vx_sound.specs.Said.{Image, among, inode_count, claims_below}
use Rattle.vx_sound.specs.Facts.{used_in, IsBitmapRight}
use Rattle.vx_sound.specs.Checks.{bitmap, bitmap_checks}
use Rattle.vx_check.specs.Parts.{NamesFirst, AreMarksOf}

byte_same : (f g : ℕ → Bool) (i : ℕ) → ((j : ℕ) → j < i + 8 → f j ≡ g j) → bit_byte f i ≡ bit_byte g i
unfolding bit_byte
byte_same f g i same =
    let e0 : f i ≡ g i = same i (omega arith) in
    let e1 = same (i + 1) (omega arith) in
    let e2 = same (i + 2) (omega arith) in
    let e3 = same (i + 3) (omega arith) in
    let e4 = same (i + 4) (omega arith) in
    let e5 = same (i + 5) (omega arith) in
    let e6 = same (i + 6) (omega arith) in
    let e7 = same (i + 7) (omega arith) in
    λ k. bit_value (e0 k) + 2 * bit_value (e1 k) + 4 * bit_value (e2 k) + 8 * bit_value (e3 k)
    + 16 * bit_value (e4 k) + 32 * bit_value (e5 k) + 64 * bit_value (e6 k) + 128 * bit_value (e7 k)

bits_same : (f g : ℕ → Bool) (n i : ℕ) → ((j : ℕ) → j < i + 8 * n → f j ≡ g j) → bits_from f i n ≡ bits_from g i n
unfolding bits_from
bits_same f g zero i same = refl
bits_same f g (suc n) i same =
    let one = byte_same f g i (λ j lt. same j (omega arith)) in
    let rest = bits_same f g n (i + 8) (λ j lt. same j (omega arith)) in
    λ k. one k ∷ rest k

sector_same : (f g : ℕ → Bool) → ((j : ℕ) → j < 4096 → f j ≡ g j) → bits_bytes f ≡ bits_bytes g
unfolding bits_bytes
sector_same f g same = bits_same f g 512 0 (λ j lt. same j (omega arith))

module _ (v : Volume) (image : Image) (u : ℕ) (marks : List Bool) (used : List Bool) (block : v.block ≡ 1024)
    (are : AreMarksOf marks (claims_below v image (inode_count v))) (bits : (j : ℕ) → j < 4096 → get_or used j false ≡ (nat_lt j 33 || get_or marks (unit_block v u + j) false)) where
  two : per_block v ≡ 2
  two = ap (λ (n : ℕ). n / 512) block

  same_bits : bits_bytes (λ j. get_or used j false) ≡ bits_bytes (used_in v image u)
  same_bits = sector_same (λ j. get_or used j false) (used_in v image u) (λ j lt.
      bits j lt ∙ ap (λ (b : Bool). nat_lt j 33 || b) (are (unit_block v u + j))
      ∙ ap (λ (n : ℕ). nat_lt j (first_data n) || among (claims_below v image (inode_count v)) (unit_block v u + j)) (sym two))

  only_one : (i : ℕ) → 0 < i → i < per_block v → i ≡ 1
  only_one i low high = let e = two in omega arith

  pub bitmap_right : (first second : List ℕ) → image (bitmap_sector v u) ≡ first → image (bitmap_sector v u + 1) ≡ second → bits_bytes (λ j. get_or used j false) ≡ first → second ≡ replicate 512 0 → IsBitmapRight v image u
  bitmap_right first second here next same zeros = record {
    bits = here ∙ sym same ∙ same_bits;
    rest = λ i low high. subst (λ (k : ℕ). image (bitmap_sector v u + k) ≡ replicate 512 0) (sym (only_one i low high)) (next ∙ zeros);
  }

  pub bad_bits : (strict : Bool) (sector : ℕ) (first : List ℕ) → sector ≡ bitmap_sector v u → image (bitmap_sector v u) ≡ first → (bits_bytes (λ j. get_or used j false) ≡ first → ⊥) → NamesFirst strict v image (bitmap_checks u) sector
  bad_bits strict sector first place here other = record {
    check = bitmap u;
    first = inl (refl, λ (h : IsBitmapRight v image u). other (same_bits ∙ sym h.bits ∙ here));
    sector_is = place;
  }

  pub bad_rest : (strict : Bool) (sector : ℕ) (second : List ℕ) → sector ≡ bitmap_sector v u → image (bitmap_sector v u + 1) ≡ second → (second ≡ replicate 512 0 → ⊥) → NamesFirst strict v image (bitmap_checks u) sector
  bad_rest strict sector second place next other = record {
    check = bitmap u;
    first = inl (refl, λ (h : IsBitmapRight v image u). let e = two in let low : 1 < per_block v = omega arith in other (sym next ∙ h.rest 1 (omega arith) low));
    sector_is = place;
  }

below_at : (f u n : ℕ) → u < n → f * 2 + u * (4096 * 2) + 1 < (f + 4096 * n) * 2
below_at f u n lt = omega arith

-- both sectors of a bitmap's block belong to the volume
pub bitmap_below : (v : Volume) (u : ℕ) → v.block ≡ 1024 → u < v.units → bitmap_sector v u + 1 < sectors_of v
bitmap_below v u block lt =
    let two : v.block / 512 ≡ 2 = ap (λ (n : ℕ). n / 512) block in
    subst (λ (p : ℕ). v.first * p + u * (4096 * p) + 1 < (v.first + 4096 * v.units) * p) (sym two) (below_at v.first u v.units lt)
