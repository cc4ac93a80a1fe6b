-- What the sectors of inodes and of bitmaps have.
use Rattle.std.proofs.Common.{◌≡◌, ℕ, zero, suc, ◌+◌, ◌*◌, ◌/◌, ◌<◌, ◌≤◌, Bool, List, ◌∷◌, ◌++◌, Option, Some, None, refl, sym, ap, subst, ◌∙◌, arith, inl, inr}
use Rattle.std.specs.Prelude.{◌||◌, nat_lt, is_some}
use Rattle.std.specs.Option.{option_map}
use Rattle.std.proofs.lemmas.Bool.{lt-ltb, cases_lt}
use Rattle.vx_layout.specs.Bits.{bit_value, bit_byte, bits_from, bits_bytes}
use Rattle.vx_layout.specs.Inodes.{slot_bytes}
use Rattle.vx_layout.specs.Places.{Volume, IsVolume, unit_block, bitmap_sector, pair_sector, inode_sector}
use Rattle.vx_model.specs.Contents.{inode_value, parsed_of}
use Rattle.vx_model.specs.Images.{Parsed, content_at}
use Rattle.vx_model.specs.Layout.{Layout, Claim, volume, claim_of}
use Rattle.vx_model.specs.State.{State}
use Rattle.vx_txn.specs.Staged.{IsRight, is_in_use}

-- ---- the volume

pub is_volume : (l : Layout) → IsVolume (volume l)
is_volume l = record { some = omega arith; even = refl }

-- ---- inodes

pub pair_right : (inodes : (v : Volume) (p : Parsed) (n : ℕ) → IsVolume v → n < 128 * v.units → content_at v p (inode_sector v n) ≡ Some (slot_bytes (p.inodes (2 * (n / 2))) ++ slot_bytes (p.inodes (2 * (n / 2) + 1))))
    → (s : State) (n at : ℕ) (x : List ℕ) → n < 128 * s.layout.units → at ≡ pair_sector (volume s.layout) (n / 2)
    → x ≡ slot_bytes (inode_value s (2 * (n / 2))) ++ slot_bytes (inode_value s (2 * (n / 2) + 1)) → IsRight s (at, x)
pair_right inodes s n at x lt place bytes =
    subst (λ (t : ℕ). IsRight s (t, x)) (sym place) (inodes (volume s.layout) (parsed_of s) n (is_volume s.layout) lt ∙ ap Some (sym bytes))

-- ---- bitmaps

byte_same : (f g : ℕ → Bool) (i : ℕ) → ((j : ℕ) → j < i + 8 → f j ≡ g j) → bit_byte f i ≡ bit_byte g i
unfolding bit_byte
byte_same f g i same =
    let e0 : f i ≡ g i = same i (omega arith) in
    let e1 = same (i + 1) (omega arith) in
    let e2 = same (i + 2) (omega arith) in
    let e3 = same (i + 3) (omega arith) in
    let e4 = same (i + 4) (omega arith) in
    let e5 = same (i + 5) (omega arith) in
    let e6 = same (i + 6) (omega arith) in
    let e7 = same (i + 7) (omega arith) in
    λ k. bit_value (e0 k) + 2 * bit_value (e1 k) + 4 * bit_value (e2 k) + 8 * bit_value (e3 k)
    + 16 * bit_value (e4 k) + 32 * bit_value (e5 k) + 64 * bit_value (e6 k) + 128 * bit_value (e7 k)

bytes_same : (f g : ℕ → Bool) (n i : ℕ) → ((j : ℕ) → j < i + 8 * n → f j ≡ g j) → bits_from f i n ≡ bits_from g i n
unfolding bits_from
bytes_same f g zero i same = refl
bytes_same f g (suc n) i same =
    let one = byte_same f g i (λ j lt. same j (omega arith)) in
    let rest = bytes_same f g n (i + 8) (λ j lt. same j (omega arith)) in
    λ k. one k ∷ rest k

-- a sector has 4096 bits
pub sector_same : (f g : ℕ → Bool) → ((j : ℕ) → j < 4096 → f j ≡ g j) → bits_bytes f ≡ bits_bytes g
unfolding bits_bytes
sector_same f g same = bytes_same f g 512 0 (λ j lt. same j (omega arith))

-- blocks below the data count as used, whatever else is said of them
pub bit_same : (j : ℕ) (a b : Bool) → (33 ≤ j → a ≡ b) → (nat_lt j 33 || a) ≡ (nat_lt j 33 || b)
bit_same j a b high = elim (cases_lt j 33) [
  | inl low ↦ ap (λ (t : Bool). t || a) (lt-ltb j 33 low) ∙ sym (ap (λ (t : Bool). t || b) (lt-ltb j 33 low))
  | inr le ↦ ap (λ (t : Bool). nat_lt j 33 || t) (high le)
]

same_use : (l : Layout) (u j : ℕ) (o : Option Claim) → (nat_lt j 33 || is_some o) ≡ (nat_lt j 33 || is_some (option_map (λ (c : Claim). c.ino) o))
same_use l u j None = refl
same_use l u j (Some c) = refl

pub bitmap_right : (s : State) (unit at : ℕ) (x : List ℕ) → content_at (volume s.layout) (parsed_of s) (bitmap_sector (volume s.layout) unit) ≡ Some (bits_bytes (λ j. nat_lt j 33 || is_some ((parsed_of s).claims (unit_block (volume s.layout) unit + j))))
    → at ≡ bitmap_sector (volume s.layout) unit → x ≡ bits_bytes (is_in_use s.layout unit) → IsRight s (at, x)
bitmap_right s unit at x content place bytes =
    subst (λ (t : ℕ). IsRight s (t, x)) (sym place)
    (content ∙ ap Some (sector_same _ _ (λ j lt. sym (same_use s.layout unit j (claim_of s.layout (unit_block (volume s.layout) unit + j)))) ∙ sym bytes))
