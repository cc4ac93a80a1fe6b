-- Where each place stands, for every block size.
use Rattle.std.proofs.Common.{◌≡◌, ◌≢◌, ℕ, ◌+◌, ◌-◌, ◌*◌, ◌/◌, ◌%◌, ◌^◌, ◌<◌, ◌≤◌, Bool, true, false, cond, refl, sym, ap, subst, ◌∙◌, arith, inl, inr, lit<}
use Rattle.std.specs.Prelude.{◌==◌, nat_lt, nat_le, IsTrue}
use Rattle.std.proofs.lemmas.Bool.{eqb-true, le-ltb, lt-ltb, ltb-true, ltb-false, le-leb, lt-leb, leb-true, leb-false, ne_eqb, and_parts, and_from}
use Rattle.std.proofs.lemmas.Nat.{div-mul-add, mod-mul-add, div-add-mod', div_below, mod_below, le-div}
use Rattle.std.proofs.Math.Nat.{mul-le-mul_right}
use Rattle.vx_layout.specs.Supers.{volume_of, IsSuper}
use Rattle.vx_layout.specs.declared.superblock.Super.{Super}
use Rattle.vx_layout.specs.Places.{Volume, Place, outside, blank, bits, slots, part, per_block, unit_block, block_sector, bitmap_sector, pair_sector, inode_sector, first_data, is_data, place_in_unit, place_of, sectors_of, IsVolume, IsInside, IsPlaceOf, is_named}

-- ---- data blocks

record IsData (v : Volume) (b : ℕ) : Type 0 where
  pub from : v.first ≤ b
  pub unit : (b - v.first) / 4096 < v.units
  pub past : first_data (per_block v) ≤ (b - v.first) % 4096

data_parts : (v : Volume) (b : ℕ) → IsTrue (is_data v b) → IsData v b
unfolding is_data
data_parts v b h =
    let one = and_parts _ _ h in
    let two = and_parts _ _ one.1 in
    let within : b - v.first < 4096 * v.units = ltb-true _ _ two.0 in
    record { from = leb-true _ _ one.0; unit = omega (arith, within); past = leb-true _ _ two.1 }

data_from : (v : Volume) (b : ℕ) → IsData v b → IsTrue (is_data v b)
unfolding is_data
data_from v b d = and_from _ _ (le-leb _ _ d.from) (and_from _ _ (lt-ltb _ _ (let within : b - v.first < 4096 * v.units = omega (arith, d.unit) in within)) (le-leb _ _ d.past))

-- the block at i of unit u
pub data_in_unit : (v : Volume) (u i : ℕ) → u < v.units → i < 4096 → first_data (per_block v) ≤ i → IsTrue (is_data v (unit_block v u + i))
data_in_unit v u i there below past =
    let rest : unit_block v u + i - v.first ≡ u * 4096 + i = omega arith in
    let q : (unit_block v u + i - v.first) / 4096 ≡ u = ap (λ x. x / 4096) rest ∙ div-mul-add u 4096 i below in
    let r : (unit_block v u + i - v.first) % 4096 ≡ i = ap (λ x. x % 4096) rest ∙ mod-mul-add u 4096 i below in
    data_from v (unit_block v u + i) (record { from = omega arith; unit = rw q there; past = rw r past })

-- 64 sectors of inodes end with a block
inodes_end : (v : Volume) → IsVolume v → first_data (per_block v) * per_block v ≡ per_block v + 64
inodes_end v is = omega (arith, div-add-mod' 64 (per_block v), is.even)

-- ---- from things to places

inside : (v : Volume) (u o : ℕ) → u < v.units → o < 4096 * per_block v → place_of v (bitmap_sector v u + o) ≡ place_in_unit v u o
unfolding place_of
inside v u o lt fits =
    let past : nat_lt (bitmap_sector v u + o) (v.first * per_block v) ≡ false = le-ltb _ _ (omega arith) in
    let rest : bitmap_sector v u + o - v.first * per_block v ≡ u * (4096 * per_block v) + o = omega arith in
    let q : (bitmap_sector v u + o - v.first * per_block v) / (4096 * per_block v) ≡ u = ap (λ x. x / (4096 * per_block v)) rest ∙ div-mul-add u (4096 * per_block v) o fits in
    let r : (bitmap_sector v u + o - v.first * per_block v) % (4096 * per_block v) ≡ o = ap (λ x. x % (4096 * per_block v)) rest ∙ mod-mul-add u (4096 * per_block v) o fits in
    let there : nat_le v.units u ≡ false = lt-leb _ _ lt in
    rw (past, q, r, there) refl

pub place_bits : (v : Volume) (u : ℕ) → IsVolume v → u < v.units → place_of v (bitmap_sector v u) ≡ bits u
place_bits v u is lt =
    let some : 0 < per_block v = is.some in
    ap (place_of v) (let e : bitmap_sector v u ≡ bitmap_sector v u + 0 = omega arith in e) ∙ inside v u 0 lt (omega arith)

slots_in_unit : (v : Volume) (u k : ℕ) → 0 < per_block v → u < v.units → k < 64 → place_of v (bitmap_sector v u + (per_block v + k)) ≡ slots (64 * u + k)
slots_in_unit v u k some lt fits =
    let a : (per_block v + k == 0) ≡ false = ne_eqb _ _ (λ e. omega arith) in
    let b : nat_lt (per_block v + k) (per_block v) ≡ false = le-ltb _ _ (omega arith) in
    let c : nat_lt (per_block v + k) (per_block v + 64) ≡ true = lt-ltb _ _ (omega arith) in
    let d : per_block v + k - per_block v ≡ k = omega arith in
    inside v u (per_block v + k) lt (omega arith) ∙ rw (a, b, c, d) refl

pub place_slots : (v : Volume) (k : ℕ) → IsVolume v → k < 64 * v.units → place_of v (pair_sector v k) ≡ slots k
place_slots v k is lt =
    let below : k / 64 < v.units = div_below k 64 v.units (omega arith) (omega arith) in
    let whole : 64 * (k / 64) + k % 64 ≡ k = omega (arith, div-add-mod' k 64) in
    slots_in_unit v (k / 64) (k % 64) is.some below (mod_below k 64 (omega arith)) ∙ ap slots whole

pub place_inode : (v : Volume) (n : ℕ) → IsVolume v → n < 128 * v.units → place_of v (inode_sector v n) ≡ slots (n / 2)
place_inode v n is lt = place_slots v (n / 2) is (div_below n 2 (64 * v.units) (omega arith) (omega arith))

part_in_unit : (v : Volume) (u i j : ℕ) → IsVolume v → j < per_block v → u < v.units → i < 4096 → first_data (per_block v) ≤ i
    → place_of v (block_sector (per_block v) (unit_block v u + i) + j) ≡ part (unit_block v u + i) j
part_in_unit v u i j is lt there fits low =
    let past : first_data (per_block v) * per_block v ≤ i * per_block v = mul-le-mul_right (per_block v) low in
    let start : per_block v + 64 ≤ i * per_block v = omega (arith, inodes_end v is) in
    let top : (i + 1) * per_block v ≤ 4096 * per_block v = mul-le-mul_right (per_block v) (omega arith) in
    let within : i * per_block v + j < 4096 * per_block v = omega (arith, top) in
    let same : block_sector (per_block v) (unit_block v u + i) + j ≡ bitmap_sector v u + (i * per_block v + j) = omega arith in
    let a : (i * per_block v + j == 0) ≡ false = ne_eqb _ _ (λ e. omega arith) in
    let b : nat_lt (i * per_block v + j) (per_block v) ≡ false = le-ltb _ _ (omega arith) in
    let c : nat_lt (i * per_block v + j) (per_block v + 64) ≡ false = le-ltb _ _ (omega arith) in
    let q = div-mul-add i (per_block v) j lt in
    let r = mod-mul-add i (per_block v) j lt in
    ap (place_of v) same ∙ inside v u (i * per_block v + j) there within ∙ rw (a, b, c, q, r) refl

pub place_part : (v : Volume) (b j : ℕ) → IsVolume v → IsTrue (is_data v b) → j < per_block v → place_of v (block_sector (per_block v) b + j) ≡ part b j
place_part v b j is data_ lt =
    let d = data_parts v b data_ in
    let from : v.first ≤ b = d.from in
    let whole : unit_block v ((b - v.first) / 4096) + (b - v.first) % 4096 ≡ b = omega (arith, div-add-mod' (b - v.first) 4096) in
    let P : ℕ → Type 0 = λ n. place_of v (block_sector (per_block v) n + j) ≡ part n j in
    subst P whole (part_in_unit v ((b - v.first) / 4096) ((b - v.first) % 4096) j is lt d.unit (mod_below (b - v.first) 4096 (omega arith)) d.past)

-- ---- from places to things

choice : (v : Volume) (s : ℕ) (p q : Place) (b : Bool) → (b ≡ true → IsPlaceOf v s p) → (b ≡ false → IsPlaceOf v s q) → IsPlaceOf v s (cond b p q)
choice v s p q true this other = this refl
choice v s p q false this other = other refl

in_units : (v : Volume) (u o : ℕ) → u < v.units → o < 4096 * per_block v → IsInside v (bitmap_sector v u + o)
in_units v u o lt fits =
    let top : (u + 1) * (4096 * per_block v) ≤ v.units * (4096 * per_block v) = mul-le-mul_right (4096 * per_block v) (omega arith) in
    record { from = omega arith; to = omega (arith, top) }

is_slots : (v : Volume) (u o : ℕ) → u < v.units → per_block v ≤ o → o < per_block v + 64 → IsPlaceOf v (bitmap_sector v u + o) (slots (64 * u + (o - per_block v)))
is_slots v u o lt low high =
    let k : ℕ = o - per_block v in
    let below : o - per_block v < 64 = omega arith in
    let turned : 64 * u + (o - per_block v) ≡ u * 64 + (o - per_block v) = omega arith in
    let q : (64 * u + (o - per_block v)) / 64 ≡ u = ap (λ x. x / 64) turned ∙ div-mul-add u 64 (o - per_block v) below in
    let r : (64 * u + (o - per_block v)) % 64 ≡ o - per_block v = ap (λ x. x % 64) turned ∙ mod-mul-add u 64 (o - per_block v) below in
    let whole : per_block v + (o - per_block v) ≡ o = omega arith in
    (omega arith, rw (q, r, whole) refl)

is_part : (v : Volume) (u o : ℕ) → IsVolume v → u < v.units → o < 4096 * per_block v → per_block v + 64 ≤ o
    → IsPlaceOf v (bitmap_sector v u + o) (part (unit_block v u + o / per_block v) (o % per_block v))
is_part v u o is lt fits low =
    let below : o / per_block v < 4096 = div_below o (per_block v) 4096 is.some fits in
    let past : first_data (per_block v) ≤ o / per_block v = le-div (first_data (per_block v)) o (per_block v) is.some (omega (arith, inodes_end v is)) in
    let whole : o / per_block v * per_block v + o % per_block v ≡ o = div-add-mod' o (per_block v) in
    (data_in_unit v u (o / per_block v) lt below past, mod_below o (per_block v) is.some, omega arith)

in_unit : (v : Volume) (u o : ℕ) → IsVolume v → u < v.units → o < 4096 * per_block v → IsPlaceOf v (bitmap_sector v u + o) (place_in_unit v u o)
in_unit v u o is lt fits =
    let s : ℕ = bitmap_sector v u + o in
    choice v s _ _ (o == 0) (λ e. (lt, let z : o ≡ 0 = eqb-true _ _ e in omega arith))
    (λ _. choice v s _ _ (nat_lt o (per_block v)) (λ _. in_units v u o lt fits)
    (λ b. choice v s _ _ (nat_lt o (per_block v + 64)) (λ c. is_slots v u o lt (ltb-false _ _ b) (ltb-true _ _ c))
    (λ c. is_part v u o is lt fits (ltb-false _ _ c))))

pub place_is : (v : Volume) (s : ℕ) → IsVolume v → IsPlaceOf v s (place_of v s)
unfolding place_of
place_is v s is =
    let some : 0 < per_block v = is.some in
    let wide : 0 < 4096 * per_block v = omega arith in
    let o : ℕ = s - v.first * per_block v in
    choice v s _ _ (nat_lt s (v.first * per_block v)) (λ a. inl (ltb-true _ _ a))
    (λ a.
    let low : v.first * per_block v ≤ s = ltb-false _ _ a in
    let whole : bitmap_sector v ((s - v.first * per_block v) / (4096 * per_block v)) + (s - v.first * per_block v) % (4096 * per_block v) ≡ s =
    omega (arith, div-add-mod' (s - v.first * per_block v) (4096 * per_block v)) in
    let u : ℕ = (s - v.first * per_block v) / (4096 * per_block v) in
    let rest : ℕ = (s - v.first * per_block v) % (4096 * per_block v) in
    choice v s _ _ (nat_le v.units ((s - v.first * per_block v) / (4096 * per_block v)))
    (λ b. let past : v.units ≤ (s - v.first * per_block v) / (4096 * per_block v) = leb-true _ _ b in
    let high : v.units * (4096 * per_block v) ≤ (s - v.first * per_block v) / (4096 * per_block v) * (4096 * per_block v) = mul-le-mul_right (4096 * per_block v) past in
    inr (omega arith))
    (λ b.
    let P : ℕ → Type 0 = λ n. IsPlaceOf v n (place_in_unit v ((s - v.first * per_block v) / (4096 * per_block v)) ((s - v.first * per_block v) % (4096 * per_block v))) in
    subst P whole (in_unit v ((s - v.first * per_block v) / (4096 * per_block v)) ((s - v.first * per_block v) % (4096 * per_block v)) is (leb-false _ _ b) (mod_below (s - v.first * per_block v) (4096 * per_block v) wide))))

same_sector : (v : Volume) (s t : ℕ) (p : Place) → IsTrue (is_named p) → IsPlaceOf v s p → IsPlaceOf v t p → s ≡ t
same_sector v s t outside named a b = absurd cc
same_sector v s t blank named a b = absurd cc
same_sector v s t (bits u) named a b = a.1 ∙ sym b.1
same_sector v s t (slots k) named a b = a.1 ∙ sym b.1
same_sector v s t (part b j) named x y = x.2 ∙ sym y.2

pub distinct : (v : Volume) (s t : ℕ) → IsVolume v → IsTrue (is_named (place_of v s)) → place_of v s ≡ place_of v t → s ≡ t
distinct v s t is named e =
    same_sector v s t (place_of v s) named (place_is v s is) (subst (IsPlaceOf v t) (sym e) (place_is v t is))

data_below : (v : Volume) (b : ℕ) → IsData v b → b < v.first + 4096 * v.units
data_below v b d = omega (arith, d.from, d.unit, div-add-mod' (b - v.first) 4096)

is_inside : (v : Volume) (s : ℕ) (p : Place) → IsVolume v → p ≢ outside → IsPlaceOf v s p → IsInside v s
is_inside v s outside is ne a = absurd (ne refl)
is_inside v s blank is ne a = a
is_inside v s (bits u) is ne a =
    let some : 0 < per_block v = is.some in
    let start : bitmap_sector v u + 0 ≡ s = omega (arith, a.1) in
    subst (IsInside v) start (in_units v u 0 a.0 (omega arith))
is_inside v s (slots k) is ne a =
    let some : 0 < per_block v = is.some in
    let below : k / 64 < v.units = div_below k 64 v.units (omega arith) (omega (arith, a.0)) in
    let o : k % 64 < 64 = mod_below k 64 (omega arith) in
    subst (IsInside v) (sym a.1) (in_units v (k / 64) (per_block v + k % 64) below (omega arith))
is_inside v s (part b j) is ne a =
    let d = data_parts v b a.0 in
    let low : v.first * per_block v ≤ b * per_block v = mul-le-mul_right (per_block v) d.from in
    let high : (b + 1) * per_block v ≤ (v.first + 4096 * v.units) * per_block v = mul-le-mul_right (per_block v) (omega (arith, data_below v b d)) in
    record { from = omega (arith, a.2); to = omega (arith, a.1, a.2, high) }

pub inside_units : (v : Volume) (s : ℕ) → IsVolume v → place_of v s ≢ outside → IsInside v s
inside_units v s is ne = is_inside v s (place_of v s) is ne (place_is v s is)

-- ---- the volume of a superblock

pub super_volume : (v : Super) → IsVolume (volume_of v)
super_volume v = record { some = lit< tt; even = refl }

pub super_fits : (v : Super) → IsSuper v → sectors_of (volume_of v) ≤ 2 ^ 32
super_fits v is = omega (arith, is.log_high, is.units_high)

pub past_log : (v : Super) (s : ℕ) → place_of (volume_of v) s ≢ outside → 4 + 2 * v.log_blocks ≤ s
past_log v s ne = let i = inside_units (volume_of v) s (super_volume v) ne in omega (arith, i.from)

pub on_device : (v : Super) (s : ℕ) → place_of (volume_of v) s ≢ outside → s < 2 * (2 + v.log_blocks + 4096 * v.units)
on_device v s ne = let i = inside_units (volume_of v) s (super_volume v) ne in omega (arith, i.to)
