-- The sizes of a layout make a volume.
use Rattle.std.proofs.Common.{◌≡◌, ℕ, ◌+◌, ◌-◌, ◌*◌, ◌/◌, ◌%◌, ◌<◌, ◌≤◌, ◌^◌, refl, sym, ap, subst, ◌∙◌, arith, inl, inr}
use Rattle.std.proofs.Math.Nat.{mul-le-mul_right}
use Rattle.vx_base.specs.declared.geom.Geom.{Geom}
use Rattle.vx_layout.specs.Geoms.{IsBlockSize, IsGeom}
use Rattle.vx_layout.specs.Inodes.{layout1}
use Rattle.vx_layout.specs.Places.{Volume, per_block, sectors_of, first_data, IsVolume}

even_blocks : (size : ℕ) → IsBlockSize size → 64 % (size / 512) ≡ 0
even_blocks size (inl e) = ap (λ n. 64 % (n / 512)) e
even_blocks size (inr (inl e)) = ap (λ n. 64 % (n / 512)) e
even_blocks size (inr (inr (inl e))) = ap (λ n. 64 % (n / 512)) e
even_blocks size (inr (inr (inr e))) = ap (λ n. 64 % (n / 512)) e

some_sectors : (size : ℕ) → IsBlockSize size → 0 < size / 512
some_sectors size (inl e) = omega arith
some_sectors size (inr (inl e)) = omega arith
some_sectors size (inr (inr (inl e))) = omega arith
some_sectors size (inr (inr (inr e))) = omega arith

few_sectors : (size : ℕ) → IsBlockSize size → size / 512 ≤ 16
few_sectors size (inl e) = omega arith
few_sectors size (inr (inl e)) = omega arith
few_sectors size (inr (inr (inl e))) = omega arith
few_sectors size (inr (inr (inr e))) = omega arith

data_blocks : (size : ℕ) → IsBlockSize size → 1 + 64 / (size / 512) ≡ 4096 - (4095 - 32768 / size)
data_blocks size (inl e) = ap (λ n. 1 + 64 / (n / 512)) e ∙ ap (λ n. 4096 - (4095 - 32768 / n)) (sym e)
data_blocks size (inr (inl e)) = ap (λ n. 1 + 64 / (n / 512)) e ∙ ap (λ n. 4096 - (4095 - 32768 / n)) (sym e)
data_blocks size (inr (inr (inl e))) = ap (λ n. 1 + 64 / (n / 512)) e ∙ ap (λ n. 4096 - (4095 - 32768 / n)) (sym e)
data_blocks size (inr (inr (inr e))) = ap (λ n. 1 + 64 / (n / 512)) e ∙ ap (λ n. 4096 - (4095 - 32768 / n)) (sym e)

pub geom_volume : (g : Geom) (v : Volume) → IsGeom g → v.block ≡ g.block → IsVolume v
geom_volume g v is same =
    let size : IsBlockSize v.block = subst IsBlockSize (sym same) is.block in
    record { some = some_sectors v.block size; even = even_blocks v.block size }

pub geom_data : (g : Geom) (v : Volume) → IsGeom g → v.block ≡ g.block → first_data (per_block v) ≡ 4096 - g.per_unit
geom_data g v is same =
    ap (λ n. 1 + 64 / (n / 512)) same ∙ data_blocks g.block is.block ∙ ap (λ n. 4096 - n) (sym is.per_unit)

pub geom_fits : (g : Geom) (v : Volume) → IsGeom g → v.block ≡ g.block → v.first ≤ 4096 → v.units ≤ 64 → sectors_of v ≤ 2 ^ 32
geom_fits g v is same first units =
    let size : IsBlockSize v.block = subst IsBlockSize (sym same) is.block in
    let wide : per_block v ≤ 16 = few_sectors v.block size in
    let blocks : (v.first + 4096 * v.units) * per_block v ≤ 266240 * per_block v = mul-le-mul_right (per_block v) (omega arith) in
    omega (arith, wide, blocks)

pub layout1_is : IsGeom layout1
layout1_is = record { block = inl refl; per_unit = refl; maps = refl; dirs = refl; limit = inl refl }
