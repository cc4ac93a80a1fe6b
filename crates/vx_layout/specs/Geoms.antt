-- Which sizes a layout has.
use Rattle.std.specs.Prelude.{◌≡◌, ◌⊎◌, ℕ, ◌-◌, ◌/◌, ◌^◌}
use Rattle.vx_base.specs.declared.geom.Geom.{Geom}

abbrev pub IsBlockSize : ℕ → Type 0
IsBlockSize size = (size ≡ 1024) ⊎ ((size ≡ 2048) ⊎ ((size ≡ 4096) ⊎ (size ≡ 8192)))

-- files of up to 64 MiB or 1 TiB
abbrev pub IsLimit : ℕ → Type 0
IsLimit limit = (limit ≡ 2 ^ 26) ⊎ (limit ≡ 2 ^ 40)

-- a unit's bitmap takes a block and its inodes 32 KiB, and the map blocks of a file and the blocks of a directory take 64 KiB at most
pub record IsGeom (g : Geom) : Type 0 where
  pub block : IsBlockSize g.block
  pub per_unit : g.per_unit ≡ 4095 - 32768 / g.block
  pub maps : g.maps ≡ 65536 / g.block
  pub dirs : g.dirs ≡ 65536 / g.block
  pub limit : IsLimit g.limit
