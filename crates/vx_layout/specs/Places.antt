-- What each sector of a volume is there for, and where each thing stands.
use Rattle.std.specs.Prelude.{◌≡◌, ◌⊎◌, ℕ, ◌+◌, ◌-◌, ◌*◌, ◌/◌, ◌%◌, ◌<◌, ◌≤◌, Bool, true, false, IsTrue, ◌==◌, nat_lt, nat_le, if◌then◌else◌, List, take, drop}
use Rattle.vx_base.specs.Rules.{is_data_block}
use Rattle.vx_layout.specs.declared.volume.Volume.{Volume as Sizes}

-- bytes in a block, the block where unit 0 starts, the number of units
abbrev pub Volume : Type 0
Volume = Sizes

-- sectors in a block
abbrev pub per_block : Volume → ℕ
per_block v = v.block / 512

-- each unit has 4096 blocks: one for its bitmap, then 64 sectors with two inodes each, then its data blocks
abbrev pub unit_block : Volume → ℕ → ℕ
unit_block v u = v.first + 4096 * u

-- the first sector of a block
abbrev pub block_sector : ℕ → ℕ → ℕ
block_sector per_block b = b * per_block

-- the sector of a unit's bitmap, which is the unit's first
abbrev pub bitmap_sector : Volume → ℕ → ℕ
bitmap_sector v u = v.first * per_block v + u * (4096 * per_block v)

-- the sector of inodes 2 k and 2 k + 1
abbrev pub pair_sector : Volume → ℕ → ℕ
pair_sector v k = bitmap_sector v (k / 64) + (per_block v + k % 64)

abbrev pub inode_sector : Volume → ℕ → ℕ
inode_sector v n = pair_sector v (n / 2)

-- where an inode begins within its sector
abbrev pub inode_offset : ℕ → ℕ
inode_offset n = 256 * (n % 2)

-- the number of sectors that the volume takes
abbrev pub sectors_of : Volume → ℕ
sectors_of v = (v.first + 4096 * v.units) * per_block v

-- the first data block of a unit, counted from the unit's start
abbrev pub first_data : ℕ → ℕ
first_data per_block = 1 + 64 / per_block

unfoldable pub is_data : Volume → ℕ → Bool
is_data v b = is_data_block v.first v.units (first_data (per_block v)) b

-- what a sector is there for: a unit's bitmap, the inodes 2 pair and 2 pair + 1, the index-th sector of a data block
pub data Place : Type 0 where
  outside blank : Place
  bits : (unit : ℕ) → Place
  slots : (pair : ℕ) → Place
  part : (block index : ℕ) → Place

-- the place of the sector at o from the start of unit u
abbrev pub place_in_unit : Volume → ℕ → ℕ → Place
place_in_unit v u o =
    if o == 0 then bits u
    else (if nat_lt o (per_block v) then blank
    else (if nat_lt o (per_block v + 64) then slots (64 * u + (o - per_block v))
    else part (unit_block v u + o / per_block v) (o % per_block v)))

unfoldable pub place_of : Volume → ℕ → Place
place_of v s =
    if nat_lt s (v.first * per_block v) then outside
    else (if nat_le v.units ((s - v.first * per_block v) / (4096 * per_block v)) then outside
    else place_in_unit v ((s - v.first * per_block v) / (4096 * per_block v)) ((s - v.first * per_block v) % (4096 * per_block v)))

-- a block has a whole number of sectors, and 64 sectors are a whole number of blocks
pub record IsVolume (v : Volume) : Type 0 where
  pub some : 0 < per_block v
  pub even : 64 % per_block v ≡ 0

-- the sector belongs to a unit
pub record IsInside (v : Volume) (s : ℕ) : Type 0 where
  pub from : v.first * per_block v ≤ s
  pub to : s < sectors_of v

-- what a place says of the sectors that have it: for all but two it is the one such sector
abbrev pub IsPlaceOf : Volume → ℕ → Place → Type 0
IsPlaceOf v s outside = (s < v.first * per_block v) ⊎ (sectors_of v ≤ s)
IsPlaceOf v s blank = IsInside v s
IsPlaceOf v s (bits u) = (u < v.units) × (s ≡ bitmap_sector v u)
IsPlaceOf v s (slots k) = (k < 64 * v.units) × (s ≡ pair_sector v k)
IsPlaceOf v s (part b index) = IsTrue (is_data v b) × (index < per_block v) × (s ≡ block_sector (per_block v) b + index)

-- a bitmap, two inodes or a part of a data block
abbrev pub is_named : Place → Bool
is_named outside = false
is_named blank = false
is_named _ = true

-- the index-th 512 bytes of a block
unfoldable pub sector_part : ℕ → List ℕ → List ℕ
sector_part index bytes = take 512 (drop (512 * index) bytes)
