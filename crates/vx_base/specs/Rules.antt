-- Rules that structures in memory, the disk's layout and the model keep alike.
use Rattle.std.specs.Prelude.{ℕ, zero, suc, ◌+◌, ◌-◌, ◌*◌, ◌/◌, ◌%◌, ◌^◌, Bool, ◌&&◌, nat_le, nat_lt, if◌then◌else◌, List, length}
use Rattle.std.specs.Int.{div_ceil}
use Rattle.std.specs.List.{sum_by}
use Rattle.std.specs.Ordering.{nat_cmp}
use Rattle.std.specs.FinMap as map
use Rattle.vx_base.specs.declared.geom.Geom.{Geom}
use Rattle.vx_base.specs.declared.inode.DirEntry.{DirEntry}

-- layout 1: blocks of 1,024 bytes and files of up to 64 MiB
abbrev pub layout1 : Geom
layout1 = record { block = 1024; per_unit = 4063; maps = 64; dirs = 64; limit = 2 ^ 26 }

-- ---- inode numbers

-- the lowest number from `from` on, within so many, at which nothing stands
abbrev pub lowest_absent : {X : Type 0} → map.FinMap nat_cmp X → ℕ → ℕ → ℕ
lowest_absent inodes zero from = from
lowest_absent inodes (suc more) from = if map.contains_key inodes from then lowest_absent inodes more (from + 1) else from

-- the lowest unused inode number of so many units, or a number past them; a unit has 128 numbers, and none below 3 is given
abbrev pub lowest_unused : {X : Type 0} → ℕ → map.FinMap nat_cmp X → ℕ
lowest_unused units inodes = lowest_absent inodes (128 * units) 3

-- ---- directory entries

-- the bytes that an entry takes in a block
abbrev pub entry_size : DirEntry → ℕ
entry_size e = 5 + length e.name

abbrev pub used_by : List DirEntry → ℕ
used_by entries = sum_by entry_size entries

-- ---- data blocks

-- Whether a block of so many units from `first` on holds data. Each unit has 4096 blocks, and its data begins at block `lead` of it.
abbrev pub is_data_block : (first units lead b : ℕ) → Bool
is_data_block first units lead b = nat_le first b && (nat_lt (b - first) (4096 * units) && nat_le lead ((b - first) % 4096))

-- ---- extents

-- how many extents a map block has room for
abbrev pub places_each : Geom → ℕ
places_each g = g.block / 16 - 1

-- the most extents of a file: six in the inode, and as many in each map block as it has room for
abbrev pub extents_limit : Geom → ℕ
extents_limit g = 6 + g.maps * places_each g

-- how many map blocks, with room for so many extents each, hold those past the six in the inode; all but the last are full
abbrev pub chain_len : (each extents : ℕ) → ℕ
chain_len each extents = if nat_le extents 6 then 0 else div_ceil (extents - 6) each
