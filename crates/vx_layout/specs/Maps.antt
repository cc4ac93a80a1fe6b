-- How a map block is spelled: further extents of a file.
use Rattle.std.specs.Prelude.{ℕ, zero, suc, ◌+◌, ◌-◌, ◌*◌, ◌/◌, ◌<◌, ◌≤◌, ◌^◌, ◌==◌, if◌then◌else◌, List, [], ◌∷◌, ◌++◌, length, replicate, Option, Some, None, unwrap_or, IfSome}
use Rattle.std.specs.Int.{w32, to_le_bytes}
use Rattle.std.specs.List.{flat_map, AllByRecursion}
use Rattle.vx_base.specs.declared.inode.Extent.{Extent}
use Rattle.vx_layout.specs.Fields.{number_at}
use Rattle.vx_layout.specs.Inodes.{extent_bytes, extent_at, IsExtent}

pub record MapBlock : Type 0 where
  -- the file's next map block, if there is one
  pub next : Option ℕ
  -- the file
  pub ino : ℕ
  pub extents : List Extent

-- VXMB
abbrev pub map_magic : List ℕ
map_magic = 86 ∷ 88 ∷ 77 ∷ 66 ∷ []

-- how many extents a block of `size` bytes has places for
abbrev pub map_places : ℕ → ℕ
map_places size = size / 16 - 1

unfoldable pub map_head : MapBlock → List ℕ
map_head m = map_magic ++ to_le_bytes w32 (unwrap_or m.next 0) ++ to_le_bytes w32 (length m.extents) ++ to_le_bytes w32 m.ino

-- a block of `size` bytes: the head, the extents, and zeros
unfoldable pub map_bytes : ℕ → MapBlock → List ℕ
map_bytes size m = map_head m ++ flat_map extent_bytes m.extents ++ replicate (size - (16 + 16 * length m.extents)) 0

-- the values that have a spelling in a block of `size` bytes
pub record IsMap (size : ℕ) (m : MapBlock) : Type 0 where
  pub some : 1 ≤ length m.extents
  pub most : length m.extents ≤ map_places size
  pub next : IfSome m.next (λ b. (0 < b) × (b < 2 ^ 32))
  pub ino : m.ino < 2 ^ 32
  pub each : AllByRecursion IsExtent m.extents

-- ---- reading by places

abbrev pub next_from : ℕ → Option ℕ
next_from n = if n == 0 then None else Some n

-- n extents, the first of which stands at `at`
unfoldable pub extents_at : ℕ → ℕ → List ℕ → List Extent
extents_at zero at s = []
extents_at (suc n) at s = extent_at at s ∷ extents_at n (at + 16) s

-- the fields at their places, with n extents
abbrev pub map_with : ℕ → List ℕ → MapBlock
map_with n s = record { next = next_from (number_at w32 4 s); ino = number_at w32 12 s; extents = extents_at n 16 s }

unfoldable pub map_block_at : List ℕ → MapBlock
map_block_at s = map_with (number_at w32 8 s) s
