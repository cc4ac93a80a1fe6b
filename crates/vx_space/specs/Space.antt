-- What a file has: pages with blocks, and map blocks (docs/FILES.md).
use Rattle.std.specs.Prelude.{ℕ, max, List, [], map}
use Rattle.vx_extents.specs.Extents.{Mapped, extent_count, chain_len}

-- The pages of a file that have a block, as its map on the device says (settled), and as it is now, with the blocks that are held
-- (present). And the size in bytes that the device says.
pub record Space : Type 0 where
  pub settled : List Mapped
  pub present : List Mapped
  pub size : ℕ

abbrev pub no_space : Space
no_space = record { settled = []; present = []; size = 0 }

abbrev pub page_blocks : List Mapped → List ℕ
page_blocks pages = map (λ (m : Mapped). m.block) pages

-- the most pages that a file has
abbrev pub most_pages : ℕ
most_pages = 65536

-- ---- map blocks

-- how many extents a map block holds, and how many the inode and 64 map blocks hold
abbrev pub map_room : ℕ
map_room = 63

abbrev pub most_extents : ℕ
most_extents = 4038

-- how many map blocks these pages need
abbrev pub maps_for : List Mapped → ℕ
maps_for pages = chain_len map_room (extent_count pages)

-- the extents of the longer of a file's lists
abbrev pub extents_in : Space → ℕ
extents_in x = max (extent_count x.settled) (extent_count x.present)

-- the map blocks of the list that needs more of them
abbrev pub maps_needed : Space → ℕ
maps_needed x = max (maps_for x.settled) (maps_for x.present)
