-- The index of a directory: where each name stands, and the inode that it means.
use Rattle.std.specs.Prelude.{◌≡◌, ℕ, true, if◌then◌else◌, List, Option, None, refl}
use Rattle.std.specs.Coded.{Coded, code_by, coded×, coded_ℕ, coded_list}
use Rattle.std.specs.Cmp.Lexicographic.{slice_cmp}
use Rattle.std.specs.Ordering.{nat_cmp}
use Rattle.std.specs.Option.{option_map, option_or}
use Rattle.std.specs.FinMap as map
use Rattle.vx_base.specs.Paths.{FileName}
use Rattle.vx_dir.specs.Sizes.{Entries}
use Rattle.vx_dir.specs.Directories.{block_of, block_at, inode_in, holds}
use Rattle.vx_dir.specs.declared.name_index.Spot.{Spot}

abbrev pub Spots : Type 0
Spots = map.FinMap {K = FileName} (slice_cmp nat_cmp) Spot

-- where a name's first entry in one block stands
abbrev pub spot_in : ℕ → FileName → Entries → Option Spot
spot_in block name entries = option_map (λ (ino : ℕ). record { block = block; ino = ino }) (inode_in name entries)

-- where a name's first entry stands, which is in the first block that holds the name
abbrev pub spot_of : FileName → List Entries → Option Spot
spot_of name blocks = spot_in (block_of name blocks) name (block_at blocks (block_of name blocks))

-- each name of the blocks has its spot, and no other name has one
abbrev pub Indexes : List Entries → Spots → Type 0
Indexes blocks spots = (name : FileName) → map.get spots name ≡ spot_of name blocks

-- ---- a block's names at once

abbrev pub AreNew : Entries → Spots → Type 0
AreNew entries spots = (name : FileName) → holds name entries ≡ true → map.get spots name ≡ None

-- beside the spots of before, those of a block's entries
abbrev pub HasGained : ℕ → Entries → Spots → Spots → Type 0
HasGained block entries before after = (name : FileName) → map.get after name ≡ option_or (map.get before name) (spot_in block name entries)

-- the spots of before but for those of a block's names
abbrev pub HasLost : Entries → Spots → Spots → Type 0
HasLost entries before after = (name : FileName) → map.get after name ≡ (if holds name entries then None else map.get before name)

-- ---- the code of an index, for the model whose value it is

abbrev coded_spot : Coded Spot
coded_spot = code_by (ℕ × ℕ) (coded× coded_ℕ coded_ℕ) (λ s. (s.block, s.ino)) (λ p. record { block = p.0; ino = p.1 }) (λ _. refl)

abbrev pub coded_spots : Coded Spots
coded_spots = map.code (coded_list coded_ℕ) coded_spot
