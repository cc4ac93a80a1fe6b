-- What a batch gains when the sectors of what is touched are put into it.
use Rattle.std.specs.Prelude.{◌≡◌, ◌≤◌, ◌<◌, ℕ, ◌+◌, ◌*◌, Bool, true, ◌||◌, nat_lt, is_some, List, length, slice_get, Some}
use Rattle.std.specs.List.{AllByRecursion}
use Rattle.vx_layout.specs.LogForms.{AfterImage}
use Rattle.vx_layout.specs.Places.{block_sector, bitmap_sector, inode_sector, sector_part, unit_block}
use Rattle.vx_log.specs.Batches.{batch_set}
use Rattle.vx_model.specs.Contents.{parsed_of}
use Rattle.vx_model.specs.Images.{content_at, among, sectors_in}
use Rattle.vx_model.specs.Layout.{Claimed, DirectoryBlock, Layout, blocks_at, chain_at, claim_of, volume}
use Rattle.vx_model.specs.State.{State}
use Rattle.vx_model.specs.Touching.{BlockPlace, has_place}
use Rattle.vx_txn.specs.Metas.{Stands}
use Rattle.vx_txn.specs.declared.meta.Meta.{Meta}

-- the after-image has what the state says of its sector
abbrev pub IsRight : State → AfterImage → Type 0
IsRight s e = content_at (volume s.layout) (parsed_of s) e.0 ≡ Some e.1

-- at most `count` sectors more, none less, and all right if those before were
pub record Adds (m : Meta) (count : ℕ) (old new : List AfterImage) : Type 0 where
  pub few : length new ≤ length old + count
  pub keeps : (t : ℕ) → sectors_in old t ≡ true → sectors_in new t ≡ true
  pub right : (s : State) → Stands m s → AllByRecursion (IsRight s) old → AllByRecursion (IsRight s) new

-- the sector of an inode is there, if the units have the inode
abbrev pub HasInode : Meta → List AfterImage → ℕ → Type 0
HasInode m batch n = (s : State) → Stands m s → n < 128 * s.layout.units → sectors_in batch (inode_sector (volume s.layout) n) ≡ true

-- the sectors of a directory's block are there
abbrev pub HasBlock : Meta → List AfterImage → BlockPlace → Type 0
HasBlock m batch p = (s : State) → Stands m s → (j : ℕ) (d : DirectoryBlock) → slice_get (blocks_at s.layout p.ino) p.index ≡ Some d → j < 2 → sectors_in batch (block_sector 2 d.block + j) ≡ true

-- the sectors of an inode's map blocks are there
abbrev pub HasMaps : Meta → List AfterImage → ℕ → Type 0
HasMaps m batch n = (s : State) → Stands m s → (k j : ℕ) (c : Claimed) → slice_get (chain_at s.layout n) k ≡ Some c → j < 2 → sectors_in batch (block_sector 2 c.block + j) ≡ true

-- the sector of a unit's bitmap is there
abbrev pub HasBitmap : Meta → List AfterImage → ℕ → Type 0
HasBitmap m batch u = (s : State) → Stands m s → u < s.layout.units → sectors_in batch (bitmap_sector (volume s.layout) u) ≡ true

-- what the bitmap of a unit says of its block j: its own block, those of the inodes, and the blocks that inodes have are in use
abbrev pub is_in_use : Layout → ℕ → ℕ → Bool
is_in_use l u j = nat_lt j 33 || is_some (claim_of l (unit_block (volume l) u + j))

-- each of the numbers is such
abbrev pub Each : (ℕ → Type 0) → List ℕ → Type 0
Each P xs = (n : ℕ) → among xs n ≡ true → P n

-- each of the places is such
abbrev pub EachPlace : (BlockPlace → Type 0) → List BlockPlace → Type 0
EachPlace P ps = (n i : ℕ) → has_place ps n i ≡ true → P (record { ino = n; index = i })

-- the batch with both sectors of a block
abbrev pub with_parts : List AfterImage → ℕ → List ℕ → List AfterImage
with_parts batch b bytes = batch_set (batch_set batch (block_sector 2 b) (sector_part 0 bytes)) (block_sector 2 b + 1) (sector_part 1 bytes)
