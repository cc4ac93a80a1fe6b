-- What an edit changes of the metadata.
use Rattle.std.specs.Prelude.{◌≡◌, ◌≢◌, ℕ, ◌+◌, ◌-◌, ◌*◌, ◌/◌, ◌<◌, Bool, true, false, ◌&&◌, ◌==◌, List, [], ◌∷◌, ◌++◌, drop, map, length, slice_get, is_some, Some, if◌then◌else◌}
use Rattle.std.specs.List.{list_any}
use Rattle.vx_base.specs.declared.inode.DirEntry.{DirEntry}
use Rattle.vx_base.specs.Paths.{FileName}
use Rattle.vx_layout.specs.Places.{Volume, block_sector, bitmap_sector, inode_sector, unit_block}
use Rattle.vx_layout.specs.LogForms.{AfterImage}
use Rattle.vx_model.specs.Layout.{DirectoryBlock, Claimed, volume, blocks_at, block_numbers, maps_at, chain_at, claim_of, given_up, room_place, without_name}
use Rattle.vx_model.specs.State.{State}
use Rattle.vx_model.specs.Images.{among, sectors_in}
use Rattle.vx_model.specs.Contents.{inode_value}

-- a directory's block, by its place among the directory's blocks
pub record BlockPlace : Type 0 where
  pub ino : ℕ
  pub index : ℕ

-- the inodes, the blocks of directories, the inodes whose map blocks, and the units whose bitmaps may have changed
pub record Touched : Type 0 where
  pub inodes : List ℕ
  pub blocks : List BlockPlace
  pub maps : List ℕ
  pub units : List ℕ

-- block i of directory n is one of these
abbrev pub has_place : List BlockPlace → ℕ → ℕ → Bool
has_place places n i = list_any (λ (p : BlockPlace). n == p.ino && i == p.index) places

-- nothing else has changed that is still there
pub record IsTouched (old new : State) (t : Touched) : Type 0 where
  pub same_volume : volume new.layout ≡ volume old.layout
  pub inodes : (n : ℕ) → among t.inodes n ≡ false → inode_value new n ≡ inode_value old n
  pub blocks : (n i : ℕ) (d : DirectoryBlock) → has_place t.blocks n i ≡ false → slice_get (blocks_at new.layout n) i ≡ Some d → slice_get (blocks_at old.layout n) i ≡ Some d
  pub maps : (n k : ℕ) (c : Claimed) → among t.maps n ≡ false → slice_get (chain_at new.layout n) k ≡ Some c → slice_get (chain_at old.layout n) k ≡ Some c
  pub units : (u j : ℕ) → j < 4096 → among t.units u ≡ false
      → is_some (claim_of new.layout (unit_block (volume new.layout) u + j)) ≡ is_some (claim_of old.layout (unit_block (volume new.layout) u + j))

-- what either touches
abbrev pub joined : Touched → Touched → Touched
joined a b = record { inodes = a.inodes ++ b.inodes; blocks = a.blocks ++ b.blocks; maps = a.maps ++ b.maps; units = a.units ++ b.units }

-- the batch has the sectors of all that is touched
pub record HasTouched (s : State) (t : Touched) (batch : List AfterImage) : Type 0 where
  pub inodes : (n : ℕ) → among t.inodes n ≡ true → n < 128 * s.layout.units → sectors_in batch (inode_sector (volume s.layout) n) ≡ true
  pub blocks : (n i j : ℕ) (d : DirectoryBlock) → has_place t.blocks n i ≡ true → slice_get (blocks_at s.layout n) i ≡ Some d → j < 2 → sectors_in batch (block_sector 2 d.block + j) ≡ true
  pub maps : (n k j : ℕ) (c : Claimed) → among t.maps n ≡ true → slice_get (chain_at s.layout n) k ≡ Some c → j < 2 → sectors_in batch (block_sector 2 c.block + j) ≡ true
  pub units : (u : ℕ) → among t.units u ≡ true → u < s.layout.units → sectors_in batch (bitmap_sector (volume s.layout) u) ≡ true

abbrev pub untouched : Touched
untouched = record { inodes = []; blocks = []; maps = []; units = [] }

-- an inode alone
abbrev pub inode_touched : ℕ → Touched
inode_touched n = record { inodes = n ∷ []; blocks = []; maps = []; units = [] }

-- the entries of one block of a directory alone
abbrev pub entries_touched : ℕ → ℕ → Touched
entries_touched n i = record { inodes = []; blocks = record { ino = n; index = i } ∷ []; maps = []; units = [] }

-- the unit that a block stands in
abbrev pub unit_of : Volume → ℕ → ℕ
unit_of v b = (b - v.first) / 4096

abbrev pub units_of : Volume → List ℕ → List ℕ
units_of v blocks = map (unit_of v) blocks

-- the blocks that a directory has got: its last block, and map blocks behind those that it had
abbrev pub new_blocks : State → State → ℕ → List ℕ
new_blocks old new n = drop (length (blocks_at old.layout n)) (block_numbers (blocks_at new.layout n)) ++ drop (length (maps_at old.layout n)) (maps_at new.layout n)

-- a name more touches the block with room for it; where that is new also the inode, its map blocks, and the units of what is new
abbrev pub name_touched : State → State → ℕ → DirEntry → Touched
name_touched old new at e =
    if length (blocks_at new.layout at) == length (blocks_at old.layout at) then entries_touched at (room_place (blocks_at old.layout at) e)
    else record {
      inodes = at ∷ [];
      blocks = record { ino = at; index = room_place (blocks_at old.layout at) e } ∷ [];
      maps = at ∷ [];
      units = units_of (volume new.layout) (new_blocks old new at);
    }

-- the name stands in no other block than this one
abbrev pub IsOnlyIn : FileName → ℕ → List DirectoryBlock → Type 0
IsOnlyIn name i blocks = (j : ℕ) (d : DirectoryBlock) → j ≢ i → slice_get blocks j ≡ Some d → without_name name d ≡ d

-- an inode that goes, and the units of its blocks
abbrev pub drop_touched : State → ℕ → Touched
drop_touched s n = record { inodes = n ∷ []; blocks = []; maps = []; units = units_of (volume s.layout) (given_up s.layout n) }
