-- The metadata while they are read from the device, inode by inode.
use Rattle.std.specs.Prelude.{◌≡◌, ◌≤◌, ◌<◌, ℕ, ◌+◌, ◌*◌, true, false, not, ◌&&◌, List, [], ◌∷◌, ◌++◌, length, map, Option, Some, None}
use Rattle.std.specs.List.{All, flat_map, list_any}
use Rattle.std.specs.Str.{bytes_eq}
use Rattle.std.specs.Option.{option_map}
use Rattle.vx_base.specs.declared.inode.DirEntry.{DirEntry}
use Rattle.vx_base.specs.declared.inode.Extent.{Extent}
use Rattle.vx_base.specs.declared.inode.Inode.{Inode}
use Rattle.vx_base.specs.declared.inode.InodeValue.{InodeValue}
use Rattle.vx_base.specs.declared.kind.FileKind.TheVariants as kind
use Rattle.vx_alloc.specs.FreeMaps as alloc
use Rattle.vx_alloc.specs.FreeMaps.{FreeMapView, with_bit}
use Rattle.vx_dir.specs.Directories.{HasDistinctNames, HasShortNames}
use Rattle.vx_dir.specs.Sizes.{Entries, used_by}
use Rattle.vx_extents.specs.Extents.{Mapped, stretches}
use Rattle.vx_filemaps.specs.Files.{FileView}
use Rattle.vx_filemaps.specs.Loads.{IsNext, extent_pages, with_extent}
use Rattle.vx_inode.specs.Tables.{inode_at}
use Rattle.vx_layout.specs.Places.{is_data}
use Rattle.vx_model.specs.Contents.{inode_value}
use Rattle.vx_model.specs.LaidOut.{HasNothing, IsLaidOut, entries_of}
use Rattle.vx_model.specs.Layout.{DirectoryBlock, blocks_at, is_owned_below, maps_at, settled_at, settled_maps, volume}
use Rattle.vx_model.specs.State.{State}
use Rattle.vx_space.specs.Space.{no_space}
use Rattle.vx_txn.specs.Directories.{DirectoryValue, blocks_in, maps_in}
use Rattle.vx_txn.specs.Metas.{HasDirectory, IsStateOf, directory_of}
use Rattle.vx_txn.specs.declared.meta.Meta.{Meta}

-- the inode that the state has at a number
abbrev pub inode_in : State → ℕ → Option Inode
inode_in s n = option_map (λ (v : InodeValue). v.inode) (inode_value s n)

-- The metadata have the inodes of the state below n, and no others. A data block is free unless one of these inodes has it; none waits.
pub record IsLoadedTo (s : State) (n : ℕ) (m : Meta) : Type 0 where
  pub inodes : (k : ℕ) → k < n → inode_at m.inodes k ≡ inode_in s k
  pub no_others : (k : ℕ) → n ≤ k → inode_at m.inodes k ≡ None
  pub blocks : (k : ℕ) → k < n → blocks_at s.layout k ≡ blocks_in (directory_of m k)
  pub maps : (k : ℕ) → k < n → maps_at s.layout k ≡ maps_in (directory_of m k)
  pub kinds : (k : ℕ) → HasDirectory (inode_at m.inodes k) (directory_of m k)
  pub free : (b : ℕ) → alloc.is_free m.free b ≡ (is_data (volume s.layout) b && not (is_owned_below s.layout b n))
  pub pending : (b : ℕ) → alloc.place_of m.free b ≡ None
  pub units : s.layout.units ≡ m.inodes.units
  pub free_units : m.free.units ≡ m.inodes.units
  pub first : m.first ≡ 2 + s.layout.log_blocks
  pub free_first : m.free.first ≡ m.first
  pub per_unit : m.free.per_unit ≡ 4063
  pub bar : m.free.bar ≡ None
  pub bits : length m.free.free ≡ 4096 * m.free.units
  pub places : length m.free.pending ≡ 4096 * m.free.units
  pub limit : s.layout.directory_limit ≡ 64

-- ---- what is read of an inode

-- the state has a file at the number, with this inode and without a block
pub record IsFileThere (s : State) (n : ℕ) (inode : Inode) : Type 0 where
  pub inode_is : inode_in s n ≡ Some inode
  pub kind_is : inode.kind ≡ kind.File
  pub nothing : HasNothing s.layout n

abbrev pub entries_by_block : List DirectoryBlock → List Entries
entries_by_block blocks = map (λ (d : DirectoryBlock). d.entries) blocks

-- none of these names stands among those before, or twice
abbrev pub AreOnceNamed : Entries → Entries → Type 0
AreOnceNamed before [] = Unit {0}
AreOnceNamed before (e ∷ es) = (list_any (λ (x : DirEntry). bytes_eq e.name x.name) before ≡ false) × AreOnceNamed (before ++ e ∷ []) es

-- The state has a directory at the number, with this inode. These are the extents of its blocks in page order, its map blocks, and the
-- entries of each block; no name stands there twice.
pub record IsDirectoryThere (s : State) (n : ℕ) (inode : Inode) (extents : List Extent) (maps : List ℕ) (blocks : List Entries) : Type 0 where
  pub inode_is : inode_in s n ≡ Some inode
  pub kind_is : inode.kind ≡ kind.Directory
  pub extents_are : extents ≡ stretches (settled_at s.layout n)
  pub maps_are : maps ≡ settled_maps s.layout n
  pub blocks_are : blocks ≡ entries_by_block (blocks_at s.layout n)
  pub names : AreOnceNamed [] (entries_of (blocks_at s.layout n))

-- there is a state of which the metadata have all inodes below n, and which has this file at n
pub record IsFileNext (m : Meta) (n : ℕ) (inode : Inode) : Type 0 where
  pub state : State
  pub laid_out : IsLaidOut state
  pub loaded : IsLoadedTo state n m
  pub there : IsFileThere state n inode

-- the same for a directory
pub record IsDirectoryNext (m : Meta) (n : ℕ) (inode : Inode) (extents : List Extent) (maps : List ℕ) (blocks : List Entries) : Type 0 where
  pub state : State
  pub laid_out : IsLaidOut state
  pub loaded : IsLoadedTo state n m
  pub there : IsDirectoryThere state n inode extents maps blocks

-- the state has these sizes
pub record HasSizes (s : State) (log_blocks units : ℕ) : Type 0 where
  pub log : s.layout.log_blocks ≡ log_blocks
  pub units_are : s.layout.units ≡ units
  pub limit : s.layout.directory_limit ≡ 64

-- ---- a directory

-- the file with the pages of all extents
abbrev pub with_extents : List Extent → FileView → FileView
with_extents [] m = m
with_extents (e ∷ es) m = with_extents es (with_extent m e)

-- each extent stands behind the pages before it
abbrev pub AreNext : List Extent → List Mapped → Type 0
AreNext [] pages = Unit {0}
AreNext (e ∷ es) pages = IsNext pages e × AreNext es (pages ++ extent_pages e)

abbrev pub loaded_directory : List Extent → List ℕ → List Entries → DirectoryValue
loaded_directory extents maps blocks = record {
  names = record { block_size = 1024; limit = 64; blocks = blocks };
  maps = record { space = record no_space { present = flat_map extent_pages extents }; maps = maps };
}

-- the blocks fit into a directory
pub record AreBlocksOf (blocks : List Entries) : Type 0 where
  pub few : length blocks ≤ 64
  pub fit : All (λ (b : Entries). used_by b ≤ 1020) blocks
  pub short : All HasShortNames blocks
  pub distinct : HasDistinctNames blocks

-- ---- blocks that are taken

abbrev pub without_blocks : List ℕ → FreeMapView → FreeMapView
without_blocks [] v = v
without_blocks (b ∷ blocks) v = without_blocks blocks (with_bit v b false)

-- each of the blocks is free when its turn comes
abbrev pub CanTake : List ℕ → FreeMapView → Type 0
CanTake [] v = Unit {0}
CanTake (b ∷ blocks) v = (alloc.is_free v b ≡ true) × CanTake blocks (with_bit v b false)

-- ---- laws

pub record LoadingLaws : Type 0 where
  -- a number without an inode is passed over
  pub none : (s : State) (n : ℕ) (m : Meta) → IsLaidOut s → IsLoadedTo s n m → inode_value s n ≡ None → IsLoadedTo s (n + 1) m
  -- once all inodes are there, the metadata stand for the state, of which no block waits
  pub whole : (s : State) (m : Meta) → IsLaidOut s → ((b : ℕ) → s.layout.pending b ≡ None) → IsLoadedTo s (128 * s.layout.units) m → IsStateOf m s
