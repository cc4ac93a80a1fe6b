-- States of which an image reads as the tree (docs/FILES.md).
use Rattle.std.specs.Prelude.{◌≡◌, ◌≢◌, ℕ, Bool, true, false, ◌*◌, ◌<◌, ◌≤◌, ◌^◌, IsTrue, List, [], ◌++◌, length, Option, Some, None, IfSome}
use Rattle.std.specs.List.{flat_map, AllByRecursion}
use Rattle.std.specs.FinMap as map
use Rattle.vx_base.specs.declared.call.ExtAttrs.{ExtAttrs}
use Rattle.vx_base.specs.declared.inode.DirEntry.{DirEntry}
use Rattle.vx_base.specs.declared.kind.Kind.TheVariants.{Data}
use Rattle.vx_layout.specs.Places.{is_data, sectors_of}
use Rattle.vx_layout.specs.Dirs.{IsDir}
use Rattle.vx_extents.specs.Extents.{Mapped}
use Rattle.vx_space.specs.Space.{Space, no_space, page_blocks, maps_for, maps_needed, extents_in, most_extents}
use Rattle.vx_space.specs.Leaving.{lasts}
use Rattle.vx_space.specs.Laws.{AreRising, IsPart}
use Rattle.vx_space.specs.Uses.{uses}
use Rattle.vx_model.specs.Legal.{IfThere}
use Rattle.vx_model.specs.Tree.{Node, File, Directory, IsFile, IsDirectory, Tree, HandleKey, Opened, Tunables, no_attrs, tree_of_nodes}
use Rattle.vx_model.specs.Layout.{DirectoryBlock, Layout, volume, blocks_at, space_at, maps_at, block_numbers, owned, pages_from, settled_at}
use Rattle.vx_model.specs.State.{State, directory_blocks}
pub use Rattle.vx_model.specs.State.{most_bytes, is_unreserved}
use Rattle.vx_model.specs.Walks.{root}
use Rattle.vx_model.specs.Images.{among}
use Rattle.vx_model.specs.Reads.{entries_from}

-- ---- each block serves one purpose

-- the inode has the block, held or on the device
abbrev pub Owns : Layout → ℕ → ℕ → Type 0
Owns l n b = among (owned l n) b ≡ true

pub record IsOnceUsed (l : Layout) : Type 0 where
  -- each block has one inode, and serves it once
  pub once : (n m b : ℕ) → Owns l n b → Owns l m b → n ≡ m
  pub apart : (n b : ℕ) → uses (owned l n) b ≤ 1
  pub data_blocks : (n b : ℕ) → Owns l n b → IsTrue (is_data (volume l) b)
  -- and does not wait
  pub not_pending : (n b : ℕ) → Owns l n b → l.pending b ≡ None
  pub low : (n b : ℕ) → Owns l n b → n < 128 * l.units

-- the blocks of an inode that are metadata
abbrev pub named : Layout → ℕ → List ℕ
named l n = block_numbers (blocks_at l n) ++ maps_at l n

-- a data block that holds no metadata, and none that waits: it is free, or a file's page
pub record HoldsData (l : Layout) (b : ℕ) : Type 0 where
  pub data_block : IsTrue (is_data (volume l) b)
  pub unnamed : (n : ℕ) → among (named l n) b ≡ false
  pub ready : l.pending b ≡ None

-- ---- inodes

-- nothing stands on the device
pub record HasNothing (l : Layout) (n : ℕ) : Type 0 where
  pub none : owned l n ≡ []
  pub space : space_at l n ≡ no_space

-- a page that holds data begins below the file's size
abbrev pub BeginsBelow : ℕ → Mapped → Type 0
BeginsBelow size m = m.kind ≡ Data → 1024 * m.page < size

-- A file's pages, settled and present, its size on the device, and its map blocks: some may be more than it needs.
pub record IsSpaceOf (x : Space) (maps : List ℕ) (f : File) : Type 0 where
  pub settled_rises : AreRising 0 x.settled
  pub present_rises : AreRising 0 x.present
  pub part : IsPart x.settled x.present
  pub extents : extents_in x ≤ most_extents
  pub chain : maps_needed x ≤ length maps
  pub few_maps : length maps ≤ 64
  pub settled_size : x.size ≤ most_bytes
  pub size : length f.bytes ≤ most_bytes
  pub settled_below : AllByRecursion (BeginsBelow x.size) x.settled
  pub present_below : AllByRecursion (BeginsBelow (length f.bytes)) x.present
  -- a reserved page of a file that keeps no reservation is not on the device
  pub lasting : AllByRecursion (λ (m : Mapped). lasts (is_unreserved f) m ≡ true) x.settled

-- attributes that a file may have
pub record AreAttrs (a : ExtAttrs) : Type 0 where
  pub fixed : a.fixed ≤ 4063
  pub reserve : a.reserve ≤ 65536
  pub flags : a.flags < 32

-- a file that its inode, its map blocks and its pages say whole, but for what is held
pub record IsFileOf (l : Layout) (n : ℕ) (f : File) : Type 0 where
  pub mode : f.mode ≤ 4095
  pub few_links : f.nlink ≤ 32767
  pub attrs : AreAttrs f.attrs
  pub space : IsSpaceOf (space_at l n) (maps_at l n) f
  pub no_blocks : blocks_at l n ≡ []

abbrev pub entries_of : List DirectoryBlock → List DirEntry
entries_of blocks = flat_map (λ (b : DirectoryBlock). b.entries) blocks

-- a directory that its inode and its blocks say whole
pub record IsDirectoryOf (l : Layout) (n : ℕ) (d : Directory) : Type 0 where
  pub mode : d.mode ≤ 4095
  pub entries : d.entries ≡ entries_from (entries_of (blocks_at l n))
  pub spelled : AllByRecursion (λ (b : DirectoryBlock). IsDir 1024 b.entries) (blocks_at l n)
  pub few : length (blocks_at l n) ≤ l.directory_limit
  pub maps : length (maps_at l n) ≡ maps_for (pages_from 0 (blocks_at l n))
  pub space : space_at l n ≡ no_space

abbrev pub IsNodeOf : Layout → ℕ → Node → Type 0
IsNodeOf l n (IsFile f) = IsFileOf l n f
IsNodeOf l n (IsDirectory d) = IsDirectoryOf l n d

-- what stands at inode n: a node with its blocks, or nothing
abbrev pub IsHeld : Layout → ℕ → Option Node → Type 0
IsHeld l n None = HasNothing l n
IsHeld l n (Some node) = IsNodeOf l n node × (2 ≤ n) × (n < 128 * l.units)

abbrev pub IsDirectoryNode : Node → Type 0
IsDirectoryNode (IsFile f) = ⊥
IsDirectoryNode (IsDirectory d) = Unit {0}

abbrev pub IsFileNode : Node → Type 0
IsFileNode (IsFile f) = Unit {0}
IsFileNode (IsDirectory d) = ⊥

-- no handle is open on the inode
abbrev pub IsClosed : Tree → ℕ → Type 0
IsClosed t ino = (key : HandleKey) → IfSome (map.get t.handles key) (λ (o : Opened). o.ino ≢ ino)

-- the first extent of a file has a block at least, and no more than a unit's
pub record AreTunables (t : Tunables) : Type 0 where
  pub some : 1 ≤ t.initial_extent_size
  pub few : t.initial_extent_size ≤ 4063

-- the states that can be laid out on a device
pub record IsLaidOut (s : State) : Type 0 where
  pub nodes : (n : ℕ) → IsHeld s.layout n (map.get s.tree.nodes n)
  pub use_of_blocks : IsOnceUsed s.layout
  pub has_root : IfThere (map.get s.tree.nodes root) IsDirectoryNode
  pub handles : (key : HandleKey) → IfSome (map.get s.tree.handles key) (λ (o : Opened). IfThere (map.get s.tree.nodes o.ino) IsFileNode)
  pub tunables : AreTunables s.tree.tunables
  pub units : 0 < s.layout.units
  pub units_limit : s.layout.units ≤ 64
  pub log_blocks : s.layout.log_blocks ≤ 2048
  pub limit : s.layout.directory_limit ≤ directory_blocks
  pub room : sectors_of (volume s.layout) ≤ s.layout.device_sectors

-- ---- states without bytes

-- a file with a name, and without attributes and bytes
pub record IsPlainFile (f : File) : Type 0 where
  pub some_links : 1 ≤ f.nlink
  pub attrs : f.attrs ≡ no_attrs
  pub bytes : f.bytes ≡ []

-- No file has bytes or a block, and none is open: the states that calls of names come to from such a one.
pub record IsPlain (s : State) : Type 0 where
  pub files : (n : ℕ) (f : File) → map.get s.tree.nodes n ≡ Some (IsFile f) → IsPlainFile f × HasNothing s.layout n
  pub rest : s.tree ≡ tree_of_nodes s.tree.nodes

-- what stands at an inode of such a state
abbrev pub IsPlainHeld : Layout → ℕ → Option Node → Type 0
IsPlainHeld l n None = HasNothing l n
IsPlainHeld l n (Some (IsFile f)) = IsPlainFile f × HasNothing l n
IsPlainHeld l n (Some (IsDirectory d)) = IsDirectoryOf l n d

-- nothing of the inode is held: its pages and all its map blocks are on the device
pub record IsOnDevice (l : Layout) (n : ℕ) : Type 0 where
  pub pages : page_blocks (space_at l n).settled ≡ page_blocks (space_at l n).present
  pub maps : maps_for (settled_at l n) ≡ length (maps_at l n)
