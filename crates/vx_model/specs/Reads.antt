-- An image reads as a tree. What its sectors say, read by places, is vx_sound's; where the metadata are sound this is what they spell.
use Rattle.std.specs.Prelude.{◌≡◌, ℕ, ◌+◌, ◌/◌, ◌==◌, if◌then◌else◌, List, map, take, replicate, Option, Some, None}
use Rattle.std.specs.Option.{option_and_then}
use Rattle.std.specs.List.{flat_map}
use Rattle.std.specs.FinMap as map
use Rattle.vx_base.specs.declared.kind.FileKind.{FileKind}
use Rattle.vx_base.specs.declared.kind.FileKind.TheVariants.{File, Directory}
use Rattle.vx_base.specs.declared.kind.Kind.{Kind}
use Rattle.vx_base.specs.declared.kind.Kind.TheVariants.{Data, Reserved}
use Rattle.vx_base.specs.declared.inode.Extent.{Extent}
use Rattle.vx_base.specs.declared.inode.InodeValue.{InodeValue}
use Rattle.vx_base.specs.declared.inode.DirEntry.{DirEntry}
use Rattle.vx_base.specs.Paths.{FileName}
use Rattle.vx_layout.specs.Places.{Volume}
use Rattle.vx_sound.specs.FirstFault.{numbers}
use Rattle.vx_sound.specs.Said.{Image, block_bytes, inode_said, extents_said, entries_of}
use Rattle.vx_extents.specs.Extents.{Mapped, mapped_at, run}
use Rattle.vx_model.specs.Tree.{Node, IsFile, IsDirectory, Entries, Tree, tree_of_nodes}

-- ---- the bytes of a file

abbrev pub extent_pages : Extent → List Mapped
extent_pages e = run e.len e.page e.start e.kind

-- the pages of an inode that have a block
abbrev pub pages_said : Volume → Image → InodeValue → List Mapped
pages_said v image i = flat_map extent_pages (extents_said v image i)

-- how many pages so many bytes take up
abbrev pub pages_of : ℕ → ℕ
pages_of size = (size + 1023) / 1024

-- a page without a block, and a reserved one, is zeros
abbrev pub page_bytes : (ℕ → List ℕ) → Option (ℕ × Kind) → List ℕ
page_bytes data_at None = replicate 1024 0
page_bytes data_at (Some (b, Data)) = data_at b
page_bytes data_at (Some (b, Reserved)) = replicate 1024 0

-- the first bytes of a file with these pages, where data_at gives those of each block
unfoldable pub bytes_of : (ℕ → List ℕ) → List Mapped → ℕ → List ℕ
bytes_of data_at pages size = take size (flat_map (λ q. page_bytes data_at (mapped_at pages q)) (numbers 0 (pages_of size)))

-- ---- the tree

abbrev pub name_to_inode : DirEntry → FileName × ℕ
name_to_inode e = (e.name, e.ino)

abbrev pub entries_from : List DirEntry → Entries
entries_from es = map.from_entries (map name_to_inode es)

-- what inode n says, by its kind
abbrev pub node_by : FileKind → Volume → Image → ℕ → InodeValue → Node
node_by File v image n i =
    IsFile (record { mode = i.inode.mode; nlink = i.inode.nlink; attrs = i.inode.attrs; bytes = bytes_of (block_bytes v image) (pages_said v image i) i.inode.size })
node_by Directory v image n i = IsDirectory (record { mode = i.inode.mode; entries = entries_from (entries_of v image n) })

-- an inode without a name is no node
abbrev pub node_said : Volume → Image → ℕ → InodeValue → Option Node
node_said v image n i = if i.inode.nlink == 0 then None else Some (node_by i.inode.kind v image n i)

-- The nodes are what the image says, no handle is open, and the tunables have their defaults. The log's records are laid over the
-- image before.
pub record ImageReadsAs (v : Volume) (image : Image) (t : Tree) : Type 0 where
  pub nodes : (n : ℕ) → map.get t.nodes n ≡ option_and_then (node_said v image n) (inode_said v image n)
  pub rest : t ≡ tree_of_nodes t.nodes
