-- A directory in memory.
use Rattle.std.specs.Prelude.{◌≡◌, ℕ, zero, suc, List, [], ◌∷◌, length, map, filter, Option, Some, None}
use Rattle.vx_base.specs.Paths.{FileName}
use Rattle.vx_base.specs.declared.inode.DirEntry.{DirEntry}
use Rattle.vx_dir.specs.Sizes.{Entries}
use Rattle.vx_dir.specs.Directories.{Directory, inode_of, with_entry}
use Rattle.vx_extents.specs.Extents.{Mapped}
use Rattle.vx_filemaps.specs.Files.{FileView}
use Rattle.vx_model.specs.Layout.{DirectoryBlock, other_name, pages_from}

-- the entries of the blocks, and the pages that the blocks are, with the map blocks
pub record DirectoryValue : Type 0 where
  pub names : Directory
  pub maps : FileView

-- each page's block beside its entries
abbrev pub placed : List Mapped → List Entries → List DirectoryBlock
placed [] blocks = []
placed (m ∷ pages) [] = []
placed (m ∷ pages) (entries ∷ blocks) = record { block = m.block; entries = entries } ∷ placed pages blocks

abbrev pub blocks_in : Option DirectoryValue → List DirectoryBlock
blocks_in None = []
blocks_in (Some d) = placed d.maps.space.present d.names.blocks

abbrev pub maps_in : Option DirectoryValue → List ℕ
maps_in None = []
maps_in (Some d) = d.maps.maps

abbrev pub block_count : Option DirectoryValue → ℕ
block_count None = 0
block_count (Some d) = length d.names.blocks

-- up to 64 blocks, each a page; all pages are on the device, and none is written to the list of those that the device says
pub record IsDirectory (d : DirectoryValue) : Type 0 where
  pub block_size : d.names.block_size ≡ 1024
  pub limit : d.names.limit ≡ 64
  pub settled : d.maps.space.settled ≡ []
  pub size : d.maps.space.size ≡ 0
  pub same_count : length d.maps.space.present ≡ length d.names.blocks
  pub pages : d.maps.space.present ≡ pages_from 0 (placed d.maps.space.present d.names.blocks)

-- ---- by inode number

-- the directory of an inode number
abbrev pub directory_at : List (Option DirectoryValue) → ℕ → Option DirectoryValue
directory_at [] n = None
directory_at (o ∷ slots) zero = o
directory_at (o ∷ slots) (suc n) = directory_at slots n

-- there is a directory, and it does not have the name
abbrev pub IsNewIn : FileName → Option DirectoryValue → Type 0
IsNewIn name None = ⊥
IsNewIn name (Some d) = inode_of d.names name ≡ None

-- ---- changes

-- the entries of all other names
abbrev pub others : FileName → Entries → Entries
others name entries = filter (other_name name) entries

abbrev pub without : FileName → DirectoryValue → DirectoryValue
without name d = record d { names = record d.names { blocks = map (others name) d.names.blocks } }

abbrev pub with_name : DirEntry → DirectoryValue → DirectoryValue
with_name e d = record d { names = with_entry d.names e }
