-- What the blocks of inodes say.
use Rattle.std.specs.Prelude.{◌≡◌, ℕ, List, [], get_or, map, Option, Some, None}
use Rattle.vx_base.specs.declared.inode.Extent.{Extent}
use Rattle.vx_base.specs.declared.inode.InodeValue.{InodeValue}
use Rattle.vx_base.specs.declared.inode.DirEntry.{DirEntry}
use Rattle.vx_layout.specs.Places.{Volume}
use Rattle.vx_sound.specs.Said.{Image, inode_said, chain_said, extents_said, directory_blocks, entries_said}

-- an inode's map blocks in the order of their chain, its extents, and the entries of each of its directory blocks
pub record InodeContents : Type 0 where
  pub maps : List ℕ
  pub extents : List Extent
  pub blocks : List (List DirEntry)

-- those of a free inode
abbrev pub no_contents : InodeContents
no_contents = record { maps = []; extents = []; blocks = [] }

-- those that an image says
abbrev pub contents_said : Volume → Image → Option InodeValue → InodeContents
contents_said v image None = no_contents
contents_said v image (Some i) = record {
  maps = chain_said v image i;
  extents = extents_said v image i;
  blocks = map (entries_said v image) (directory_blocks v image (Some i));
}

-- these are the contents of the image's inodes
abbrev pub AreContents : List InodeContents → Volume → Image → Type 0
AreContents contents v image = (n : ℕ) → get_or contents n no_contents ≡ contents_said v image (inode_said v image n)
