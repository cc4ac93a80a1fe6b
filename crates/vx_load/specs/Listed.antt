-- The inodes of a state, as they were read.
use Rattle.std.specs.Prelude.{◌≡◌, ℕ, ◌*◌, List, length, get_or, Option, Some, None}
use Rattle.vx_base.specs.declared.inode.InodeValue.{InodeValue}
use Rattle.vx_base.specs.declared.kind.FileKind.TheVariants.{File, Directory}
use Rattle.vx_layout.specs.declared.superblock.Super.{Super}
use Rattle.vx_check.specs.Contents.{InodeContents, no_contents}
use Rattle.vx_model.specs.Contents.{inode_value}
use Rattle.vx_model.specs.LaidOut.{HasNothing, IsLaidOut}
use Rattle.vx_model.specs.State.{State}
use Rattle.vx_txn.specs.Loads.{HasSizes, IsDirectoryThere, IsLoadedTo}
use Rattle.vx_txn.specs.declared.meta.Meta.{Meta}

-- This is what the state has at a number, with the contents of a directory. A file has no block.
pub record IsThere (s : State) (n : ℕ) (inode : Option InodeValue) (contents : InodeContents) : Type 0 where
  pub inode_is : inode_value s n ≡ inode
  pub file : (i : InodeValue) → inode ≡ Some i → i.inode.kind ≡ File → HasNothing s.layout n
  pub directory : (i : InodeValue) → inode ≡ Some i → i.inode.kind ≡ Directory → IsDirectoryThere s n i.inode contents.extents contents.maps contents.blocks

-- the metadata have all inodes of a state below n, which has this at n
pub record IsNext (m : Meta) (n : ℕ) (inode : Option InodeValue) (contents : InodeContents) : Type 0 where
  pub state : State
  pub laid_out : IsLaidOut state
  pub loaded : IsLoadedTo state n m
  pub there : IsThere state n inode contents

-- these are all inodes of a state of these sizes, of which no block waits
pub record AreOf (v : Super) (s : State) (inodes : List (Option InodeValue)) (contents : List InodeContents) : Type 0 where
  pub laid_out : IsLaidOut s
  pub sizes : HasSizes s v.log_blocks v.units
  pub nothing_waits : (b : ℕ) → s.layout.pending b ≡ None
  pub inodes_count : length inodes ≡ 128 * v.units
  pub contents_count : length contents ≡ 128 * v.units
  pub each : (n : ℕ) → IsThere s n (get_or inodes n None) (get_or contents n no_contents)

-- of some state
pub record AreListed (v : Super) (inodes : List (Option InodeValue)) (contents : List InodeContents) : Type 0 where
  pub state : State
  pub are : AreOf v state inodes contents
