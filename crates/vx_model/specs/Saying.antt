-- What is read in an image that says a state.
use Rattle.std.specs.Prelude.{◌≡◌, ℕ, List, slice_get, Some}
use Rattle.vx_base.specs.declared.inode.InodeValue.{InodeValue}
use Rattle.vx_layout.specs.Maps.{MapBlock}
use Rattle.vx_extents.specs.Extents.{stretches}
use Rattle.vx_space.specs.Space.{page_blocks}
use Rattle.vx_sound.specs.Said.{blocks_said, chain_said, directory_blocks, entries_of, entries_said, extents_said, inode_said, map_said}
use Rattle.vx_sound.specs.Reading.{Extents, IsSpelled}
use Rattle.vx_model.specs.Layout.{Claimed, DirectoryBlock, block_numbers, blocks_at, chain_at, settled_at, settled_maps, volume}
use Rattle.vx_model.specs.State.{State}
use Rattle.vx_model.specs.Images.{Stands}
use Rattle.vx_model.specs.Contents.{inode_value, parsed_of}
use Rattle.vx_model.specs.LaidOut.{IsLaidOut}
use Rattle.vx_model.specs.LaidOut as laid

-- the image says what a laid-out state does
pub record IsImageOf (s : State) (image : ℕ → List ℕ) : Type 0 where
  pub laid_out : IsLaidOut s
  pub stands : Stands (volume s.layout) (parsed_of s) image

pub record StateSays : Type 0 where
  -- all that a state says has a spelling
  pub spelled : (s : State) → IsLaidOut s → IsSpelled (volume s.layout) (parsed_of s)
  -- each inode, with its extents, their blocks, and its map blocks
  pub inodes : (s : State) (image : ℕ → List ℕ) → IsImageOf s image → (n : ℕ) → inode_said (volume s.layout) image n ≡ inode_value s n
  pub chain : (s : State) (image : ℕ → List ℕ) → IsImageOf s image → (n : ℕ) (i : InodeValue) → inode_value s n ≡ Some i → chain_said (volume s.layout) image i ≡ settled_maps s.layout n
  pub maps : (s : State) (image : ℕ → List ℕ) → IsImageOf s image → (n k : ℕ) (c : Claimed) (m : MapBlock) → slice_get (chain_at s.layout n) k ≡ Some c → c.form ≡ Some (Extents m)
      → map_said (volume s.layout) image c.block ≡ m
  pub extents : (s : State) (image : ℕ → List ℕ) → IsImageOf s image → (n : ℕ) (i : InodeValue) → inode_value s n ≡ Some i → extents_said (volume s.layout) image i ≡ stretches (settled_at s.layout n)
  pub blocks : (s : State) (image : ℕ → List ℕ) → IsImageOf s image → (n : ℕ) (i : InodeValue) → inode_value s n ≡ Some i → blocks_said (volume s.layout) image i ≡ page_blocks (settled_at s.layout n)
  -- the entries of each block of a directory, and of all its blocks
  pub directories : (s : State) (image : ℕ → List ℕ) → IsImageOf s image → (n : ℕ) → directory_blocks (volume s.layout) image (inode_said (volume s.layout) image n) ≡ block_numbers (blocks_at s.layout n)
  pub entries : (s : State) (image : ℕ → List ℕ) → IsImageOf s image → (n i : ℕ) (d : DirectoryBlock) → slice_get (blocks_at s.layout n) i ≡ Some d → entries_said (volume s.layout) image d.block ≡ d.entries
  pub all_entries : (s : State) (image : ℕ → List ℕ) → IsImageOf s image → (n : ℕ) → entries_of (volume s.layout) image n ≡ laid.entries_of (blocks_at s.layout n)
