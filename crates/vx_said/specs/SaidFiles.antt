-- What state an image with files says.
use Rattle.std.specs.Prelude.{◌≡◌, ℕ, List, None}
use Rattle.vx_layout.specs.Supers.{volume_of}
use Rattle.vx_layout.specs.declared.superblock.Super.{Super}
use Rattle.vx_sound.specs.Said.{block_bytes}
use Rattle.vx_model.specs.State.{State, directory_blocks}
use Rattle.vx_model.specs.Layout.{volume}
use Rattle.vx_model.specs.Images.{Stands}
use Rattle.vx_model.specs.Reads.{ImageReadsAs}
use Rattle.vx_model.specs.Contents.{parsed_of}
use Rattle.vx_model.specs.LaidOut.{IsOnDevice}
use Rattle.vx_model.specs.Settled.{IsSettledTree}
use Rattle.vx_wellformed.specs.WellFormed.{IsConsistent, AreNamed}

-- A consistent state of these sizes, on a device of so many sectors, that the image says and of which no block waits. Its files are
-- those of the image, nothing of them is held, and no handle is open.
pub record SaidFiles (v : Super) (device_sectors : ℕ) (image : ℕ → List ℕ) : Type 0 where
  pub state : State
  pub consistent : IsConsistent state
  pub named : AreNamed state
  pub log_blocks : state.layout.log_blocks ≡ v.log_blocks
  pub units : state.layout.units ≡ v.units
  pub volume_is : volume state.layout ≡ volume_of v
  pub device : state.layout.device_sectors ≡ device_sectors
  pub limit : state.layout.directory_limit ≡ directory_blocks
  pub stands : Stands (volume state.layout) (parsed_of state) image
  -- the tree is what the image reads as, so no handle is open
  pub reads : ImageReadsAs (volume_of v) image state.tree
  -- nothing is held
  pub on_device : (n : ℕ) → IsOnDevice state.layout n
  pub settled : IsSettledTree state (block_bytes (volume_of v) image) state.tree
  pub nothing_waits : (b : ℕ) → state.layout.pending b ≡ None
