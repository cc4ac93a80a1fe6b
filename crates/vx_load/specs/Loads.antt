-- Images that can be mounted, and what is loaded of one.
use Rattle.std.specs.Prelude.{◌≡◌, ◌<◌, ℕ, true, List, Some, None, Ok, IfSome}
use Rattle.vx_base.specs.Faults.{Rose}
use Rattle.vx_base.specs.declared.inode.InodeValue.{InodeValue}
use Rattle.vx_base.specs.declared.kind.FileKind.TheVariants.{File}
use Rattle.vx_dev.specs.Tape as dev
use Rattle.vx_dev.specs.Tape.{Tape, now}
use Rattle.vx_layout.specs.Supers.{super_bytes, volume_of}
use Rattle.vx_layout.specs.declared.superblock.Super.{Super}
use Rattle.vx_log.specs.Ends.{ends_bytes}
use Rattle.vx_check.specs.declared.stop.Stop.{Stop}
use Rattle.vx_check.specs.declared.stop.Stop.TheVariants as stop
use Rattle.vx_sound.specs.Said.{inode_said}
use Rattle.vx_model.specs.Contents.{parsed_of}
use Rattle.vx_model.specs.Images.{Stands}
use Rattle.vx_model.specs.Reads.{ImageReadsAs}
use Rattle.vx_model.specs.State.{State, directory_blocks}
use Rattle.vx_wellformed.specs.WellFormed.{IsWellFormed}
use Rattle.vx_said.specs.Plain.{HasPlainFiles, IsPlain, IsPlainIfFile}
use Rattle.vx_replay.specs.BadImages.{first_super}
use Rattle.vx_replay.specs.ImageChecks.{CanMount, IsFault, PassesCheck}
use Rattle.vx_replay.specs.LogReads.{Shows}
use Rattle.vx_replay.specs.declared.image_check.CheckRefusal.TheVariants as check
use Rattle.vx_replay.specs.declared.image_check.CleanFront.{CleanFront}
use Rattle.vx_txn.specs.Metas.{IsStateOf}
use Rattle.vx_load.specs.declared.loading.Loaded.{Loaded}
use Rattle.vx_load.specs.declared.refusal.LoadRefusal.{LoadRefusal}
use Rattle.vx_load.specs.declared.refusal.LoadRefusal.TheVariants as load

-- The image, of a device of so many sectors, passes the strict check with this superblock, and its files have no bytes.
pub record IsMountable (v : Super) (size : ℕ) (image : ℕ → List ℕ) : Type 0 where
  pub passes : PassesCheck true size image
  pub first_is : first_super size image ≡ Ok v
  pub plain : HasPlainFiles (volume_of v) image

-- the image can be mounted, begins so, and says this state
pub record HoldsState (front : CleanFront) (s : State) (size : ℕ) (image : ℕ → List ℕ) : Type 0 where
  pub mountable : IsMountable front.superblock size image
  pub superblock_is : image 0 ≡ super_bytes front.superblock
  pub head_is : image 2 ≡ ends_bytes front.ends
  pub stands : Stands (volume_of front.superblock) (parsed_of s) image
  pub reads : ImageReadsAs (volume_of front.superblock) image s.tree

-- a well-formed state of these sizes, on a device of so many sectors, of which no block waits
pub record IsStateFor (v : Super) (size : ℕ) (s : State) : Type 0 where
  pub well_formed : IsWellFormed s
  pub log_blocks : s.layout.log_blocks ≡ v.log_blocks
  pub units : s.layout.units ≡ v.units
  pub device : s.layout.device_sectors ≡ size
  pub limit : s.layout.directory_limit ≡ directory_blocks
  pub nothing_waits : (b : ℕ) → s.layout.pending b ≡ None

-- The metadata stand for a state, whatever the device answered; where it shows an image, the image says that state.
pub record IsLoaded (d : dev.State) (l : Loaded) : Type 0 where
  pub front : CanMount d.size l.front
  pub state : State
  pub is : IsStateFor l.front.superblock d.size state
  pub meta : IsStateOf l.meta state
  pub shown : (t : Tape) → Shows d t → HoldsState l.front state d.size (now t)

-- the image passes the strict check, and the file of this number has bytes, the first of all
pub record HasBytesAt (size : ℕ) (image : ℕ → List ℕ) (ino : ℕ) : Type 0 where
  pub superblock : Super
  pub first_is : first_super size image ≡ Ok superblock
  pub passes : PassesCheck true size image
  pub value : InodeValue
  pub said : inode_said (volume_of superblock) image ino ≡ Some value
  pub file : value.inode.kind ≡ File
  pub held : IsPlain value → ⊥
  pub first : (n : ℕ) → n < ino → IfSome (inode_said (volume_of superblock) image n) (λ i. IsPlainIfFile i.inode.kind i)

-- how the check of the metadata refuses
abbrev pub refusal_of : Stop → LoadRefusal
refusal_of (stop.BadMeta sector) = load.Check (check.BadMeta sector)
refusal_of stop.ReadFault = load.Check check.ReadFault
refusal_of stop.NoMemory = load.Check check.NoMemory

-- Why an image is not mounted: where the device shows one, by its first fault. A read fault is answered only where one was counted.
abbrev pub IsRefused : (old new : dev.State) → LoadRefusal → Type 0
IsRefused old new (load.Check why) = ((t : Tape) → Shows old t → IsFault true old.size (now t) why) × (why ≡ check.ReadFault → Rose old.read_faults new.read_faults)
IsRefused old new (load.HasBytes ino) = (t : Tape) → Shows old t → HasBytesAt old.size (now t) ino
