-- A stopped image as it is read, and the tree that it replays as.
use Rattle.std.specs.Prelude.{◌≡◌, ◌+◌, ◌*◌, ◌<◌, ◌≤◌, ◌^◌, ℕ, false, IsTrue, List, [], ◌∷◌, length, None, All, Ok}
use Rattle.vx_dev.specs.Tape.{State, Tape, MayHold, now}
use Rattle.vx_layout.specs.declared.superblock.Super.{Super}
use Rattle.vx_layout.specs.Places.{sectors_of}
use Rattle.vx_layout.specs.Supers.{IsSuper, super_bytes, volume_of}
use Rattle.vx_layout.specs.LogForms.{AfterImage, LogState, log_sectors, overlay_all}
use Rattle.vx_log.specs.Ends.{IsEnds, ends_bytes}
use Rattle.vx_log.specs.declared.read.Ends.{Ends}
use Rattle.vx_log.specs.Batches.{with_notes}
use Rattle.vx_log.specs.Crashes.{Stands}
use Rattle.vx_replay.specs.Holding.{HoldsTree}
use Rattle.vx_model.specs.Replays.{ReplaysAs}
use Rattle.vx_model.specs.Tree.{Tree}
use Rattle.vx_replay.specs.BadImages.{first_super}
use Rattle.vx_replay.specs.LogReads.{Shows, StandThere, AreRecords, image_count}
use Rattle.vx_replay.specs.declared.load.Stopped.{Stopped}

-- what is noted once the records are, the oldest first
abbrev pub noted_all : List AfterImage → List (List AfterImage) → List AfterImage
noted_all homes [] = homes
noted_all homes (r ∷ rs) = noted_all (with_notes homes r) rs

-- what can be written home and then marked clean, on a device of so many sectors
pub record CanCarry (size : ℕ) (s : Stopped) : Type 0 where
  pub closing : s.log.closing ≡ None
  pub area : 4 + s.log.sectors ≤ size
  pub inside : All (λ e. e.0 < size) s.homes
  pub superblock : IsSuper s.superblock
  pub room : sectors_of (volume_of s.superblock) ≤ size

-- what was read of an image on a device of so many sectors
pub record IsReadFrom (size : ℕ) (image : ℕ → List ℕ) (s : Stopped) : Type 0 where
  pub first : Super
  pub is_first : IsSuper first
  pub first_is : image 0 ≡ super_bytes first
  pub first_room : sectors_of (volume_of first) ≤ size
  pub checked : first_super size image ≡ Ok first
  pub ends : Ends
  pub is_ends : IsEnds (2 * first.log_blocks) ends
  pub head_is : image 2 ≡ ends_bytes ends
  pub records : List (List AfterImage)
  pub are : AreRecords (2 * first.log_blocks) size ends.tail ends.head records
  pub stand : StandThere (2 * first.log_blocks) image ends.tail (log_sectors ends.tail records)
  pub superblock_is : overlay_all records 0 (image 0) ≡ super_bytes s.superblock
  pub same_log : s.superblock.log_blocks ≡ first.log_blocks
  pub room : sectors_of (volume_of s.superblock) ≤ size
  pub sectors : s.log.sectors ≡ 2 * first.log_blocks
  pub serial : s.log.serial ≡ ends.serial
  pub tail : s.log.tail ≡ ends.tail
  pub head : s.log.head ≡ ends.head
  pub homes : s.homes ≡ noted_all [] records
  pub descriptors : s.descriptors ≡ length records
  pub images : s.images ≡ image_count records

-- the device shows an image that replays as the tree, and this was read of it
pub record IsReplayOf (d : State) (t : Tape) (tree : Tree) (s : Stopped) : Type 0 where
  pub shows : Shows d t
  pub replays : ReplaysAs d.size (now t) tree
  pub read : IsReadFrom d.size (now t) s

-- a crash leaves an empty log, this superblock, and sectors of its volume that read as the tree
pub record IsEmptied (s : Super) (tree : Tree) (t : Tape) : Type 0 where
  pub reading : LogState
  pub records : reading.records ≡ []
  pub level : reading.tail ≡ reading.head
  pub serial : reading.serial < 2 ^ 64
  pub limit : reading.head ≤ 2 ^ 62
  pub stands : Stands (2 * s.log_blocks) reading t
  pub above : (q : ℕ) → 4 + 2 * s.log_blocks ≤ q → IsTrue (reading.is_metadata q)
  pub not_super : reading.is_metadata 0 ≡ false
  pub superblock : (x : List ℕ) → MayHold t 0 x → x ≡ super_bytes s
  pub holds : HoldsTree (volume_of s) reading.contents tree
