-- What is wrong with an image that can't be replayed.
use Rattle.std.specs.Prelude.{◌≡◌, ◌⊎◌, ◌*◌, ℕ, ◌==◌, ◌&&◌, not, nat_lt, List, Result, Ok, Err, if◌then◌else◌}
use Rattle.std.specs.Int.{w32}
use Rattle.vx_layout.specs.declared.superblock.Super.{Super}
use Rattle.vx_layout.specs.declared.superblock.BadSuper.{BadSuper}
use Rattle.vx_layout.specs.Fields.{number_at}
use Rattle.vx_layout.specs.Places.{sectors_of}
use Rattle.vx_layout.specs.Supers.{super_at, volume_of}
use Rattle.vx_layout.specs.LogForms.{AfterImage, log_sectors, overlay_all}
use Rattle.vx_log.specs.Ends.{IsEnds, ends_bytes}
use Rattle.vx_log.specs.declared.read.Ends.{Ends}
use Rattle.vx_replay.specs.LogReads.{StandThere, AreRecords, EndsBadly}

abbrev pub bad : ℕ → Result Super BadSuper
bad field = Err (record { field = field })

-- field 9 is the device: it has the sectors that the volume takes
abbrev pub with_room : ℕ → Result Super BadSuper → Result Super BadSuper
with_room size (Ok v) = if nat_lt size (sectors_of (volume_of v)) then bad 9 else Ok v
with_room size (Err e) = Err e

-- the superblock that a sector holds, on a device of so many sectors, or its first bad field
abbrev pub checked_super : ℕ → List ℕ → Result Super BadSuper
checked_super size sector = with_room size (super_at sector)

-- a log of another length is field 4
abbrev pub with_log : ℕ → List ℕ → Result Super BadSuper → Result Super BadSuper
with_log log_blocks sector (Ok v) = if v.log_blocks == log_blocks then Ok v else bad 4
with_log log_blocks sector (Err e) = if nat_lt 4 e.field && not (number_at w32 16 sector == log_blocks) then bad 4 else Err e

-- the superblock once more, with the log's records laid over it
abbrev pub checked_again : ℕ → ℕ → List ℕ → Result Super BadSuper
checked_again size log_blocks sector = with_room size (with_log log_blocks sector (super_at sector))

-- a device without sectors has no magic
abbrev pub first_super : ℕ → (ℕ → List ℕ) → Result Super BadSuper
first_super size image = if size == 0 then bad 1 else checked_super size (image 0)

-- the log of this superblock is whole
pub record HasLog (size : ℕ) (image : ℕ → List ℕ) (first : Super) (records : List (List AfterImage)) : Type 0 where
  pub ends : Ends
  pub is_ends : IsEnds (2 * first.log_blocks) ends
  pub head_is : image 2 ≡ ends_bytes ends
  pub are : AreRecords (2 * first.log_blocks) size ends.tail ends.head records
  pub stand : StandThere (2 * first.log_blocks) image ends.tail (log_sectors ends.tail records)

-- the superblock that the log's records leave has a bad field
pub record IsBadLast (size : ℕ) (image : ℕ → List ℕ) (field : ℕ) : Type 0 where
  pub first : Super
  pub first_is : first_super size image ≡ Ok first
  pub records : List (List AfterImage)
  pub log : HasLog size image first records
  pub last : checked_again size first.log_blocks (overlay_all records 0 (image 0)) ≡ bad field

-- the first bad field of the superblock, or of the one that the log's records leave
abbrev pub IsBadSuper : ℕ → (ℕ → List ℕ) → ℕ → Type 0
IsBadSuper size image field = (first_super size image ≡ bad field) ⊎ IsBadLast size image field

-- sector 2 is no head sector of a log of n sectors, or a record does not begin where one should
abbrev pub WhyBadLog : ℕ → (ℕ → List ℕ) → ℕ → ℕ → Type 0
WhyBadLog size image n sector =
    ((sector ≡ 2) × ((e : Ends) → IsEnds n e → image 2 ≡ ends_bytes e → ⊥))
    ⊎ ((e : Ends) × IsEnds n e × (image 2 ≡ ends_bytes e) × EndsBadly n size image e.tail e.head sector)

-- the log of the first superblock is bad
pub record IsBadLog (size : ℕ) (image : ℕ → List ℕ) (sector : ℕ) : Type 0 where
  pub first : Super
  pub first_is : first_super size image ≡ Ok first
  pub why : WhyBadLog size image (2 * first.log_blocks) sector
