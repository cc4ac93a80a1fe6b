-- The superblock of an image and its log, as they are read.
use Rattle.std.specs.Prelude.{◌≡◌, ◌*◌, ◌≤◌, ℕ, List, Ok}
use Rattle.vx_layout.specs.LogForms.{log_sectors}
use Rattle.vx_layout.specs.Places.{sectors_of}
use Rattle.vx_layout.specs.Supers.{IsSuper, super_bytes, volume_of}
use Rattle.vx_log.specs.Ends.{IsEnds, ends_bytes}
use Rattle.vx_replay.specs.BadImages.{HasLog, first_super}
use Rattle.vx_replay.specs.LogReads.{StandThere, AreRecords}
use Rattle.vx_replay.specs.declared.load.Front.{Front}

-- what was read is of the right form, on a device of so many sectors
pub record CanLoad (size : ℕ) (f : Front) : Type 0 where
  pub is : IsSuper f.first
  pub room : sectors_of (volume_of f.first) ≤ size
  pub ends : IsEnds (2 * f.first.log_blocks) f.log.ends
  pub are : AreRecords (2 * f.first.log_blocks) size f.log.ends.tail f.log.ends.head f.log.records.items

-- the image holds what was read
pub record IsFrontOf (size : ℕ) (image : ℕ → List ℕ) (f : Front) : Type 0 where
  pub here : image 0 ≡ f.first_sector
  pub spelled : f.first_sector ≡ super_bytes f.first
  pub checked : first_super size image ≡ Ok f.first
  pub head_is : image 2 ≡ ends_bytes f.log.ends
  pub stand : StandThere (2 * f.first.log_blocks) image f.log.ends.tail (log_sectors f.log.ends.tail f.log.records.items)

-- so the image has the log that was read
abbrev pub log_of_front : {size : ℕ} {image : ℕ → List ℕ} {f : Front} → CanLoad size f → IsFrontOf size image f → HasLog size image f.first f.log.records.items
log_of_front can is = record { ends = _; is_ends = can.ends; head_is = is.head_is; are = can.are; stand = is.stand }
