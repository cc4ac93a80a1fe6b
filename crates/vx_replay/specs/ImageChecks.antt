-- When an image passes its check, and the first fault of one that does not.
use Rattle.std.specs.Prelude.{◌≡◌, ◌⊎◌, ◌*◌, ◌≤◌, ℕ, Bool, true, false, List, Ok}
use Rattle.vx_layout.specs.declared.superblock.Super.{Super}
use Rattle.vx_layout.specs.LogForms.{AfterImage, overlay_all}
use Rattle.vx_layout.specs.Places.{sectors_of}
use Rattle.vx_layout.specs.Supers.{IsSuper, super_bytes, volume_of}
use Rattle.vx_log.specs.Ends.{IsEnds, ends_bytes}
use Rattle.vx_sound.specs.Sound.{IsSound, IsBadMeta}
use Rattle.vx_check.specs.declared.stop.Stop.{Stop}
use Rattle.vx_check.specs.declared.stop.Stop.TheVariants as stop
use Rattle.vx_replay.specs.BadImages.{bad, checked_again, first_super, HasLog, IsBadLog}
use Rattle.vx_replay.specs.declared.image_check.Checked.{Checked}
use Rattle.vx_replay.specs.declared.image_check.CleanFront.{CleanFront}
use Rattle.vx_replay.specs.declared.image_check.CheckRefusal.{CheckRefusal}
use Rattle.vx_replay.specs.declared.image_check.CheckRefusal.TheVariants as no
use Rattle.vx_replay.specs.declared.refusal.ReplayRefusal.{ReplayRefusal}
use Rattle.vx_replay.specs.declared.refusal.ReplayRefusal.TheVariants as cannot

-- how the check says why the reading of an image is refused; nothing is written, so that no write can fail
abbrev pub refusal_of : ReplayRefusal → CheckRefusal
refusal_of (cannot.BadSuper field) = no.BadSuper field
refusal_of (cannot.BadLog sector) = no.BadLog sector
refusal_of (cannot.BadMeta sector) = no.BadMeta sector
refusal_of cannot.ReadFault = no.ReadFault
refusal_of cannot.WriteFault = no.ReadFault
refusal_of cannot.NoMemory = no.NoMemory

-- how a replay says why the check of the metadata stops
abbrev pub meta_refusal : Stop → ReplayRefusal
meta_refusal (stop.BadMeta sector) = cannot.BadMeta sector
meta_refusal stop.ReadFault = cannot.ReadFault
meta_refusal stop.NoMemory = cannot.NoMemory

-- The superblock and the log are whole. Where `strict`, the log is empty, and the superblock says that the image was left clean.
pub record HasFront (strict : Bool) (size : ℕ) (image : ℕ → List ℕ) : Type 0 where
  pub first : Super
  pub first_is : first_super size image ≡ Ok first
  pub records : List (List AfterImage)
  pub log : HasLog size image first records
  pub level : strict ≡ true → log.ends.tail ≡ log.ends.head
  pub clean : strict ≡ true → first.clean ≡ true

-- the log's records are laid over it, the oldest first
abbrev pub laid : List (List AfterImage) → (ℕ → List ℕ) → ℕ → List ℕ
laid records image s = overlay_all records s (image s)

-- so is the superblock that the records leave, with the same length of the log
pub record HasLast (strict : Bool) (size : ℕ) (image : ℕ → List ℕ) : Type 0 where
  pub front : HasFront strict size image
  pub last : Super
  pub last_is : checked_again size front.first.log_blocks (laid front.records image 0) ≡ Ok last

-- The image, of a device of so many sectors, passes its check: its superblock and log are whole, and with the log's records laid over it
-- the superblock is right once more and the metadata are sound.
pub record PassesCheck (strict : Bool) (size : ℕ) (image : ℕ → List ℕ) : Type 0 where
  pub whole : HasLast strict size image
  pub sound : IsSound strict (volume_of whole.last) (laid whole.front.records image)

-- the check answers the superblock that the records leave, and where the log stands
pub record IsPassed (strict : Bool) (size : ℕ) (image : ℕ → List ℕ) (c : Checked) : Type 0 where
  pub passes : PassesCheck strict size image
  pub superblock : c.superblock ≡ passes.whole.last
  pub tail : c.tail ≡ passes.whole.front.log.ends.tail
  pub head : c.head ≡ passes.whole.front.log.ends.head

-- the superblock that the records leave has this bad field
pub record LeavesBadSuper (strict : Bool) (size : ℕ) (image : ℕ → List ℕ) (field : ℕ) : Type 0 where
  pub front : HasFront strict size image
  pub last_is : checked_again size front.first.log_blocks (laid front.records image 0) ≡ bad field

-- the log is whole and stands so, and it isn't empty, or the image was not left clean
pub record IsNotClean (size : ℕ) (image : ℕ → List ℕ) (tail head : ℕ) : Type 0 where
  pub front : HasFront false size image
  pub tail_is : tail ≡ front.log.ends.tail
  pub head_is : head ≡ front.log.ends.head
  pub why : tail ≡ head → front.first.clean ≡ false

-- the first check of the metadata that fails names this sector
pub record HasBadMeta (strict : Bool) (size : ℕ) (image : ℕ → List ℕ) (sector : ℕ) : Type 0 where
  pub whole : HasLast strict size image
  pub first_fault : IsBadMeta strict (volume_of whole.last) (laid whole.front.records image) sector

-- refusals for what the image is, and not for a read that failed or for want of memory
abbrev pub is_of_image : CheckRefusal → Bool
is_of_image no.ReadFault = false
is_of_image no.NoMemory = false
is_of_image _ = true

-- the first fault of an image, in the order in which it is checked
abbrev pub IsFault : (strict : Bool) → ℕ → (ℕ → List ℕ) → CheckRefusal → Type 0
IsFault strict size image (no.BadSuper field) = (first_super size image ≡ bad field) ⊎ LeavesBadSuper strict size image field
IsFault strict size image (no.BadLog sector) = IsBadLog size image sector
IsFault strict size image (no.NotClean tail head) = (strict ≡ true) × IsNotClean size image tail head
IsFault strict size image (no.BadMeta sector) = HasBadMeta strict size image sector
IsFault strict size image no.ReadFault = Unit {0}
IsFault strict size image no.NoMemory = Unit {0}

-- ---- the superblock and the log of a clean image

-- what was read is of the right form, on a device of so many sectors
pub record CanMount (size : ℕ) (c : CleanFront) : Type 0 where
  pub is_super : IsSuper c.superblock
  pub clean : c.superblock.clean ≡ true
  pub room : sectors_of (volume_of c.superblock) ≤ size
  pub is_ends : IsEnds (2 * c.superblock.log_blocks) c.ends
  pub level : c.ends.tail ≡ c.ends.head

-- the image was left clean, with this superblock and this head sector
pub record HasCleanFront (size : ℕ) (image : ℕ → List ℕ) (c : CleanFront) : Type 0 where
  pub front : HasFront true size image
  pub first : front.first ≡ c.superblock
  pub ends : front.log.ends ≡ c.ends
  pub superblock_is : image 0 ≡ super_bytes c.superblock
  pub head_is : image 2 ≡ ends_bytes c.ends
