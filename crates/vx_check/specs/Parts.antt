-- The view of a reader, and what a part of the image check answers.
use Rattle.std.specs.Prelude.{◌≡◌, ℕ, ◌+◌, ◌*◌, ◌^◌, ◌≤◌, Bool, false, List, length, get_or, Option, Some, None, Result, Ok, Err}
use Rattle.std.specs.List.{AllByRecursion}
use Rattle.vx_base.specs.Faults.{Rose}
use Rattle.vx_dev.specs.Tape.{Tape}
use Rattle.vx_layout.specs.Places.{Volume, IsVolume, sectors_of}
use Rattle.vx_sound.specs.FirstFault.{FailsFirst}
use Rattle.vx_sound.specs.Said.{Image, among}
use Rattle.vx_sound.specs.Checks.{Check, Holds, sector_of}
use Rattle.vx_sound.specs.Sound.{IsSound, IsBadMeta}
use Rattle.vx_check.specs.declared.stop.Stop.{Stop}
use Rattle.vx_check.specs.declared.stop.Stop.TheVariants as stop

-- ---- readers

-- what a device has done, where it tells it, and the sectors at which a write has failed
pub record Deeds : Type 0 where
  pub told : Option Tape
  pub count : ℕ
  pub doubt : List ℕ
  pub write_faults : ℕ

-- sectors that are known, by number
abbrev pub Seen : Type 0
Seen = ℕ → Option (List ℕ)

-- the image has what is known of its sectors (where a reader answers what it likes, it reads no image)
abbrev pub Agrees : Option Seen → Image → Type 0
Agrees None image = ⊥
Agrees (Some seen) image = (s : ℕ) (bytes : List ℕ) → seen s ≡ Some bytes → image s ≡ bytes

-- the image that a reader's device shows, where it shows one; the sectors of which it is known what the reader answers, if it keeps to
-- what it answered; how many sectors it has; how many of its reads failed; what its device has done; and by which reference it holds
-- that device (0 where it holds it by none)
pub record View : Type 0 where
  pub shown : Option Image
  pub seen : Option Seen
  pub size : ℕ
  pub faults : ℕ
  pub deeds : Deeds
  pub reference : ℕ

-- of each image that has what is known
abbrev pub Known : View → (Image → Type 0) → Type 0
Known view P = (image : Image) → Agrees view.seen image → P image

-- Only reads lie between: what is known grows, and what is read is what the device shows.
pub record HasRead (old new : View) : Type 0 where
  pub seen : (image : Image) → Agrees new.seen image → Agrees old.seen image
  pub shown : new.shown ≡ old.shown
  pub right : (image : Image) → old.shown ≡ Some image → Agrees old.seen image → Agrees new.seen image
  pub size : new.size ≡ old.size
  pub deeds : new.deeds ≡ old.deeds
  pub reference : new.reference ≡ old.reference
  pub faults : old.faults ≤ new.faults

-- the reader has each sector of a volume with such blocks
pub record IsReadable (v : Volume) (view : View) : Type 0 where
  pub volume : IsVolume v
  pub block : v.block ≡ 1024
  pub fits : sectors_of v ≤ 2 ^ 32
  pub there : sectors_of v ≤ view.size

-- ---- answers

-- the first check of the list that fails, by the sector that is named
pub record NamesFirst (strict : Bool) (v : Volume) (image : Image) (checks : List Check) (sector : ℕ) : Type 0 where
  pub check : Check
  pub first : FailsFirst (Holds strict v image) checks check
  pub sector_is : sector ≡ sector_of v image check

abbrev pub Stops : (strict : Bool) → Volume → Image → List Check → Stop → Type 0
Stops strict v image checks (stop.BadMeta sector) = NamesFirst strict v image checks sector
Stops strict v image checks _ = Unit {0}

-- all checks hold, or the sector of the first that does not is named; a fault or want of memory may come in place of either
abbrev pub Finds : {T : Type 0} → (strict : Bool) → Volume → Image → List Check → Result T Stop → Type 0
Finds strict v image checks (Ok x) = AllByRecursion (Holds strict v image) checks
Finds strict v image checks (Err why) = Stops strict v image checks why

-- the same of the whole image
abbrev pub IsStopped : (strict : Bool) → Volume → Image → Stop → Type 0
IsStopped strict v image (stop.BadMeta sector) = IsBadMeta strict v image sector
IsStopped strict v image _ = Unit {0}

abbrev pub IsChecked : {T : Type 0} → (strict : Bool) → Volume → Image → Result T Stop → Type 0
IsChecked strict v image (Ok x) = IsSound strict v image
IsChecked strict v image (Err why) = IsStopped strict v image why

-- of each image that has what is known, whether inodes without a name are allowed or not
abbrev pub FindsIn : {T : Type 0} → View → Volume → (Image → List Check) → Result T Stop → Type 0
FindsIn view v checks result = (strict : Bool) → Known view (λ image. Finds strict v image (checks image) result)

-- a fault is answered only where a read failed
abbrev pub IsCause : {T : Type 0} → View → View → Result T Stop → Type 0
IsCause old new result = result ≡ Err stop.ReadFault → Rose old.faults new.faults

-- ---- marks

-- the marks that are set are those of these blocks
abbrev pub AreMarksOf : List Bool → List ℕ → Type 0
AreMarksOf marks xs = (b : ℕ) → get_or marks b false ≡ among xs b

-- a mark for each block of the volume
abbrev pub HasRoom : Volume → List Bool → Type 0
HasRoom v marks = length marks ≡ v.first + 4096 * v.units
