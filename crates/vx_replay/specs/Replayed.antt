-- What a replay answers.
use Rattle.std.specs.Prelude.{◌≡◌, ◌<◌, ℕ, true, List, [], length, Result, Ok, Err}
use Rattle.vx_base.specs.Faults.{Rose}
use Rattle.vx_dev.specs.Tape.{State}
use Rattle.vx_layout.specs.LogForms.{AfterImage, overlay_all}
use Rattle.vx_layout.specs.Supers.{IsSuper, super_bytes}
use Rattle.vx_layout.specs.declared.superblock.Super.{Super}
use Rattle.vx_replay.specs.BadImages.{HasLog, first_super}
use Rattle.vx_replay.specs.LogReads.{IsRead, image_count}
use Rattle.vx_replay.specs.declared.refusal.ReplayRefusal.{ReplayRefusal}
use Rattle.vx_replay.specs.declared.refusal.ReplayRefusal.TheVariants as no

-- So many records and after-images stand in the image's log, and the image needs a replay: the superblock that the records leave
-- is not marked clean, or there are records.
pub record IsCounted (size : ℕ) (image : ℕ → List ℕ) (records sectors : ℕ) : Type 0 where
  pub first : Super
  pub first_is : first_super size image ≡ Ok first
  pub held : List (List AfterImage)
  pub log : HasLog size image first held
  pub records_are : records ≡ length held
  pub sectors_are : sectors ≡ image_count held
  pub last : Super
  pub is_last : IsSuper last
  pub last_is : overlay_all held 0 (image 0) ≡ super_bytes last
  pub needed : last.clean ≡ true → 0 < length held

-- no record stands in the image's log, and its superblock is marked clean
pub record IsSettled (size : ℕ) (image : ℕ → List ℕ) : Type 0 where
  pub first : Super
  pub first_is : first_super size image ≡ Ok first
  pub clean : first.clean ≡ true
  pub log : HasLog size image first []

-- a fault is answered only where its count rose, and but for a write fault nothing was written
abbrev pub Cause : State → State → ReplayRefusal → Type 0
Cause old new no.WriteFault = Rose old.write_faults new.write_faults
Cause old new no.ReadFault = Rose old.read_faults new.read_faults × IsRead old new
Cause old new _ = IsRead old new

-- a replay that is done met no write fault
abbrev pub IsReplayRefusal : {T : Type 0} → State → State → Result T ReplayRefusal → Type 0
IsReplayRefusal old new (Ok x) = new.write_faults ≡ old.write_faults
IsReplayRefusal old new (Err why) = Cause old new why
