-- How a check or a format ends, and why.
use Rattle.std.specs.Prelude.{◌≡◌, ◌+◌, ◌<◌, ◌≤◌, ℕ, Bool, true, false, List, length, Option, Some, None}
use Rattle.std.specs.Io.KnownBytes.{Appends}
use Rattle.vx_admin.specs.declared.end.End.{End}
use Rattle.vx_admin.specs.declared.end.End.TheVariants.{Done, Made, BadWords, DeviceTooSmall, Refused}
use Rattle.vx_admin.specs.declared.words.Ask.{Ask}
use Rattle.vx_admin.specs.declared.words.Ask.TheVariants.{Fsck, Mkfs}
use Rattle.vx_admin.specs.Output.{status_at, text_of}
use Rattle.vx_admin.specs.Words.{asked}
use Rattle.vx_base.specs.Faults.{Rose}
use Rattle.vx_dev.specs.Tape.{State, Tape, now}
use Rattle.vx_layout.specs.Places.{sectors_of}
use Rattle.vx_layout.specs.Supers.{volume_of}
use Rattle.vx_layout.specs.declared.superblock.Super.{Super}
use Rattle.vx_dev.specs.Moments.{Told, Always}
use Rattle.vx_mkfs.specs.Formats.{IsNewImage}
use Rattle.vx_model.specs.Replays.{ReplaysAs, IsClean, IsLeft}
use Rattle.vx_model.specs.Tree.{Tree, empty_root}
use Rattle.vx_replay.specs.BadImages.{IsBadSuper, IsBadLog}
use Rattle.vx_replay.specs.ImageChecks.{PassesCheck, HasBadMeta}
use Rattle.vx_replay.specs.LogReads.{Shows, IsRead}
use Rattle.vx_replay.specs.Replayed.{IsCounted, IsSettled}
use Rattle.vx_replay.specs.declared.refusal.ReplayRefusal.TheVariants as no
use Rattle.vx_replay.specs.declared.top.Recovered.TheVariants.{Clean, Replayed}
use Rattle.vx_script.specs.Puts.{AppendsPrefix}

-- the image was only read: it passed its check, its superblock is marked clean, and its log holds nothing
pub record IsFoundClean (old new : State) : Type 0 where
  pub read : IsRead old new
  pub sound : (t : Tape) → Shows old t → PassesCheck false old.size (now t)
  pub settled : (t : Tape) → Shows old t → IsSettled old.size (now t)
  pub clean : (t : Tape) (tree : Tree) → Shows old t → ReplaysAs old.size (now t) tree → IsClean old.size (now t) tree

-- The image passed its check, so many records and sectors of the log were carried home, and no write failed. A crash leaves one image
-- then: it is clean, and it reads as the tree as which the image replayed before.
pub record IsCarried (old new : State) (records sectors : ℕ) : Type 0 where
  pub fine : new.write_faults ≡ old.write_faults
  pub sound : (t : Tape) → Shows old t → PassesCheck false old.size (now t)
  pub counted : (t : Tape) → Shows old t → IsCounted old.size (now t) records sectors
  pub left : (t : Tape) (tree : Tree) → Shows old t → ReplaysAs old.size (now t) tree → Told new (IsLeft old.size tree)

-- the image was only read, and its superblock has a bad field
pub record IsRefusedSuper (old new : State) (field : ℕ) : Type 0 where
  pub read : IsRead old new
  pub why : (t : Tape) → Shows old t → IsBadSuper old.size (now t) field

-- the image was only read, and its log is bad at a sector
pub record IsRefusedLog (old new : State) (sector : ℕ) : Type 0 where
  pub read : IsRead old new
  pub why : (t : Tape) → Shows old t → IsBadLog old.size (now t) sector

-- the image was only read, and the first fault of its metadata is at a sector
pub record IsRefusedMeta (old new : State) (sector : ℕ) : Type 0 where
  pub read : IsRead old new
  pub why : (t : Tape) → Shows old t → HasBadMeta false old.size (now t) sector

-- No write failed. A crash leaves one image: that of a new file system with this superblock, which is clean and reads as the root
-- alone.
pub record IsMade (old new : State) (superblock : Super) : Type 0 where
  pub fine : new.write_faults ≡ old.write_faults
  pub left : Told new (IsLeft old.size empty_root)
  pub is_new : Told new (IsNewImage superblock)

-- what each end says of the device before and after
abbrev pub HasCause : State → State → End → Type 0
HasCause old new (Done Clean) = IsFoundClean old new
HasCause old new (Done (Replayed records sectors)) = IsCarried old new records sectors
HasCause old new (Made superblock) = IsMade old new superblock
HasCause old new BadWords = new ≡ old
HasCause old new (DeviceTooSmall have want) = new ≡ old
HasCause old new (Refused (no.BadSuper field)) = IsRefusedSuper old new field
HasCause old new (Refused (no.BadLog sector)) = IsRefusedLog old new sector
HasCause old new (Refused (no.BadMeta sector)) = IsRefusedMeta old new sector
HasCause old new (Refused no.ReadFault) = IsRead old new × Rose old.read_faults new.read_faults
HasCause old new (Refused no.WriteFault) = Rose old.write_faults new.write_faults
HasCause old new (Refused no.NoMemory) = IsRead old new

-- words that ask for nothing are refused, where memory lets them be read
abbrev pub EndsUnasked : End → Type 0
EndsUnasked BadWords = Unit
EndsUnasked (Refused no.NoMemory) = Unit
EndsUnasked _ = ⊥

-- a check is done or refused
abbrev pub EndsCheck : End → Type 0
EndsCheck (Done found) = Unit
EndsCheck (Refused why) = Unit
EndsCheck _ = ⊥

-- Where memory lets the words be read, a format with this superblock is made, or a write fails, exactly where a device of so many
-- sectors has room for it.
abbrev pub EndsFormat : (size : ℕ) → Super → End → Type 0
EndsFormat size superblock (Made made) = (made ≡ superblock) × (sectors_of (volume_of superblock) ≤ size)
EndsFormat size superblock (DeviceTooSmall have want) = (have ≡ size) × (want ≡ sectors_of (volume_of superblock)) × (have < want)
EndsFormat size superblock (Refused no.WriteFault) = sectors_of (volume_of superblock) ≤ size
EndsFormat size superblock (Refused no.NoMemory) = Unit
EndsFormat size superblock _ = ⊥

-- the ends that may come of what was asked, on a device of so many sectors
abbrev pub MayEnd : (size : ℕ) → Option Ask → End → Type 0
MayEnd size None end = EndsUnasked end
MayEnd size (Some Fsck) end = EndsCheck end
MayEnd size (Some (Mkfs superblock)) end = EndsFormat size superblock end

-- from the first barrier on every image that a crash leaves replays as the tree as which the image replayed before
abbrev pub Keeps : State → State → Type 0
Keeps old new =
    (t : Tape) (tree : Tree) → Shows old t → ReplaysAs old.size (now t) tree → Told new (Always (length t.ops + 1) (λ _ image. ReplaysAs old.size image tree))

-- The words decide how it may end, and each end has its cause. Words that ask for nothing leave the device as it was. However a check
-- ends, the tree is kept.
pub record HasEnded (words : List (List ℕ)) (old new : State) (end : End) : Type 0 where
  pub words_are : MayEnd old.size (asked words) end
  pub untouched : asked words ≡ None → new ≡ old
  pub kept : asked words ≡ Some Fsck → Keeps old new
  pub cause : HasCause old new end

-- what a sink took before and after, and its faults
pub record Taking : Type 0 where
  pub before : Option (List ℕ)
  pub now : Option (List ℕ)
  pub faults_before : ℕ
  pub faults : ℕ

-- all of the text was taken, without a fault, or a first part of it and then a fault
abbrev pub Takes : Taking → List ℕ → Bool → Type 0
Takes t text true = Appends t.before t.now text × (t.faults ≡ t.faults_before)
Takes t text false = AppendsPrefix t.before t.now text × Rose t.faults_before t.faults

-- what is known of every check and every format
pub record IsAdministered (words : List (List ℕ)) (old new : State) (t : Taking) (status : ℕ) : Type 0 where
  pub end : End
  pub written : Bool
  pub ended : HasEnded words old new end
  pub output : Takes t (text_of end) written
  pub status_is : status ≡ status_at end written
