-- How an event changes what a file goes through.
use Rattle.std.specs.Prelude.{◌≡◌, ◌≢◌, ◌⊎◌, ◌+◌, ◌*◌, ◌/◌, ◌≤◌, ◌<◌, ℕ, false, [], length, get_or, take, Ok, Err, Some, None}
use Rattle.vx_base.specs.declared.event.Event.{Event}
use Rattle.vx_space.specs.Space.{no_space}
use Rattle.vx_space.specs.Laws.{AreRising}
use Rattle.vx_space.specs.Leaving.{cut_space, settled_space}
use Rattle.vx_model.specs.LaidOut.{is_unreserved}
use Rattle.vx_model.specs.Layout.{space_at}
use Rattle.vx_model.specs.Outcome.{Maybe}
use Rattle.vx_model.specs.State.{State}
use Rattle.vx_model.specs.Tree.{File}
use Rattle.vx_model.specs.Opened.{pages_of}
use Rattle.vx_bytes.specs.Places.{place_of, placed_in}
use Rattle.vx_bytes.specs.Promises.{answers, file_in, is_unmounting}
use Rattle.vx_bytes.specs.Standings.{Mark, Changed, part_of}

-- ---- one file

-- there is the same file, with other attributes at most, or none before and after
abbrev pub IsSameFile : Maybe File → Maybe File → Type 0
IsSameFile (Ok was) (Ok is) = was.bytes ≡ is.bytes
IsSameFile (Err a) (Err b) = Unit {0}
IsSameFile _ _ = ⊥

-- the file has its bytes still, where they stood, and the device says the same of it
pub record IsUntouched (old new : State) (n : ℕ) : Type 0 where
  pub file : IsSameFile (file_in old n) (file_in new n)
  pub placed : (p : ℕ) → placed_in new n p ≡ placed_in old n p
  pub sectors : (p : ℕ) → (place_of new n).sectors p ≡ (place_of old n).sectors p
  pub size : (place_of new n).size ≡ (place_of old n).size

-- so it is of every file but this one
abbrev pub LeavesOthers : State → State → ℕ → Type 0
LeavesOthers old new ino = (n : ℕ) → n ≢ ino → IsUntouched old new n

-- each byte below the new size: its part is changed; or nothing of it has changed; or it lies past the old end, where no block is
abbrev pub IsGrownAt : State → State → ℕ → (ℕ → Mark) → (ℕ → Mark) → File → File → ℕ → Type 0
IsGrownAt old new ino before after was is i =
    (after (part_of i) ≡ Changed)
    ⊎ (((i < length was.bytes) × (get_or is.bytes i 0 ≡ get_or was.bytes i 0) × (after (part_of i) ≡ before (part_of i)) × (placed_in new ino (part_of i) ≡ placed_in old ino (part_of i)))
    ⊎ ((get_or is.bytes i 0 ≡ 0) × (placed_in new ino (part_of i) ≡ None)))

-- The file is no smaller, and what is new is held: a write, a truncate that is no smaller, chgsize. The device says the same of it.
pub record IsLonger (old new : State) (ino : ℕ) (before after : ℕ → Mark) : Type 0 where
  pub was : File
  pub is : File
  pub was_file : file_in old ino ≡ Ok was
  pub is_file : file_in new ino ≡ Ok is
  pub longer : length was.bytes ≤ length is.bytes
  pub bytes : (i : ℕ) → i < length is.bytes → IsGrownAt old new ino before after was is i
  pub sectors : (p : ℕ) → (place_of new ino).sectors p ≡ (place_of old ino).sectors p
  pub size : (place_of new ino).size ≡ (place_of old ino).size

-- Which parts a call marks as changed that writes so many bytes from an offset on and makes a file of one length one of another: those
-- that it writes, and where the file grows the rest of the page in which it ended. All others have their mark and their block still.
pub record IsMarkedChanged (old new : State) (ino from count before_length after_length : ℕ) (before after : ℕ → Mark) : Type 0 where
  pub written : (i : ℕ) → from ≤ i → i < from + count → after (part_of i) ≡ Changed
  pub old_end : (i : ℕ) → before_length ≤ i → i < after_length → 1024 * (i / 1024) < before_length → after (part_of i) ≡ Changed
  pub others : (q : ℕ) → (after q ≡ Changed) ⊎ ((after q ≡ before q) × (placed_in new ino q ≡ placed_in old ino q))

-- a smaller truncate
pub record IsShorter (old new : State) (ino size : ℕ) : Type 0 where
  pub was : File
  pub is : File
  pub was_file : file_in old ino ≡ Ok was
  pub is_file : file_in new ino ≡ Ok is
  pub less : size < length was.bytes
  pub bytes : is.bytes ≡ take size was.bytes
  pub space : space_at new.layout ino ≡ cut_space (pages_of size) size (space_at old.layout ino)

-- the file comes, without bytes, or goes
abbrev pub ComesOrGoes : Maybe File → Maybe File → Type 0
ComesOrGoes (Ok was) (Err why) = Unit {0}
ComesOrGoes (Err why) (Ok is) = is.bytes ≡ []
ComesOrGoes _ _ = ⊥

pub record IsEmptied (old new : State) (ino : ℕ) : Type 0 where
  pub file : ComesOrGoes (file_in old ino) (file_in new ino)
  pub space : space_at new.layout ino ≡ no_space

-- a settle of the file
pub record IsSettledNow (old new : State) (ino : ℕ) : Type 0 where
  pub was : File
  pub is : File
  pub was_file : file_in old ino ≡ Ok was
  pub is_file : file_in new ino ≡ Ok is
  pub bytes : is.bytes ≡ was.bytes
  pub rising : AreRising 0 (space_at old.layout ino).present
  pub space : space_at new.layout ino ≡ settled_space (is_unreserved was) (length was.bytes) (space_at old.layout ino)

-- ---- events

-- the event answers no call but by a refusal, and isn't the unmounting
pub record IsUnpromising (e : Event) : Type 0 where
  pub silent : (i : ℕ) → answers i e ≡ false
  pub mounted : is_unmounting (Some e) ≡ false
