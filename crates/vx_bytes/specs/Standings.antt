-- What holds of one file's sectors in every image, between two turns.
use Rattle.std.specs.Prelude.{◌≡◌, ◌≤◌, ◌<◌, ◌/◌, ◌%◌, ℕ, false, List, get_or, Option, Some, None}
use Rattle.vx_dev.specs.Tape.{Tape, MayHold, Settles}
use Rattle.vx_bytes.specs.Course.{May, SizeMay}
use Rattle.vx_bytes.specs.Stories.{Story, size_course, byte_course}

-- the part of a file of 512 bytes that an offset is in, and where in it: half a page
unfoldable pub part_of : ℕ → ℕ
part_of o = o / 512

unfoldable pub within : ℕ → ℕ
within o = o % 512

-- which sector each part has on the device, and the size there
pub record OnDevice : Type 0 where
  pub sectors : ℕ → Option ℕ
  pub size : ℕ

-- A state that a crash may show: the length of its prefix, what the device says of the file, and since which prefix what a crash may
-- leave of each byte and of the size are candidates.
pub record Standing : Type 0 where
  pub k : ℕ
  pub place : OnDevice
  pub since : ℕ → ℕ
  pub size_since : ℕ

-- a crash may leave v as the byte number i of the part: what its sector may hold, 0 where it has none
abbrev pub Reads : Tape → Option ℕ → ℕ → ℕ → Type 0
Reads t None i v = v ≡ 0
Reads t (Some s) i v = (x : List ℕ) × MayHold t s x × (get_or x i 0 ≡ v)

-- the size and each byte below it that a crash may leave where it shows this state are candidates for it
pub record Shown (y : Story) (s : Standing) (t : Tape) : Type 0 where
  pub inside : s.k ≤ y.ends
  pub recent : (o : ℕ) → s.since o ≤ y.ends
  pub size_recent : s.size_since ≤ y.ends
  pub size : SizeMay s.size_since (size_course y) s.k s.place.size
  pub bytes : (o v : ℕ) → o < s.place.size → Reads t (s.place.sectors (part_of o)) (within o) v → May (s.since o) (byte_course y o) s.k v

-- whether a part was changed since it was put, was put since the last barrier, or is on the device as it is
pub data Mark : Type 0 where
  Changed : Mark
  Put : Mark
  Stable : Mark

-- a barrier now would leave v there, and nothing else
abbrev pub IsSettled : Tape → Option ℕ → ℕ → ℕ → Type 0
IsSettled t None i v = v ≡ 0
IsSettled t (Some s) i v = (x : List ℕ) × Settles t s x × (get_or x i 0 ≡ v)

-- what the mark says of one byte
abbrev pub IsMarked : Mark → Tape → Option ℕ → ℕ → ℕ → Type 0
IsMarked Changed t place i v = Unit {0}
IsMarked Put t place i v = IsSettled t place i v
IsMarked Stable t place i v = (w : ℕ) → Reads t place i w → w ≡ v

-- what the mount knows of one file
pub record Memory : Type 0 where
  pub committed : Standing
  pub closing : Standing
  pub present : Standing
  -- the sector of each part, settled or held; none where it has no data block
  pub placed : ℕ → Option ℕ
  pub marks : ℕ → Mark
  -- the prefix after the file's last cut
  pub last_cut : ℕ

-- a sector serves one part
abbrev pub IsAlone : (ℕ → Option ℕ) → (ℕ → Option ℕ) → Type 0
IsAlone placed sectors = (p q s : ℕ) → placed p ≡ Some s → sectors q ≡ Some s → p ≡ q

-- no sector of the one is one of the other
abbrev pub IsForeign : (ℕ → Option ℕ) → (ℕ → Option ℕ) → Type 0
IsForeign placed sectors = (p q s : ℕ) → placed p ≡ Some s → sectors q ≡ Some s → ⊥

-- b is later than a, and what is on the device in it has been so for no longer
pub record Rises (a b : Standing) : Type 0 where
  pub k : a.k ≤ b.k
  pub since : (o : ℕ) → a.since o ≤ b.since o
  pub size_since : a.size_since ≤ b.size_since

-- where the file's new sectors may lie
pub record IsApart (placed : ℕ → Option ℕ) (m : Memory) : Type 0 where
  pub itself : IsAlone placed placed
  pub committed : IsAlone placed m.committed.place.sectors
  pub closing : IsAlone placed m.closing.place.sectors
  pub present : IsAlone placed m.present.place.sectors

pub record Keeps (y : Story) (m : Memory) (t : Tape) : Type 0 where
  pub committed : Shown y m.committed t
  pub closing : Shown y m.closing t
  pub present : Shown y m.present t
  pub present_is : m.present.k ≡ y.ends
  pub order : Rises m.committed m.closing
  pub order_present : Rises m.closing m.present
  pub apart : IsApart m.placed m
  pub uncut : (o i : ℕ) → m.last_cut ≤ i → i < y.ends → y.removes o i ≡ false
  pub marked : (o : ℕ) → o < y.size y.ends → IsMarked (m.marks (part_of o)) t (m.placed (part_of o)) (within o) (y.byte o y.ends)

-- the write is of none of the file's sectors, in any of the three states
pub record IsElsewhere (u : ℕ) (m : Memory) : Type 0 where
  pub placed : (p : ℕ) → m.placed p ≡ Some u → ⊥
  pub committed : (p : ℕ) → m.committed.place.sectors p ≡ Some u → ⊥
  pub closing : (p : ℕ) → m.closing.place.sectors p ≡ Some u → ⊥
  pub present : (p : ℕ) → m.present.place.sectors p ≡ Some u → ⊥

-- a barrier passes what was put
abbrev pub passed : Mark → Mark
passed Changed = Changed
passed Put = Stable
passed Stable = Stable
