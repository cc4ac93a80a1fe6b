-- How the intent log is spelled, and what an image with a log reads as.
use Rattle.std.specs.Prelude.{◌≡◌, ◌⊎◌, ◌==◌, ◌<◌, ◌≤◌, ◌+◌, ◌-◌, ◌*◌, ◌%◌, ◌/◌, ◌^◌, ℕ, zero, suc, Bool, IsTrue, List, [], ◌∷◌, ◌++◌, length, map, take, drop, get_or, replicate, if◌then◌else◌}
use Rattle.std.specs.Int.{w32, w64, to_le_bytes}
use Rattle.std.specs.List.{flat_map, AllByRecursion}
use Rattle.std.specs.List.Sorted.{IsStrictlyIncreasing}
use Rattle.vx_layout.specs.Fields.{number_at}

-- a sector's number and the bytes that it is to hold
abbrev pub AfterImage : Type 0
AfterImage = ℕ × List ℕ

-- the log's n sectors start at sector 4, and position p of the log stands there
abbrev pub log_at : ℕ → ℕ → ℕ
log_at n p = 4 + p % n

-- VXLOGHD1
abbrev pub head_magic : List ℕ
head_magic = 86 ∷ 88 ∷ 76 ∷ 79 ∷ 71 ∷ 72 ∷ 68 ∷ 49 ∷ []

-- VXRC
abbrev pub record_magic : List ℕ
record_magic = 86 ∷ 88 ∷ 82 ∷ 67 ∷ []

-- sector 2: where the log's live part begins and ends
unfoldable pub head_sector : ℕ → ℕ → ℕ → List ℕ
head_sector serial tail head = head_magic ++ to_le_bytes w64 serial ++ to_le_bytes w64 tail ++ to_le_bytes w64 head ++ replicate 480 0

-- the sector before a record's after-images: how many there are, where this stands, and their homes
unfoldable pub descriptor : ℕ → List ℕ → List ℕ
descriptor position homes =
    record_magic ++ to_le_bytes w32 (length homes) ++ to_le_bytes w64 position ++ flat_map (to_le_bytes w32) homes ++ replicate (496 - 4 * length homes) 0

-- so many numbers of four bytes, from a place on
abbrev pub numbers_at : ℕ → ℕ → List ℕ → List ℕ
numbers_at zero at s = []
numbers_at (suc n) at s = number_at w32 at s ∷ numbers_at n (at + 4) s

-- a record as it stands in the log
abbrev pub record_sectors : ℕ → List AfterImage → List (List ℕ)
record_sectors position record_ = descriptor position (map (λ e. e.0) record_) ∷ map (λ e. e.1) record_

-- a home sector is sector 0 or lies behind the log of n sectors
abbrev pub IsHomeSector : ℕ → ℕ → Type 0
IsHomeSector n s = (s ≡ 0) ⊎ (4 + n ≤ s)

-- what a descriptor may name, on a device of so many sectors
pub record IsNameable (n size s : ℕ) : Type 0 where
  pub home : IsHomeSector n s
  pub inside : s < size
  pub low : s < 2 ^ 32

-- the sectors of after-images
abbrev pub homes_of : List AfterImage → List ℕ
homes_of record_ = map (λ e. e.0) record_

-- a record of a log of n sectors, on a device of so many sectors
pub record IsRecord (n size : ℕ) (record_ : List AfterImage) : Type 0 where
  pub some : 1 ≤ length record_
  pub few : length record_ ≤ 124
  pub rising : IsStrictlyIncreasing (homes_of record_)
  pub homes : AllByRecursion (IsNameable n size) (homes_of record_)

abbrev pub log_sectors : ℕ → List (List AfterImage) → List (List ℕ)
log_sectors position [] = []
log_sectors position (r ∷ rs) = record_sectors position r ++ log_sectors (position + (1 + length r)) rs

-- what a sector that holds x holds when a record's after-images are laid over it
abbrev pub overlay : List AfterImage → ℕ → List ℕ → List ℕ
overlay [] s x = x
overlay (e ∷ es) s x = overlay es s (if e.0 == s then e.1 else x)

abbrev pub overlay_all : List (List AfterImage) → ℕ → List ℕ → List ℕ
overlay_all [] s x = x
overlay_all (r ∷ rs) s x = overlay_all rs s (overlay r s x)

-- What the log says, which sectors hold metadata, and what they stand for with the log's records laid over them.
pub record LogState : Type 0 where
  pub serial : ℕ
  pub tail : ℕ
  pub head : ℕ
  pub records : List (List AfterImage)
  pub is_metadata : ℕ → Bool
  pub contents : ℕ → List ℕ

abbrev pub head_of : LogState → List ℕ
head_of r = head_sector r.serial r.tail r.head

abbrev pub live : LogState → List (List ℕ)
live r = log_sectors r.tail r.records

-- the image is read so, where the log has n sectors: its head sector, its records, and its metadata with the records laid over it
pub record ReadsAs (n : ℕ) (r : LogState) (image : ℕ → List ℕ) : Type 0 where
  pub head_is : image 2 ≡ head_of r
  pub ends : r.head ≡ r.tail + length (live r)
  pub fits : r.head ≤ r.tail + n
  pub whole : (i : ℕ) → i < length (live r) → image (log_at n (r.tail + i)) ≡ get_or (live r) i []
  pub metadata : (s : ℕ) → IsTrue (r.is_metadata s) → overlay_all r.records s (image s) ≡ r.contents s

-- how many records a batch of so many after-images has
abbrev pub record_count : ℕ → ℕ
record_count len = (len + 123) / 124

-- how many log sectors a batch of so many after-images has
abbrev pub log_length : ℕ → ℕ
log_length len = len + record_count len

-- the batch's first k records, of 124 after-images each
abbrev pub records_from : ℕ → List AfterImage → List (List AfterImage)
records_from zero batch = []
records_from (suc k) batch = take 124 batch ∷ records_from k (drop 124 batch)

-- the batch cut into records of 124 after-images, all but the last full
unfoldable pub records_of : List AfterImage → List (List AfterImage)
records_of batch = records_from (record_count (length batch)) batch

-- the log sectors of a batch that begins at this position
abbrev pub body_of : ℕ → List AfterImage → List (List ℕ)
body_of position batch = log_sectors position (records_of batch)
