-- What a log holds, as it is read from a device.
use Rattle.std.specs.Prelude.{◌≡◌, ◌+◌, ◌<◌, ◌≤◌, ℕ, List, [], ◌∷◌, length, map, get_or, Some}
use Rattle.std.specs.List.{AllByRecursion}
use Rattle.vx_dev.specs.Tape.{State, Tape}
use Rattle.vx_layout.specs.LogForms.{AfterImage, IsRecord, log_at, log_sectors, descriptor}
use Rattle.vx_log.specs.Ends.{AreNames}

-- the device tells that it has come to this, and no write of it is in doubt
pub record Shows (d : State) (t : Tape) : Type 0 where
  pub told : d.told ≡ Some t
  pub certain : d.doubt ≡ []

-- what a read leaves of a device
pub record IsRead (old new : State) : Type 0 where
  pub told : new.told ≡ old.told
  pub count : new.count ≡ old.count
  pub doubt : new.doubt ≡ old.doubt
  pub size : new.size ≡ old.size
  pub writes : new.write_faults ≡ old.write_faults
  pub reads : old.read_faults ≤ new.read_faults

abbrev pub images_of : List AfterImage → List (List ℕ)
images_of record_ = map (λ e. e.1) record_

-- these sectors stand in a log of n sectors, from a position on
abbrev pub StandThere : ℕ → (ℕ → List ℕ) → ℕ → List (List ℕ) → Type 0
StandThere n image position sectors = (i : ℕ) → i < length sectors → image (log_at n (position + i)) ≡ get_or sectors i []

-- records that fill a log from `tail` up to `end`, on a device of so many sectors
pub record AreRecords (n size tail end : ℕ) (records : List (List AfterImage)) : Type 0 where
  pub form : AllByRecursion (IsRecord n size) records
  pub ends : end ≡ tail + length (log_sectors tail records)

-- no record that ends at `head` or before begins at this position
abbrev pub HasNoRecord : ℕ → ℕ → (ℕ → List ℕ) → ℕ → ℕ → Type 0
HasNoRecord n size image position head =
    (homes : List ℕ) → AreNames n size homes → position + 1 + length homes ≤ head → image (log_at n position) ≡ descriptor position homes → ⊥

-- records fill the log up to a position before its head, at which no record begins
pub record EndsBadly (n size : ℕ) (image : ℕ → List ℕ) (tail head sector : ℕ) : Type 0 where
  pub records : List (List AfterImage)
  pub position : ℕ
  pub are : AreRecords n size tail position records
  pub stand : StandThere n image tail (log_sectors tail records)
  pub before : position < head
  pub sector_is : sector ≡ log_at n position
  pub none : HasNoRecord n size image position head

-- how many after-images these records have
abbrev pub image_count : List (List AfterImage) → ℕ
image_count [] = 0
image_count (r ∷ rs) = length r + image_count rs

-- the positions at which these records begin
abbrev pub starts_at : ℕ → List (List AfterImage) → List ℕ
starts_at tail [] = []
starts_at tail (r ∷ rs) = tail ∷ starts_at (tail + (1 + length r)) rs
