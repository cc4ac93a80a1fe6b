-- What the images that a crash may leave are read as, from one operation to the next.
use Rattle.std.specs.Prelude.{◌≡◌, ◌≢◌, ◌⊎◌, ◌<◌, ◌≤◌, ◌+◌, ℕ, Bool, IsTrue, List, [], ◌++◌, length, get_or}
use Rattle.vx_dev.specs.Tape.{Tape, MayHold, Settles}
use Rattle.vx_layout.specs.LogForms.{AfterImage, IsHomeSector, LogState, log_at, log_sectors, overlay_all, head_of, live}
use Rattle.vx_log.specs.Logs.{next_serial}

-- metadata sectors are neither the head sector nor in the log
abbrev pub IsApart : ℕ → (ℕ → Bool) → Type 0
IsApart n is_metadata = (s : ℕ) → IsTrue (is_metadata s) → IsHomeSector n s

-- Whatever a crash leaves, the records are whole and the metadata is what it is to be. Nothing is said of the head sector.
pub record Holds (n : ℕ) (r : LogState) (t : Tape) : Type 0 where
  pub apart : IsApart n r.is_metadata
  pub ends : r.head ≡ r.tail + length (live r)
  pub fits : r.head ≤ r.tail + n
  pub whole : (i : ℕ) (x : List ℕ) → i < length (live r) → MayHold t (log_at n (r.tail + i)) x → x ≡ get_or (live r) i []
  pub metadata : (s : ℕ) (x : List ℕ) → IsTrue (r.is_metadata s) → MayHold t s x → overlay_all r.records s x ≡ r.contents s

-- every image is read as r
pub record Stands (n : ℕ) (r : LogState) (t : Tape) : Type 0 where
  pub holds : Holds n r t
  pub head_is : (x : List ℕ) → MayHold t 2 x → x ≡ head_of r

-- every image is read as r or as r2
pub record Either (n : ℕ) (r r2 : LogState) (t : Tape) : Type 0 where
  pub before : Holds n r t
  pub after : Holds n r2 t
  pub either : (x : List ℕ) → MayHold t 2 x → (x ≡ head_of r) ⊎ (x ≡ head_of r2)

-- the same, where the head sector of r2 is written and not yet behind a barrier
pub record Turns (n : ℕ) (r r2 : LogState) (t : Tape) : Type 0 where
  pub reads : Either n r r2 t
  pub last : Settles t 2 (head_of r2)

-- the records name the sector: what a crash brings back of it doesn't matter
abbrev pub IsDecided : List (List AfterImage) → ℕ → Type 0
IsDecided records s = (x y : List ℕ) → overlay_all records s x ≡ overlay_all records s y

-- a write there leaves what the images are read as
pub record IsFree (n : ℕ) (r : LogState) (u : ℕ) : Type 0 where
  pub no_record : (i : ℕ) → i < length (live r) → u ≢ log_at n (r.tail + i)
  pub decided : IsTrue (r.is_metadata u) → IsDecided r.records u

-- the state with these records more, after which these sectors hold metadata
abbrev pub grown : LogState → List (List AfterImage) → (ℕ → Bool) → LogState
grown r records is_metadata = record {
  serial = next_serial r.serial;
  tail = r.tail;
  head = r.head + length (log_sectors r.head records);
  records = r.records ++ records;
  is_metadata = is_metadata;
  contents = λ s. overlay_all records s (r.contents s);
}

-- each of these sectors held metadata before, or the records name it
abbrev pub Covers : LogState → List (List AfterImage) → (ℕ → Bool) → Type 0
Covers r records is_metadata = (s : ℕ) → IsTrue (is_metadata s) → IsTrue (r.is_metadata s) ⊎ IsDecided records s

-- the state with the log's records from some record on, which begins at this position
abbrev pub trimmed : LogState → ℕ → List (List AfterImage) → LogState
trimmed r tail rest = record {
  serial = next_serial r.serial;
  tail = tail;
  head = r.head;
  records = rest;
  is_metadata = r.is_metadata;
  contents = r.contents;
}

-- the state with the tail at the head
abbrev pub emptied : LogState → LogState
emptied r = trimmed r r.head []

-- the first k of these log sectors are written, with or without a barrier behind them
abbrev pub IsPut : ℕ → ℕ → List (List ℕ) → ℕ → Tape → Type 0
IsPut n position body k t = (i : ℕ) → i < k → Settles t (log_at n (position + i)) (get_or body i [])

-- these log sectors are written and behind a barrier
abbrev pub IsCertainBody : ℕ → ℕ → List (List ℕ) → Tape → Type 0
IsCertainBody n position body t = (i : ℕ) (x : List ℕ) → i < length body → MayHold t (log_at n (position + i)) x → x ≡ get_or body i []

-- a barrier now leaves in the sector what it is to hold
abbrev pub IsPutHome : LogState → ℕ → Tape → Type 0
IsPutHome r s t = Settles t s (r.contents s)

-- no crash leaves anything else in the sector
abbrev pub IsStableHome : LogState → ℕ → Tape → Type 0
IsStableHome r s t = (x : List ℕ) → MayHold t s x → x ≡ r.contents s

-- each metadata sector holds what it is to hold, once these records are laid over it
abbrev pub IsHomeBut : LogState → List (List AfterImage) → Tape → Type 0
IsHomeBut r rest t = (s : ℕ) (x : List ℕ) → IsTrue (r.is_metadata s) → MayHold t s x → overlay_all rest s x ≡ r.contents s

-- each metadata sector holds what it is to hold
abbrev pub IsHome : LogState → Tape → Type 0
IsHome r t = IsHomeBut r [] t
