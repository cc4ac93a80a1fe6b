-- What is known of the device while a batch is written and while sectors are written home.
use Rattle.std.specs.Prelude.{◌≡◌, ◌⊎◌, ◌<◌, ◌≤◌, ◌+◌, ℕ, IsTrue, List, length, get_or}
use Rattle.vx_dev.specs.Tape.{Tape}
use Rattle.vx_layout.specs.LogForms.{AfterImage, LogState, log_length, body_of, overlay_all}
use Rattle.vx_log.specs.Crashes.{Stands, IsDecided, IsPut, IsPutHome}

-- the first k log sectors of the batch are written behind the head
pub record IsBodyPut (n : ℕ) (r : LogState) (batch : List AfterImage) (k : ℕ) (t : Tape) : Type 0 where
  pub stands : Stands n r t
  pub put : IsPut n r.head (body_of r.head batch) k t

-- there is room for the batch behind the head
pub record IsFitting (n : ℕ) (r : LogState) (batch : List AfterImage) : Type 0 where
  pub some : 0 < n
  pub room : r.head + log_length (length batch) ≤ r.tail + n

-- each of these writes puts into a metadata sector what it is to hold, and a record names it
pub record AreHomes (r : LogState) (writes : List (ℕ × List ℕ)) : Type 0 where
  pub is_metadata : (k : ℕ) (d : ℕ × List ℕ) → k < length writes → IsTrue (r.is_metadata (get_or writes k d).0)
  pub decided : (k : ℕ) (d : ℕ × List ℕ) → k < length writes → IsDecided r.records (get_or writes k d).0
  pub contents : (k : ℕ) (d : ℕ × List ℕ) → k < length writes → (get_or writes k d).1 ≡ r.contents (get_or writes k d).0

-- each of these writes is done
pub record AreWritten (n : ℕ) (r : LogState) (writes : List (ℕ × List ℕ)) (t : Tape) : Type 0 where
  pub stands : Stands n r t
  pub home : (j : ℕ) (d : ℕ × List ℕ) → j < length writes → IsPutHome r (get_or writes j d).0 t

-- each metadata sector that a record names was written home
pub record AreHomesPut (n : ℕ) (r : LogState) (t : Tape) : Type 0 where
  pub stands : Stands n r t
  pub put : (s : ℕ) → IsTrue (r.is_metadata s) → ((x : List ℕ) → overlay_all r.records s x ≡ x) ⊎ IsPutHome r s t
