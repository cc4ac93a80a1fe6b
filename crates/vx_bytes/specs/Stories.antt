-- What one file goes through, whatever a history is.
use Rattle.std.specs.Prelude.{◌≡◌, ◌≤◌, ◌<◌, ◌+◌, ◌⊎◌, ℕ, Bool, true, false}
use Rattle.vx_bytes.specs.Course.{Course}

-- after each number of events its size and its bytes; at each place whether the event cuts the size, or removes what stood at an
-- offset, and whether it makes either stable and has returned
pub record Story : Type 0 where
  pub ends : ℕ
  pub size : ℕ → ℕ
  pub byte : ℕ → ℕ → ℕ
  pub shrinks : ℕ → Bool
  pub removes : ℕ → ℕ → Bool
  pub fixes_size : ℕ → Bool
  pub fixes : ℕ → ℕ → Bool

abbrev pub size_course : Story → Course
size_course y = record { ends = y.ends; value = y.size; cuts = y.shrinks; stable = y.fixes_size }

abbrev pub byte_course : Story → ℕ → Course
byte_course y o = record { ends = y.ends; value = y.byte o; cuts = y.removes o; stable = y.fixes o }

-- an event more, which leaves what was
pub record Follows (old new : Story) : Type 0 where
  pub ends : new.ends ≡ old.ends + 1
  pub size : (k : ℕ) → k ≤ old.ends → new.size k ≡ old.size k
  pub byte : (o k : ℕ) → k ≤ old.ends → new.byte o k ≡ old.byte o k
  pub shrinks : (i : ℕ) → i < old.ends → new.shrinks i ≡ old.shrinks i
  pub removes : (o i : ℕ) → i < old.ends → new.removes o i ≡ old.removes o i

-- what is stable was, or stands before these prefixes
pub record IsReady (old new : Story) (since : ℕ → ℕ) (size_since : ℕ) : Type 0 where
  pub size : (i : ℕ) → i < new.ends → new.fixes_size i ≡ true → ((i < old.ends) × (old.fixes_size i ≡ true)) ⊎ (i < size_since)
  pub bytes : (o i : ℕ) → i < new.ends → new.fixes o i ≡ true → ((i < old.ends) × (old.fixes o i ≡ true)) ⊎ (i < since o)

-- nothing is stable that wasn't
pub record FixesNone (old new : Story) : Type 0 where
  pub size : (i : ℕ) → i < new.ends → new.fixes_size i ≡ true → (i < old.ends) × (old.fixes_size i ≡ true)
  pub bytes : (o i : ℕ) → i < new.ends → new.fixes o i ≡ true → (i < old.ends) × (old.fixes o i ≡ true)

-- the event leaves the file as it is
pub record IsQuiet (old new : Story) : Type 0 where
  pub follows : Follows old new
  pub same_size : new.size new.ends ≡ old.size old.ends
  pub same_byte : (o : ℕ) → new.byte o new.ends ≡ old.byte o old.ends
  pub uncut : new.shrinks old.ends ≡ false
  pub unremoved : (o : ℕ) → new.removes o old.ends ≡ false
