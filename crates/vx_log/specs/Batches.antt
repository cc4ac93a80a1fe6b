-- Batches of after-images, as lists that rise in sector.
use Rattle.std.specs.Prelude.{◌≡◌, ◌≢◌, ◌⊎◌, ◌==◌, ◌<◌, ◌≤◌, ℕ, List, [], ◌∷◌, length, map, get_or, nat_lt, if◌then◌else◌, Contains, Option, Some, None}
use Rattle.std.specs.List.Sorted.{IsStrictlyIncreasing}
use Rattle.vx_layout.specs.LogForms.{AfterImage}

-- the sectors of a batch
abbrev pub sectors_of : List AfterImage → List ℕ
sectors_of batch = map (λ e. e.0) batch

-- what each batch is
pub record IsBatch (batch : List AfterImage) : Type 0 where
  pub rising : IsStrictlyIncreasing (sectors_of batch)
  pub short : length batch ≤ 400

-- the batch has the sector, or room for one more
abbrev pub HasRoom : List AfterImage → ℕ → Type 0
HasRoom batch s = Contains (sectors_of batch) s ⊎ (length batch < 400)

-- the batch with this after-image of the sector
abbrev pub batch_set : List AfterImage → ℕ → List ℕ → List AfterImage
batch_set [] s image = (s, image) ∷ []
batch_set (e ∷ es) s image = if nat_lt e.0 s then e ∷ batch_set es s image else (if e.0 == s then (s, image) ∷ es else (s, image) ∷ e ∷ es)

-- the sectors before this place are below s, and those from it on are not
pub record IsPlaceOf (batch : List AfterImage) (s i : ℕ) : Type 0 where
  pub bound : i ≤ length batch
  pub below : (k : ℕ) → k < i → get_or (sectors_of batch) k 0 < s
  pub above : (k : ℕ) → i ≤ k → k < length batch → s ≤ get_or (sectors_of batch) k 0

-- the sector stands there
pub record StandsAt (batch : List AfterImage) (s i : ℕ) : Type 0 where
  pub place : IsPlaceOf batch s i
  pub within : i < length batch
  pub same : get_or (sectors_of batch) i 0 ≡ s

-- the sector stands nowhere, and this would be its place
pub record LacksAt (batch : List AfterImage) (s i : ℕ) : Type 0 where
  pub place : IsPlaceOf batch s i
  pub other : i < length batch → get_or (sectors_of batch) i 0 ≢ s
  pub lacks : Contains (sectors_of batch) s → ⊥

-- the list with the after-images of a batch too
abbrev pub with_notes : List AfterImage → List AfterImage → List AfterImage
with_notes homes [] = homes
with_notes homes (e ∷ batch) = with_notes (batch_set homes e.0 e.1) batch

-- what the list says of the sector
abbrev pub noted_at : List AfterImage → ℕ → Option (List ℕ)
noted_at [] s = None
noted_at (e ∷ es) s = if e.0 == s then Some e.1 else noted_at es s
