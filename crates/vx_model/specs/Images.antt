-- What the metadata sectors of a volume hold. What an image says determines each of them by one function (docs/LAYOUT.md).
use Rattle.std.specs.Prelude.{◌≡◌, ℕ, Bool, false, ◌||◌, ◌==◌, List, [], ◌∷◌, Option, Some, is_some, IsTrue, IfSome}
use Rattle.std.specs.Option.{unwrap_or}
use Rattle.std.specs.List.{AllByRecursion}
use Rattle.vx_layout.specs.Places.{Volume, place_of}
use Rattle.vx_layout.specs.LogForms.{AfterImage, overlay, LogState}
pub use Rattle.vx_sound.specs.Said.{among}
pub use Rattle.vx_sound.specs.Reading.{Parsed, Stands, content}

abbrev pub content_at : Volume → Parsed → ℕ → Option (List ℕ)
content_at v p s = content v p (place_of v s)

-- which sectors hold metadata, and what they hold
abbrev pub is_metadata : Volume → Parsed → ℕ → Bool
is_metadata v p s = is_some (content_at v p s)

abbrev pub contents : Volume → Parsed → ℕ → List ℕ
contents v p s = unwrap_or (content_at v p s) []

-- the log stands for what is said, and may stand for other sectors too
pub record Says (v : Volume) (p : Parsed) (r : LogState) : Type 0 where
  pub sectors : (s : ℕ) → IsTrue (is_metadata v p s) → IsTrue (r.is_metadata s)
  pub bytes : (s : ℕ) → IsTrue (is_metadata v p s) → r.contents s ≡ contents v p s

-- ---- a batch of after-images

abbrev pub sectors_in : List AfterImage → ℕ → Bool
sectors_in [] s = false
sectors_in (e ∷ es) s = e.0 == s || sectors_in es s

-- the sector holds what it held before, or no metadata
abbrev pub IsSame : Volume → Parsed → Parsed → ℕ → Type 0
IsSame v old new s = IfSome (content_at v new s) (λ bytes. content_at v old s ≡ Some bytes)

-- Each after-image is right for what is said now, and all that has changed has one. A sector may stand there twice, since what is right is one.
pub record IsBatch (v : Volume) (old new : Parsed) (batch : List AfterImage) : Type 0 where
  pub right : AllByRecursion (λ e. content_at v new e.0 ≡ Some e.1) batch
  pub whole : (s : ℕ) → sectors_in batch s ≡ false → IsSame v old new s

-- the image with the batch laid over it
abbrev pub overlaid : List AfterImage → (ℕ → List ℕ) → ℕ → List ℕ
overlaid batch image s = overlay batch s (image s)
