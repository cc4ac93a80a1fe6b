-- Images of a state whose log names no sector of a file.
use Rattle.std.specs.Prelude.{◌≡◌, ℕ, List, Some, false}
use Rattle.std.specs.List.{AllByRecursion}
use Rattle.vx_dev.specs.Tape.{IsSector}
use Rattle.vx_layout.specs.LogForms.{AfterImage}
use Rattle.vx_model.specs.Images.{sectors_in}
use Rattle.vx_model.specs.State.{State}
use Rattle.vx_bytes.specs.Places.{place_of}

-- At each sector that the device says of a file stand the bytes of a sector, and none of these records of the log names it: so the bytes
-- of files are those of the image, also with the records laid over it.
pub record IsClearOfFiles (s : State) (records : List (List AfterImage)) (image : ℕ → List ℕ) : Type 0 where
  pub whole : (n p u : ℕ) → (place_of s n).sectors p ≡ Some u → IsSector (image u)
  pub unnamed : (n p u : ℕ) → (place_of s n).sectors p ≡ Some u → AllByRecursion (λ r. sectors_in r u ≡ false) records
