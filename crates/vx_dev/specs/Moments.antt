-- Facts of a device that may tell nothing, and of every moment at which a crash may come.
use Rattle.std.specs.Prelude.{◌≡◌, ◌<◌, ◌≤◌, ℕ, List, length, option_map, IfSome, Contains, get_or}
use Rattle.vx_dev.specs.declared.device.Operation.{Operation}
use Rattle.vx_dev.specs.Tape.{State, Tape, upto, MayHold, IsImage}
use Rattle.vx_dev.specs.Runs.{did_all}

-- where the device tells its tape, it is so
abbrev pub Told : State → (Tape → Type 0) → Type 0
Told d P = IfSome d.told P

-- each image that a crash may leave now is so
abbrev pub Shows : ((ℕ → List ℕ) → Type 0) → Tape → Type 0
Shows Q t = (image : ℕ → List ℕ) → IsImage t image → Q image

-- so is each image at each moment from the first on and before this one
abbrev pub Past : ℕ → (ℕ → (ℕ → List ℕ) → Type 0) → Tape → Type 0
Past first P t = (m : ℕ) → first ≤ m → m < length t.ops → (image : ℕ → List ℕ) → IsImage (upto m t) image → P m image

-- so is each image at each moment from the first on, this one too
abbrev pub Always : ℕ → (ℕ → (ℕ → List ℕ) → Type 0) → Tape → Type 0
Always first P t = (m : ℕ) → first ≤ m → m ≤ length t.ops → (image : ℕ → List ℕ) → IsImage (upto m t) image → P m image

-- From the one state of the device to the other some operations were done, and each image at each moment from the one to the other is so.
pub record Passed (Q : (ℕ → List ℕ) → Type 0) (old new : State) : Type 0 where
  pub ops : List Operation
  pub told : new.told ≡ option_map (did_all ops) old.told
  pub always : IfSome old.told (λ t. Always (length t.ops) (λ _ image. Q image) (did_all ops t))

-- a crash leaves one of these values in the sector
abbrev pub HoldsOneOf : ℕ → List (List ℕ) → Tape → Type 0
HoldsOneOf s values t = (x : List ℕ) → MayHold t s x → Contains values x

-- what these writes put into the sector is one of the values
abbrev pub AreAmong : ℕ → List (List ℕ) → List (ℕ × List ℕ) → Type 0
AreAmong s values writes = (k : ℕ) (d : ℕ × List ℕ) → k < length writes → (get_or writes k d).0 ≡ s → Contains values (get_or writes k d).1
