-- A device with after-images laid over it, as a reader of sectors.
use Rattle.std.specs.Prelude.{◌≡◌, ℕ, List, [], ◌∷◌, Option, Some, None}
use Rattle.vx_dev.specs.Tape.{State, Tape, now}
use Rattle.vx_layout.specs.LogForms.{AfterImage, overlay}
use Rattle.vx_sound.specs.Said.{Image}
use Rattle.vx_check.specs.Parts.{Seen, View}

-- the image that a device shows with these after-images laid over it: one that tells what it has done, with no write of it in doubt
abbrev pub image_shown : Option Tape → List ℕ → List AfterImage → Option Image
image_shown None doubt homes = None
image_shown (Some t) [] homes = Some (λ s. overlay homes s (now t s))
image_shown (Some t) (x ∷ xs) homes = None

-- all sectors of an image
abbrev pub all_of : Option Image → Option Seen
all_of None = None
all_of (Some image) = Some (λ s. Some (image s))

-- of the image that is shown, where there is one
abbrev pub Shown : State → List AfterImage → (Image → Type 0) → Type 0
Shown d homes P = (image : Image) → image_shown d.told d.doubt homes ≡ Some image → P image

-- by which reference the device is held, the device, and what is laid over it
abbrev pub overlaid_by : ℕ → State → List AfterImage → View
overlaid_by name d homes = record {
  shown = image_shown d.told d.doubt homes;
  seen = all_of (image_shown d.told d.doubt homes);
  size = d.size;
  faults = d.read_faults;
  deeds = record { told = d.told; count = d.count; doubt = d.doubt; write_faults = d.write_faults };
  reference = name;
}

abbrev pub overlaid : State → List AfterImage → View
overlaid = overlaid_by 0
