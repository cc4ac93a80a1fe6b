-- Where the bytes of a file stand, by its pages, and what an image has there.
use Rattle.std.specs.Prelude.{ℕ, ◌+◌, ◌/◌, ◌%◌, List, get_or, Option, Some, None}
use Rattle.vx_base.specs.declared.kind.Kind.{Kind}
use Rattle.vx_base.specs.declared.kind.Kind.TheVariants.{Data, Reserved}
use Rattle.vx_layout.specs.Places.{block_sector}
use Rattle.vx_extents.specs.Extents.{Mapped, mapped_at}
use Rattle.vx_model.specs.Layout.{space_at}
use Rattle.vx_model.specs.State.{State}
use Rattle.vx_bytes.specs.Standings.{OnDevice}

-- a sector of a page that has data; a reserved page and one without a block have none
abbrev pub half_of : Option (ℕ × Kind) → ℕ → Option ℕ
half_of None i = None
half_of (Some (b, Data)) i = Some (block_sector 2 b + i)
half_of (Some (b, Reserved)) i = None

-- the sector of each half page
unfoldable pub sectors_of : List Mapped → ℕ → Option ℕ
sectors_of pages p = half_of (mapped_at pages (p / 2)) (p % 2)

-- what the device says of a file
abbrev pub place_of : State → ℕ → OnDevice
place_of s n = record { sectors = sectors_of (space_at s.layout n).settled; size = (space_at s.layout n).size }

abbrev pub placed_in : State → ℕ → ℕ → Option ℕ
placed_in s n = sectors_of (space_at s.layout n).present

-- the byte of a half page in an image
abbrev pub byte_in : (ℕ → List ℕ) → Option ℕ → ℕ → ℕ
byte_in image None i = 0
byte_in image (Some s) i = get_or (image s) i 0
