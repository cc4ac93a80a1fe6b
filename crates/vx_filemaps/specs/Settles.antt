-- Blocks that a file gives up.
use Rattle.std.specs.Prelude.{◌≡◌, ℕ, zero, suc, ◌+◌, if◌then◌else◌, Bool, true, List, [], ◌∷◌, Option, Some, None}
use Rattle.vx_base.specs.declared.kind.Kind.{Kind}
use Rattle.vx_alloc.specs.FreeMaps.{FreeMapView, is_used, with_bit, with_place}
use Rattle.vx_extents.specs.Extents.{Mapped, mapped_at}
use Rattle.vx_space.specs.Leaving.{is_reserved, settled_space, kept_maps, surplus_maps}
use Rattle.vx_filemaps.specs.Files.{FileView}

-- these blocks wait, and each was used when its turn came
abbrev pub pended : ℕ → List ℕ → FreeMapView → FreeMapView
pended place [] v = v
pended place (b ∷ blocks) v = pended place blocks (with_place v b place)

abbrev pub CanWait : ℕ → List ℕ → FreeMapView → Type 0
CanWait place [] v = Unit {0}
CanWait place (b ∷ blocks) v = (is_used v b ≡ true) × CanWait place blocks (with_place v b place)

-- a page goes: a block that the device says waits, and a held one is free
abbrev pub without_page : ℕ → Option (ℕ × Kind) → Option (ℕ × Kind) → FreeMapView → FreeMapView
without_page place (Some m) present v = with_place v m.0 place
without_page place None (Some m) v = with_bit v m.0 true
without_page place None None v = v

abbrev pub IsUsedPage : Option (ℕ × Kind) → Option (ℕ × Kind) → FreeMapView → Type 0
IsUsedPage (Some m) present v = is_used v m.0 ≡ true
IsUsedPage None (Some m) v = is_used v m.0 ≡ true
IsUsedPage None None v = Unit {0}

-- So many pages from one on go. What the device says of each, and what it is now, is given by functions.
abbrev pub without_pages : ℕ → (ℕ → Option (ℕ × Kind)) → (ℕ → Option (ℕ × Kind)) → ℕ → ℕ → FreeMapView → FreeMapView
without_pages place settled present zero p v = v
without_pages place settled present (suc n) p v = without_pages place settled present n (p + 1) (without_page place (settled p) (present p) v)

abbrev pub CanGo : ℕ → (ℕ → Option (ℕ × Kind)) → (ℕ → Option (ℕ × Kind)) → ℕ → ℕ → FreeMapView → Type 0
CanGo place settled present zero p v = Unit {0}
CanGo place settled present (suc n) p v = IsUsedPage (settled p) (present p) v × CanGo place settled present n (p + 1) (without_page place (settled p) (present p) v)

-- no page, and the page where it is reserved
abbrev pub none_at : ℕ → Option (ℕ × Kind)
none_at p = None

abbrev pub if_reserved : Option (ℕ × Kind) → Option (ℕ × Kind)
if_reserved None = None
if_reserved (Some m) = if is_reserved m.1 then Some m else None

abbrev pub reserved_at : List Mapped → ℕ → Option (ℕ × Kind)
reserved_at pages p = if_reserved (mapped_at pages p)

-- ---- a file after it

-- the device says the pages and the size as they are now, and map blocks that are not needed then go
abbrev pub settled_file : Bool → ℕ → FileView → FileView
settled_file noreserve size m = record { space = settled_space noreserve size m.space; maps = kept_maps (settled_space noreserve size m.space) m.maps }

-- the map blocks that go
abbrev pub surplus_in : Bool → ℕ → FileView → List ℕ
surplus_in noreserve size m = surplus_maps (settled_space noreserve size m.space) m.maps
