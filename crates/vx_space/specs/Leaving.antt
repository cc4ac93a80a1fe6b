-- Pages that a file gives up, and pages that become settled (docs/FILES.md).
use Rattle.std.specs.Prelude.{ℕ, Bool, true, false, not, ◌&&◌, nat_le, min, List, filter, take, drop, Option, Some, None}
use Rattle.vx_base.specs.declared.kind.Kind.{Kind}
use Rattle.vx_base.specs.declared.kind.Kind.TheVariants.{Data, Reserved}
use Rattle.vx_extents.specs.Extents.{Mapped, mapped_at}
use Rattle.vx_space.specs.Space.{Space, page_blocks, maps_needed}

abbrev pub is_reserved : Kind → Bool
is_reserved Data = false
is_reserved Reserved = true

abbrev pub is_reserved_by : Option (ℕ × Kind) → Bool
is_reserved_by None = false
is_reserved_by (Some m) = is_reserved m.1

-- the page is reserved
abbrev pub is_reserved_page : List Mapped → ℕ → Bool
is_reserved_page pages p = is_reserved_by (mapped_at pages p)

-- the page is reserved, and none before one
abbrev pub reserved_from : ℕ → List Mapped → ℕ → Bool
reserved_from from pages p = is_reserved_page pages p && nat_le from p

-- ---- pages that go

-- all pages but those whose numbers pass the test
abbrev pub pages_but : (ℕ → Bool) → List Mapped → List Mapped
pages_but goes pages = filter (λ (m : Mapped). not (goes m.page)) pages

-- Pages go by their numbers, of both lists. A block that the device says waits, and a held one is free.
abbrev pub space_but : (ℕ → Bool) → Space → Space
space_but goes x = record x { settled = pages_but goes x.settled; present = pages_but goes x.present }

-- The pages from one on go, and the size on the device is no larger than this one.
abbrev pub cut_space : ℕ → ℕ → Space → Space
cut_space from size x = record (space_but (nat_le from) x) { size = min x.size size }

-- the blocks that wait then
abbrev pub waiting_then : (ℕ → Bool) → Space → List ℕ
waiting_then goes x = page_blocks (filter (λ (m : Mapped). goes m.page) x.settled)

-- ---- a settle

-- the page is written to the map on the device: of a file with noreserve none that is reserved
abbrev pub lasts : Bool → Mapped → Bool
lasts noreserve m = not (noreserve && is_reserved m.kind)

abbrev pub lasting : Bool → List Mapped → List Mapped
lasting noreserve pages = filter (lasts noreserve) pages

-- the device says the pages and the size as they are now
abbrev pub settled_space : Bool → ℕ → Space → Space
settled_space noreserve size x = record { settled = lasting noreserve x.present; present = x.present; size = size }

-- as many map blocks as are needed stay, and the others wait
abbrev pub kept_maps : Space → List ℕ → List ℕ
kept_maps x maps = take (maps_needed x) maps

abbrev pub surplus_maps : Space → List ℕ → List ℕ
surplus_maps x maps = drop (maps_needed x) maps
