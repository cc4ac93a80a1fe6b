-- Pages that go, and pages that come to hold data.
use Rattle.std.specs.Prelude.{◌≡◌, ◌≤◌, ◌<◌, ℕ, zero, suc, ◌+◌, ◌-◌, Bool, true, false, not, ◌&&◌, ◌==◌, nat_le, nat_lt, if◌then◌else◌, List, [], ◌∷◌, ◌++◌, filter, Option, Some, None}
use Rattle.std.specs.List.{list_any}
use Rattle.vx_base.specs.declared.kind.Kind.{Kind}
use Rattle.vx_base.specs.declared.kind.Kind.TheVariants.{Data, Reserved}
use Rattle.vx_extents.specs.declared.stretch.Stretch.{Stretch}
use Rattle.vx_extents.specs.Extents.{Mapped, mapped_at, with_page}

-- the page of this number holds data
abbrev pub used_pages : ℕ → List Mapped → List Mapped
used_pages p [] = []
used_pages p (m ∷ pages) = if m.page == p then record m { kind = Data } ∷ pages else m ∷ used_pages p pages

-- all pages but this one
abbrev pub pages_without : ℕ → List Mapped → List Mapped
pages_without p pages = filter (λ (m : Mapped). not (m.page == p)) pages

-- the pages with so many further ones, in consecutive blocks
abbrev pub with_pages : ℕ → ℕ → ℕ → Kind → List Mapped → List Mapped
with_pages zero p b kind pages = pages
with_pages (suc n) p b kind pages = with_pages n (p + 1) (b + 1) kind (with_page (record { page = p; block = b; kind = kind }) pages)

-- none of so many pages from one on has a block
abbrev pub AreAbsent : ℕ → ℕ → List Mapped → Type 0
AreAbsent p n pages = (q : ℕ) → p ≤ q → q < p + n → mapped_at pages q ≡ None

-- one of the numbers from one on and below another
abbrev pub is_between : ℕ → ℕ → ℕ → Bool
is_between from to p = nat_le from p && nat_lt p to

-- one of these pages has a block
abbrev pub has_between : ℕ → ℕ → List Mapped → Bool
has_between from to pages = list_any (λ (m : Mapped). is_between from to m.page) pages

abbrev pub is_data_kind : Kind → Bool
is_data_kind Data = true
is_data_kind Reserved = false

-- the pages that hold data
abbrev pub data_pages : List Mapped → List Mapped
data_pages pages = filter (λ (m : Mapped). is_data_kind m.kind) pages

-- ---- as they are stored

-- what is left of an extent before one of its pages, so many from its start, and after it
abbrev pub part_before : ℕ → Stretch → List Stretch
part_before zero e = []
part_before (suc k) e = record e { more = k } ∷ []

abbrev pub piece_after : ℕ → Stretch → Stretch
piece_after k e = record { page = e.page + k + 1; start = e.start + k + 1; more = e.more - k - 1; kind = e.kind }

abbrev pub part_after : ℕ → Stretch → List Stretch
part_after k e = if nat_lt k e.more then piece_after k e ∷ [] else []

-- the extents without a page of the one at a place
abbrev pub removed_at : ℕ → ℕ → List Stretch → List Stretch
removed_at n k [] = []
removed_at zero k (e ∷ extents) = part_before k e ++ (part_after k e ++ extents)
removed_at (suc n) k (e ∷ extents) = e ∷ removed_at n k extents

-- the extent at a place has only so many pages, and goes where it has none
abbrev pub left_before : ℕ → ℕ → List Stretch → List Stretch
left_before n k [] = []
left_before zero k (e ∷ extents) = part_before k e ++ extents
left_before (suc n) k (e ∷ extents) = e ∷ left_before n k extents

-- the page of an extent, if it has it
abbrev pub page_in : ℕ → Stretch → Option (ℕ × Kind)
page_in p e = if nat_le (p - e.page) e.more then Some (e.start + (p - e.page), e.kind) else None

-- the page in the last of so many extents, all of which begin at it or before it
abbrev pub look_at : ℕ → ℕ → List Stretch → Option (ℕ × Kind)
look_at p n [] = None
look_at p zero (e ∷ extents) = None
look_at p (suc zero) (e ∷ extents) = page_in p e
look_at p (suc (suc n)) (e ∷ extents) = look_at p (suc n) extents
