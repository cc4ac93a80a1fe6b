-- What is said of a file's blocks by laws.
use Rattle.std.specs.Prelude.{◌≡◌, ◌⊎◌, ◌≤◌, ◌+◌, ◌<◌, ℕ, Bool, true, false, nat_le, List, [], ◌∷◌, length, Some, None, Ok}
use Rattle.vx_base.specs.declared.call.ExtAttrs.{ExtAttrs}
use Rattle.vx_base.specs.declared.kind.Kind.{Kind}
use Rattle.vx_base.specs.declared.kind.Kind.TheVariants.{Data, Reserved}
use Rattle.vx_extents.specs.Extents.{Mapped, mapped_at}
use Rattle.vx_extents.specs.Uses.{data_pages}
use Rattle.vx_space.specs.Space.{Space, extents_in, maps_needed, most_extents, most_pages}
use Rattle.vx_space.specs.Placing.{Filling, Request, place_fill, pages_needed, missing_in}
use Rattle.vx_space.specs.Leaving.{is_reserved, is_reserved_page, reserved_from, settled_space, pages_but, space_but, waiting_then}
use Rattle.vx_space.specs.Uses.{uses, IsGrown}

-- a page on the device is the same page now, in the same block; only a reserved one may hold data since
pub record IsSamePage (was is : Mapped) : Type 0 where
  pub page : was.page ≡ is.page
  pub block : was.block ≡ is.block
  pub kind : (was.kind ≡ is.kind) ⊎ (was.kind ≡ Reserved)

-- the first list is the second with pages left out
abbrev pub IsPart : List Mapped → List Mapped → Type 0
IsPart [] pages = Unit {0}
IsPart (m ∷ ms) [] = ⊥
IsPart (m ∷ ms) (n ∷ ns) = (IsSamePage m n × IsPart ms ns) ⊎ IsPart (m ∷ ms) ns

-- the chain that was filled has room for both lists
pub record HasMaps (x : Space) (maps : List ℕ) : Type 0 where
  pub extents : extents_in x ≤ most_extents
  pub chain : maps_needed x ≤ length maps

-- what a write makes of a file's pages: those of the range hold data, each in the block that it had, and all others are as they were
pub record IsWritten (from n : ℕ) (old new : List Mapped) : Type 0 where
  pub holds : (p : ℕ) → from ≤ p → p < from + n → (b : ℕ) × (mapped_at new p ≡ Some (b, Data))
  pub keeps : (p b : ℕ) (kind : Kind) → from ≤ p → p < from + n → mapped_at old p ≡ Some (b, kind) → mapped_at new p ≡ Some (b, Data)
  pub below : (p : ℕ) → p < from → mapped_at new p ≡ mapped_at old p
  pub past : (p : ℕ) → from + n ≤ p → mapped_at new p ≡ mapped_at old p

pub record PlaceLaws : Type 0 where
  -- a write takes free blocks alone, and each for one purpose
  pub grows : (r : Request) (x : Space) (from n : ℕ) (f g : Filling) → 1 ≤ r.first → place_fill r x from n f ≡ Ok g → IsGrown f g
  pub maps : (r : Request) (x : Space) (from n : ℕ) (f g : Filling) → place_fill r x from n f ≡ Ok g → HasMaps (record x { present = g.pages }) g.maps
  -- without a fixed extent size a write gives the pages of its range blocks and changes no other
  pub writes : (r : Request) (x : Space) (from n : ℕ) (f g : Filling) → r.attrs.fixed ≡ 0 → place_fill r x from n f ≡ Ok g → IsWritten from n f.pages g.pages
  -- and needs a block for each of them that has none
  pub needs : (attrs : ExtAttrs) (pages : List Mapped) (from n : ℕ) → attrs.fixed ≡ 0 → from + n ≤ most_pages → pages_needed attrs pages from n ≡ missing_in pages from n

-- the pages rise in number, from one on, and are no more than a file may have
abbrev pub AreRising : ℕ → List Mapped → Type 0
AreRising from [] = Unit {0}
AreRising from (m ∷ pages) = (from ≤ m.page) × (m.page < most_pages) × AreRising (m.page + 1) pages

-- a page of the list that passes the test, and has this block
pub record HasPage (test : ℕ → Bool) (pages : List Mapped) (b : ℕ) : Type 0 where
  pub page : ℕ
  pub kind : Kind
  pub passes : test page ≡ true
  pub there : mapped_at pages page ≡ Some (b, kind)

-- which blocks wait when pages go: those of the settled pages that go
pub record LeaveLaws : Type 0 where
  pub listed : (goes : ℕ → Bool) (x : Space) (p b : ℕ) (kind : Kind) → goes p ≡ true → mapped_at x.settled p ≡ Some (b, kind) → 1 ≤ uses (waiting_then goes x) b
  pub only : (goes : ℕ → Bool) (x : Space) (b : ℕ) → AreRising 0 x.settled → 1 ≤ uses (waiting_then goes x) b → HasPage goes x.settled b
  pub stays : (goes : ℕ → Bool) (pages : List Mapped) (p : ℕ) → goes p ≡ false → mapped_at (pages_but goes pages) p ≡ mapped_at pages p
  pub goes : (goes : ℕ → Bool) (pages : List Mapped) (p : ℕ) → goes p ≡ true → mapped_at (pages_but goes pages) p ≡ None

-- What a close gives up are reserved pages, by their kind as it is now.
pub record CloseLaws : Type 0 where
  -- where all of them are held, the settled pages stay, and the present ones are those that hold data
  pub settled : (goes : ℕ → Bool) (pages : List Mapped) → ((p : ℕ) (m : ℕ × Kind) → mapped_at pages p ≡ Some m → goes p ≡ false) → pages_but goes pages ≡ pages
  pub present : (pages : List Mapped) → AreRising 0 pages → pages_but (is_reserved_page pages) pages ≡ data_pages pages
  -- where all pages from one on are reserved, they go as with a smaller size
  pub trimmed : (from : ℕ) (x : Space) → ((p : ℕ) (m : ℕ × Kind) → from ≤ p → mapped_at x.present p ≡ Some m → is_reserved m.1 ≡ true) → ((p : ℕ) (m : ℕ × Kind) → mapped_at x.settled p ≡ Some m → (n : ℕ × Kind) × (mapped_at x.present p ≡ Some n))
      → space_but (reserved_from from x.present) x ≡ space_but (nat_le from) x

pub record SettleLaws : Type 0 where
  pub part : (noreserve : Bool) (size : ℕ) (x : Space) → IsPart (settled_space noreserve size x).settled x.present
  -- a second settle changes nothing
  pub again : (noreserve : Bool) (size : ℕ) (x : Space) → settled_space noreserve size (settled_space noreserve size x) ≡ settled_space noreserve size x
