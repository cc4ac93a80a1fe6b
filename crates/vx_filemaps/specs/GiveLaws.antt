-- What becomes of blocks that are given up, block by block.
use Rattle.std.specs.Prelude.{◌≡◌, ◌≤◌, ◌<◌, ◌+◌, ◌*◌, ℕ, true, List, length, Option, Some, None}
use Rattle.vx_base.specs.declared.kind.Kind.{Kind}
use Rattle.vx_alloc.specs.FreeMaps.{FreeMapView, is_used, is_in_set, place_of}
use Rattle.vx_space.specs.Uses.{uses}
use Rattle.vx_filemaps.specs.FileMaps.{IsReady}
use Rattle.vx_filemaps.specs.Settles.{pended, CanWait, IsUsedPage, without_pages, CanGo}

-- as many bits and places as the units have blocks, and the first block of a unit holds no data
pub record IsSized (v : FreeMapView) : Type 0 where
  pub per_unit : v.per_unit ≤ 4095
  pub bits : length v.free ≡ 4096 * v.units
  pub places : length v.pending ≡ 4096 * v.units

-- ---- a list of blocks

-- each of these blocks is used, and stands there once
pub record AreUsed (blocks : List ℕ) (v : FreeMapView) : Type 0 where
  pub used : (b : ℕ) → 1 ≤ uses blocks b → is_used v b ≡ true
  pub once : (b : ℕ) → uses blocks b ≤ 1

-- these blocks wait for a place, and all else is as it was
pub record AreWaiting (place : ℕ) (blocks : List ℕ) (old new : FreeMapView) : Type 0 where
  pub wait : (b : ℕ) → 1 ≤ uses blocks b → place_of new b ≡ Some place
  pub others : (b : ℕ) → uses blocks b ≡ 0 → place_of new b ≡ place_of old b
  pub rest : new ≡ record old { pending = new.pending }
  pub sized : IsSized new
  pub ready : IsReady old → IsReady new

-- ---- the pages of a range

-- the block that a page gives up, as the device says it and as it is now
abbrev pub block_gone : Option (ℕ × Kind) → Option (ℕ × Kind) → Option ℕ
block_gone (Some m) present = Some m.0
block_gone None (Some m) = Some m.0
block_gone None None = None

abbrev pub block_at : (ℕ → Option (ℕ × Kind)) → (ℕ → Option (ℕ × Kind)) → ℕ → Option ℕ
block_at settled present p = block_gone (settled p) (present p)

-- each page of the range that has a block has a used one, and no two have the same
pub record AreUsedPages (settled present : ℕ → Option (ℕ × Kind)) (from n : ℕ) (v : FreeMapView) : Type 0 where
  pub used : (p : ℕ) → from ≤ p → p < from + n → IsUsedPage (settled p) (present p) v
  pub apart : (p q b : ℕ) → from ≤ p → p < from + n → from ≤ q → q < from + n → block_at settled present p ≡ Some b → block_at settled present q ≡ Some b → p ≡ q

-- Of the pages of the range, those on the device have blocks that wait now, and the held ones have blocks in the set of free ones. All
-- else is as it was.
pub record AreGone (place : ℕ) (settled present : ℕ → Option (ℕ × Kind)) (from n : ℕ) (old new : FreeMapView) : Type 0 where
  pub waits : (p b : ℕ) (kind : Kind) → from ≤ p → p < from + n → settled p ≡ Some (b, kind) → place_of new b ≡ Some place
  pub frees : (p b : ℕ) (kind : Kind) → from ≤ p → p < from + n → settled p ≡ None → present p ≡ Some (b, kind) → is_in_set new b ≡ true
  pub others : (b : ℕ) → ((p : ℕ) → from ≤ p → p < from + n → block_at settled present p ≡ Some b → ⊥) → (place_of new b ≡ place_of old b) × (is_in_set new b ≡ is_in_set old b)
  pub rest : new ≡ record old { free = new.free; pending = new.pending }
  pub sized : IsSized new
  pub ready : IsReady old → IsReady new

-- ---- laws

pub record GiveLaws : Type 0 where
  pub can_wait : (place : ℕ) (blocks : List ℕ) (v : FreeMapView) → IsSized v → AreUsed blocks v → CanWait place blocks v
  pub wait : (place : ℕ) (blocks : List ℕ) (v : FreeMapView) → IsSized v → AreUsed blocks v → AreWaiting place blocks v (pended place blocks v)
  pub can_go : (place : ℕ) (settled present : ℕ → Option (ℕ × Kind)) (from n : ℕ) (v : FreeMapView) → IsSized v → AreUsedPages settled present from n v → CanGo place settled present n from v
  pub go : (place : ℕ) (settled present : ℕ → Option (ℕ × Kind)) (from n : ℕ) (v : FreeMapView) → IsSized v → AreUsedPages settled present from n v
      → AreGone place settled present from n v (without_pages place settled present n from v)
