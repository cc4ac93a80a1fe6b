-- A file's maps as contracts see them, and what is kept of them.
use Rattle.std.specs.Prelude.{◌≡◌, ◌≤◌, ◌+◌, ℕ, List, []}
use Rattle.vx_extents.specs.Extents.{ExtentMapView, extent_count}
use Rattle.vx_space.specs.Space.{Space}

-- the pages that the file has, and its map blocks
pub record FileView : Type 0 where
  pub space : Space
  pub maps : List ℕ

-- how many extents there is room for while a call places pages: those of the largest file, and two for each of 65 pages
abbrev pub call_extents : ℕ
call_extents = 4168

-- what the two lists of pages keep: their limits, and memory for the next settle
pub record IsKept (settled present : ExtentMapView) : Type 0 where
  pub settled_pages : settled.page_limit ≡ 65536
  pub present_pages : present.page_limit ≡ 65536
  pub settled_limit : settled.limit ≡ call_extents
  pub present_limit : present.limit ≡ call_extents
  pub few : extent_count present.pages ≤ 4038
  pub memory : extent_count present.pages ≤ extent_count settled.pages + settled.reserved

-- what is kept of that on which a call works
pub record IsScratch (pages : ExtentMapView) (taken : List ℕ) : Type 0 where
  pub page_limit : pages.page_limit ≡ 65536
  pub limit : pages.limit ≡ call_extents
  pub none_taken : taken ≡ []
