-- A file's maps in memory, for the model.
use Rattle.std.specs.Prelude.{◌≡◌, ◌≤◌, ◌+◌, ℕ, Bool, true, false, List, [], ◌∷◌, Option, None, take, length, Err}
use Rattle.vx_layout.specs.Places.{Volume}
use Rattle.vx_alloc.specs.FreeMaps.{FreeMapView, is_free, place_of, with_bit, free_blocks}
use Rattle.vx_extents.specs.Extents.{Mapped, ExtentMapView, extent_count}
use Rattle.vx_space.specs.Outcome.{Maybe}
use Rattle.std.specs.Option.{option_map}
use Rattle.vx_space.specs.Placement.{longest_run}
use Rattle.vx_space.specs.Space.{Space}
use Rattle.vx_space.specs.Placing.{Filling, Request, with_map, missing_in}
use Rattle.vx_filemaps.specs.Files.{FileView}
use Rattle.vx_filemaps.specs.declared.place.PlaceRefusal.{PlaceRefusal}
use Rattle.vx_filemaps.specs.declared.place.PlaceRefusal.TheVariants as place

abbrev pub volume_in : FreeMapView → Volume
volume_in free = record { block = 1024; first = free.first; units = free.units }

-- the free blocks, with a file's pages and map blocks
abbrev pub filling_in : FreeMapView → List Mapped → List ℕ → Filling
filling_in free pages maps = record { free = is_free free; pages = pages; maps = maps }

-- the same for a file
abbrev pub filling_of : FreeMapView → FileView → Filling
filling_of free m = filling_in free m.space.present m.maps

-- a request for this map of free blocks, of a file without a fixed extent size
pub record IsFor (r : Request) (free : FreeMapView) (first : ℕ) : Type 0 where
  pub volume : r.volume ≡ volume_in free
  pub plain : r.attrs.fixed ≡ 0
  pub begins : r.first ≡ first

-- a free block waits for nothing
pub record IsReady (free : FreeMapView) : Type 0 where
  pub per_unit : free.per_unit ≤ 4095
  pub apart : (b : ℕ) → is_free free b ≡ true → place_of free b ≡ None

-- these blocks were taken one after the other
abbrev pub IsTaken : FreeMapView → List ℕ → FreeMapView → Type 0
IsTaken base [] free = free ≡ base
IsTaken base (b ∷ taken) free = (is_free base b ≡ true) × IsTaken (with_bit base b false) taken free

-- blocks were taken of the set of free ones, and nothing else has changed
pub record HasTaken (old new : FreeMapView) : Type 0 where
  pub rest : new ≡ record old { free = new.free }
  pub bits : length new.free ≡ length old.free

-- pages were placed: at most so many extents more
pub record IsPast (n : ℕ) (old new : ExtentMapView) : Type 0 where
  pub limit : new.limit ≡ old.limit
  pub page_limit : new.page_limit ≡ old.page_limit
  pub count : extent_count new.pages ≤ extent_count old.pages + n
  pub reserved : old.reserved ≤ new.reserved + n

-- a map block more, at the start of the longest run
abbrev pub place_map : Volume → Filling → Option Filling
place_map v f = option_map (with_map f) (longest_run v f.free)

-- the one list is the beginning of the other
abbrev pub Begins : List ℕ → List ℕ → Type 0
Begins xs ys = take (length xs) ys ≡ xs

-- what a refusal of a write of these pages says
pub record IsRequest (r : Request) (pages : List Mapped) (free : FreeMapView) (first from n : ℕ) : Type 0 where
  pub is_for : IsFor r free first
  pub need : r.need ≡ missing_in pages from n
  pub count : r.free ≡ free_blocks free

-- refused, unless memory is short
abbrev pub IsRefusal : Maybe Filling → PlaceRefusal → Type 0
IsRefusal placed (place.Refused why) = placed ≡ Err why
IsRefusal placed place.NoMemory = Unit {0}

-- the present pages of a file, and what a call works on
pub record HasRoom (present pages : ExtentMapView) (taken : List ℕ) : Type 0 where
  pub page_limit : present.page_limit ≡ 65536
  pub same_page_limit : pages.page_limit ≡ 65536
  pub limit : present.limit ≡ pages.limit
  pub room : 4168 ≤ pages.limit
  pub few : extent_count present.pages ≤ 4038
  pub none_taken : taken ≡ []

-- a file in memory, and the map of free blocks, have this space and these map blocks, and these blocks are free
pub record IsFileIn (v : Volume) (free : ℕ → Bool) (x : Space) (maps : List ℕ) (m : FileView) (view : FreeMapView) : Type 0 where
  pub space : m.space ≡ x
  pub same_maps : m.maps ≡ maps
  pub same_free : (b : ℕ) → is_free view b ≡ free b
  pub same_volume : volume_in view ≡ v
