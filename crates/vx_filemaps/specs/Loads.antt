-- A file whose extents are read from the device, one after the other.
use Rattle.std.specs.Prelude.{◌≤◌, ◌<◌, ◌+◌, ◌^◌, ◌++◌, ℕ, List}
use Rattle.std.specs.List.{AllByRecursion}
use Rattle.vx_base.specs.declared.inode.Extent.{Extent}
use Rattle.vx_extents.specs.Extents.{Mapped, extent_count, run}
use Rattle.vx_filemaps.specs.Files.{FileView}

-- the page stands below this one
abbrev pub IsBelow : ℕ → Mapped → Type 0
IsBelow p m = m.page < p

-- the extent stands behind these pages, and there is room for it
pub record IsNext (pages : List Mapped) (e : Extent) : Type 0 where
  pub some : 1 ≤ e.len
  pub within : e.page + e.len ≤ 65536
  pub blocks : e.start + e.len ≤ 2 ^ 32
  pub behind : AllByRecursion (IsBelow e.page) pages
  pub few : extent_count pages < 4038

abbrev pub extent_pages : Extent → List Mapped
extent_pages e = run e.len e.page e.start e.kind

-- the file with its pages behind the others
abbrev pub with_extent : FileView → Extent → FileView
with_extent m e = record m { space = record m.space { present = m.space.present ++ extent_pages e } }
