-- The maps in memory that stand for a layout.
use Rattle.std.specs.Prelude.{◌≡◌, ◌*◌, ◌+◌, ℕ, nat_le, length, None, Ok}
use Rattle.vx_alloc.specs.FreeMaps as alloc
use Rattle.vx_alloc.specs.FreeMaps.{FreeMapView, place_of}
use Rattle.vx_filemaps.specs.Files.{FileView}
use Rattle.vx_space.specs.Leaving.{cut_space, waiting_then}
use Rattle.vx_space.specs.Placing.{Filling}
use Rattle.vx_model.specs.Tree.{File}
use Rattle.vx_model.specs.Layout.{Layout, space_at, maps_at, is_free}
use Rattle.vx_model.specs.State.{State}
use Rattle.vx_model.specs.Walks.{file_at}
use Rattle.vx_model.specs.LaidOut.{IsLaidOut}
use Rattle.vx_model.specs.Opened.{left_with}
use Rattle.vx_model.specs.Bytes.{write_filling, filled}

-- the map of free blocks has the blocks that are free in the layout, and those that wait
pub record IsFreeMapOf (v : FreeMapView) (l : Layout) : Type 0 where
  pub free : (b : ℕ) → alloc.is_free v b ≡ is_free l b
  pub pending : (b : ℕ) → place_of v b ≡ l.pending b
  pub units : v.units ≡ l.units
  pub first : v.first ≡ 2 + l.log_blocks
  pub per_unit : v.per_unit ≡ 4063
  pub bar : v.bar ≡ None
  pub bits : length v.free ≡ 4096 * v.units
  pub places : length v.pending ≡ 4096 * v.units

-- a file's maps in memory are those of inode n in the layout
pub record IsMapsOf (m : FileView) (l : Layout) (n : ℕ) : Type 0 where
  pub space : m.space ≡ space_at l n
  pub maps : m.maps ≡ maps_at l n

-- the pages of inode n from one on go, and the size on the device is no larger than this one
abbrev pub layout_cut : Layout → (place n from size : ℕ) → Layout
layout_cut l place n from size = left_with l place n (cut_space from size (space_at l n)) (maps_at l n) (waiting_then (nat_le from) (space_at l n))

-- both stand for a file of a state that can be laid out
pub record StandFor (v : FreeMapView) (m : FileView) (s : State) (ino : ℕ) (f : File) : Type 0 where
  pub laid_out : IsLaidOut s
  pub there : file_at s.tree.nodes ino ≡ Ok f
  pub free : IsFreeMapOf v s.layout
  pub maps : IsMapsOf m s.layout ino

-- there is such a state
pub record HasState (v : FreeMapView) (m : FileView) : Type 0 where
  pub state : State
  pub ino : ℕ
  pub file : File
  pub stands : StandFor v m state ino file

-- a write of so many pages got these blocks, and the maps stand for the layout with them
pub record HasFilling (l : Layout) (first ino : ℕ) (f : File) (from n : ℕ) (v : FreeMapView) (m : FileView) : Type 0 where
  pub filling : Filling
  pub placed : write_filling l first ino f from n ≡ Ok filling
  pub free : IsFreeMapOf v (filled l ino filling)
  pub maps : IsMapsOf m (filled l ino filling) ino
