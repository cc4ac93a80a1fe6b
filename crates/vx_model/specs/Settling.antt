-- What is held of a file becomes settled: its pages, its map blocks and its size.
use Rattle.std.specs.Prelude.{◌≡◌, ℕ, length, Ok, Err}
use Rattle.vx_space.specs.Space.{maps_needed, Space}
use Rattle.vx_space.specs.Leaving.{lasting, settled_space, kept_maps, surplus_maps}
use Rattle.vx_model.specs.Outcome.{Maybe}
use Rattle.vx_model.specs.Tree.{File}
use Rattle.vx_model.specs.Layout.{Layout, space_at, maps_at}
use Rattle.vx_model.specs.State.{State, is_unreserved}
use Rattle.vx_model.specs.Walks.{file_at}
use Rattle.vx_model.specs.Opened.{left_with}

-- the space that the device says then; a reserved page of a file that keeps no reservation stays held
abbrev pub space_settled : Layout → ℕ → File → Space
space_settled l ino f = settled_space (is_unreserved f) (length f.bytes) (space_at l ino)

-- map blocks past what the file needs go, and wait
abbrev pub settled_layout : Layout → (place ino : ℕ) → File → Layout
settled_layout l place ino f =
    left_with l place ino (space_settled l ino f) (kept_maps (space_settled l ino f) (maps_at l ino)) (surplus_maps (space_settled l ino f) (maps_at l ino))

abbrev pub settle_file : State → (place ino : ℕ) → Maybe File → State
settle_file s place ino (Ok f) = record s { layout = settled_layout s.layout place ino f }
settle_file s place ino (Err why) = s

-- the state after the settle of an inode, the event at this place
abbrev pub settle : State → (place ino : ℕ) → State
settle s place ino = settle_file s place ino (file_at s.tree.nodes ino)

-- the event may come where the inode is a file of this size
abbrev pub IsSizeOf : ℕ → Maybe File → Type 0
IsSizeOf size (Ok f) = size ≡ length f.bytes
IsSizeOf size (Err why) = ⊥

-- nothing of a file is held but reserved pages of one that keeps no reservation, and map blocks for them
pub record HoldsNone (l : Layout) (n : ℕ) (f : File) : Type 0 where
  pub pages : lasting (is_unreserved f) (space_at l n).present ≡ (space_at l n).settled
  pub maps : length (maps_at l n) ≡ maps_needed (space_at l n)

-- so it is of every file
abbrev pub HasNoneHeld : State → Type 0
HasNoneHeld s = (n : ℕ) (f : File) → file_at s.tree.nodes n ≡ Ok f → HoldsNone s.layout n f
