-- What an image of a state reads and replays as: the state's tree with the sizes and pages that are settled.
use Rattle.std.specs.Prelude.{◌≡◌, ℕ, ◌==◌, List, Option, Some, None, if◌then◌else◌}
use Rattle.std.specs.Option.{option_and_then}
use Rattle.std.specs.FinMap as map
use Rattle.vx_dev.specs.Tape.{Tape, now}
use Rattle.vx_layout.specs.LogForms.{AfterImage, overlay_all}
use Rattle.vx_sound.specs.Said.{block_bytes}
use Rattle.vx_space.specs.Space.{Space}
use Rattle.vx_model.specs.Tree.{Node, IsFile, IsDirectory, Tree, tree_of_nodes}
use Rattle.vx_model.specs.Layout.{space_at, volume}
use Rattle.vx_model.specs.State.{State}
use Rattle.vx_model.specs.Shapes.{kept_attrs}
use Rattle.vx_model.specs.Reads.{bytes_of}
use Rattle.vx_model.specs.Replays.{IsLeft, ReplaysAs}

-- a file without a name is none
abbrev pub named : ℕ → Node → Option Node
named nlink node = if nlink == 0 then None else Some node

-- a node as the device has it, where data_at gives the bytes of each block: a file with its settled pages and size
abbrev pub settled_node : (ℕ → List ℕ) → Space → Node → Option Node
settled_node data_at x (IsFile f) = named f.nlink (IsFile (record f { attrs = kept_attrs f.attrs; bytes = bytes_of data_at x.settled x.size }))
settled_node data_at x (IsDirectory d) = Some (IsDirectory d)

-- the tree of the state as the device has it, without handles and ticks
pub record IsSettledTree (s : State) (data_at : ℕ → List ℕ) (t : Tree) : Type 0 where
  pub nodes : (n : ℕ) → map.get t.nodes n ≡ option_and_then (settled_node data_at (space_at s.layout n)) (map.get s.tree.nodes n)
  pub rest : t ≡ tree_of_nodes t.nodes

-- the image with the log's records laid over it
abbrev pub laid_over : List (List AfterImage) → (ℕ → List ℕ) → ℕ → List ℕ
laid_over records image s = overlay_all records s (image s)

-- The image replays as such a tree, with the bytes that stand in it once the log's records are laid over it.
pub record ReplaysSettled (s : State) (image : ℕ → List ℕ) : Type 0 where
  pub tree : Tree
  pub replays : ReplaysAs s.layout.device_sectors image tree
  pub settled : IsSettledTree s (block_bytes (volume s.layout) (laid_over replays.records image)) tree

-- A crash leaves one image, which is clean and reads as such a tree.
pub record IsLeftSettled (s : State) (t : Tape) : Type 0 where
  pub tree : Tree
  pub left : IsLeft s.layout.device_sectors tree t
  pub settled : IsSettledTree s (block_bytes (volume s.layout) (now t)) tree
