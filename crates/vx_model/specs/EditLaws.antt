-- How the edits that calls are made of keep a state laid out, and what they touch.
use Rattle.std.specs.Prelude.{◌≡◌, ◌≢◌, ℕ, ◌*◌, ◌<◌, ◌≤◌, true, List, Some, None, Ok}
use Rattle.std.specs.List.{AllByRecursion}
use Rattle.std.specs.FinMap as map
use Rattle.vx_base.specs.Paths.{FileName, is_name}
use Rattle.vx_layout.specs.LogForms.{AfterImage}
use Rattle.vx_model.specs.Tree.{Node, File, Directory, IsFile, IsDirectory, new_directory}
use Rattle.vx_model.specs.Layout.{Layout, volume, blocks_at}
use Rattle.vx_model.specs.State.{State}
use Rattle.vx_model.specs.Walks.{root}
use Rattle.vx_model.specs.Edits.{add_name, remove_name, set_node, drop_node}
use Rattle.vx_model.specs.Naming.{with_mode}
use Rattle.vx_model.specs.Images.{content_at, IsBatch}
use Rattle.vx_model.specs.Contents.{parsed_of}
use Rattle.vx_model.specs.Legal.{with_released}
use Rattle.vx_model.specs.LaidOut.{HasNothing, IsFileOf, IsPlain, IsPlainFile, IsClosed, IsLaidOut}
use Rattle.vx_model.specs.Touching.{Touched, IsTouched, HasTouched, untouched, joined, inode_touched, entries_touched, name_touched, IsOnlyIn, drop_touched}

pub record EditLaws : Type 0 where
  -- ---- a name more, under a new name
  pub added : (s new : State) (at ino : ℕ) (name : FileName) (d : Directory) → IsLaidOut s → map.get s.tree.nodes at ≡ Some (IsDirectory d) → is_name name ≡ true → map.get d.entries name ≡ None
      → ino < 128 * s.layout.units → add_name s at name ino ≡ Ok new → IsLaidOut new
  pub added_touches : (s new : State) (at ino : ℕ) (name : FileName) → IsLaidOut s → add_name s at name ino ≡ Ok new → IsTouched s new (name_touched s new at (record { ino = ino; name = name }))
  -- ---- a name less
  pub removed : (s : State) (at : ℕ) (name : FileName) → IsLaidOut s → IsLaidOut (remove_name s at name)
  pub removed_touches : (s : State) (at i : ℕ) (name : FileName) → IsLaidOut s → IsOnlyIn name i (blocks_at s.layout at) → IsTouched s (remove_name s at name) (entries_touched at i)
  -- ---- an inode
  pub file_set : (s : State) (ino : ℕ) (f : File) → IsLaidOut s → IsFileOf s.layout ino f → ino ≢ root → 2 ≤ ino → ino < 128 * s.layout.units → IsLaidOut (set_node s ino (IsFile f))
  pub plain_file : (l : Layout) (ino : ℕ) (f : File) → f.mode ≤ 4095 → f.nlink ≤ 32767 → IsPlainFile f → HasNothing l ino → IsFileOf l ino f
  pub links_set : (l : Layout) (ino nlink : ℕ) (f : File) → IsFileOf l ino f → nlink ≤ 32767 → IsFileOf l ino (record f { nlink = nlink })
  pub directory_set : (s : State) (ino mode : ℕ) → IsLaidOut s → mode ≤ 4095 → 2 ≤ ino → ino < 128 * s.layout.units → map.get s.tree.nodes ino ≡ None → IsLaidOut (set_node s ino (new_directory mode))
  pub mode_set : (s : State) (ino mode : ℕ) (node : Node) → IsLaidOut s → mode ≤ 4095 → map.get s.tree.nodes ino ≡ Some node → IsLaidOut (set_node s ino (with_mode mode node))
  pub set_touches : (s : State) (ino : ℕ) (node : Node) → IsTouched s (set_node s ino node) (inode_touched ino)
  pub dropped : (s : State) (place ino : ℕ) → IsLaidOut s → ino ≢ root → IsClosed s.tree ino → IsLaidOut (drop_node s place ino)
  pub dropped_touches : (s : State) (place ino : ℕ) → IsLaidOut s → IsTouched s (drop_node s place ino) (drop_touched s ino)
  -- ---- the blocks that wait
  pub released : (s : State) (upto : ℕ) → IsLaidOut s → IsLaidOut (with_released s upto)
  pub released_says : (s : State) (upto : ℕ) → parsed_of (with_released s upto) ≡ parsed_of s
  -- ---- states without bytes
  pub added_plain : (s new : State) (at ino : ℕ) (name : FileName) → IsPlain s → add_name s at name ino ≡ Ok new → IsPlain new
  pub removed_plain : (s : State) (at : ℕ) (name : FileName) → IsPlain s → IsPlain (remove_name s at name)
  pub file_plain : (s : State) (ino : ℕ) (f : File) → IsPlain s → IsPlainFile f → HasNothing s.layout ino → IsPlain (set_node s ino (IsFile f))
  pub directory_plain : (s : State) (ino mode : ℕ) → IsPlain s → IsPlain (set_node s ino (new_directory mode))
  pub mode_plain : (s : State) (ino mode : ℕ) (node : Node) → IsPlain s → map.get s.tree.nodes ino ≡ Some node → IsPlain (set_node s ino (with_mode mode node))
  pub dropped_plain : (s : State) (place ino : ℕ) → IsPlain s → IsPlain (drop_node s place ino)
  pub released_plain : (s : State) (upto : ℕ) → IsPlain s → IsPlain (with_released s upto)
  -- ---- one edit after another
  pub same : (s : State) → IsTouched s s untouched
  pub next : (a b c : State) (t u : Touched) → IsTouched a b t → IsTouched b c u → IsTouched a c (joined t u)
  pub batch : (old new : State) (t : Touched) (batch : List AfterImage) → IsLaidOut old → IsLaidOut new → IsTouched old new t
      → AllByRecursion (λ e. content_at (volume new.layout) (parsed_of new) e.0 ≡ Some e.1) batch → HasTouched new t batch
      → IsBatch (volume new.layout) (parsed_of old) (parsed_of new) batch
