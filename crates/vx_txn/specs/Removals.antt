-- Names that go.
use Rattle.std.specs.Prelude.{◌≡◌, ◌≢◌, ℕ, nat_le, Ok}
use Rattle.std.specs.FinMap as map
use Rattle.vx_base.specs.Paths.{FileName}
use Rattle.vx_model.specs.Outcome.{Maybe, ◌>>=◌}
use Rattle.vx_model.specs.Tree.{Nodes, Node, File, Directory, IsFile, IsDirectory}
use Rattle.vx_model.specs.State.{State, Done}
use Rattle.vx_model.specs.Walks.{root, directory_at, file_at}
use Rattle.vx_model.specs.Entering.{Entry, entry_at}
use Rattle.vx_model.specs.Edits.{drop_node}
use Rattle.vx_model.specs.Removing.{unlinked, unlink_entry, remove_directory}

-- the number of a file's names
abbrev pub links_of : Nodes → ℕ → Maybe ℕ
links_of nodes ino = file_at nodes ino >>= (λ (f : File). Ok f.nlink)

-- an inode with one name less: it goes with its last name, as no handle is open so far
abbrev pub unnamed : State → ℕ → ℕ → Node → State
unnamed s place ino (IsFile f) = unlinked s place ino (nat_le f.nlink 1) f
unnamed s place ino (IsDirectory d) = drop_node s place ino

abbrev pub entry_of : ℕ → FileName → ℕ → Entry
entry_of at name ino = record { at = at; name = name; ino = ino }

abbrev pub unlink_at : State → ℕ → ℕ → FileName → Maybe Done
unlink_at s place at name = entry_at s.tree.nodes name at >>= unlink_entry s place

abbrev pub rmdir_at : State → ℕ → ℕ → FileName → Maybe Done
rmdir_at s place at name = entry_at s.tree.nodes name at >>= remove_directory s place

-- the root has a name
abbrev pub IsRootUsed : Nodes → Type 0
IsRootUsed nodes = (d : Directory) → directory_at nodes root ≡ Ok d → map.len d.entries ≢ 0
