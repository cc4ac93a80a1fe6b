-- The edits that calls are made of: a name more or less in a directory, and an inode's node.
use Rattle.std.specs.Prelude.{ℕ, Ok, Err}
use Rattle.std.specs.FinMap as map
use Rattle.vx_base.specs.Paths.{FileName}
use Rattle.vx_model.specs.Outcome.{Maybe, ◌>>=◌}
use Rattle.vx_model.specs.Tree.{Tree, Nodes, Node, Directory, IsDirectory}
use Rattle.vx_model.specs.Layout.{add_entry, remove_entry, freed}
use Rattle.vx_model.specs.State.{State}
use Rattle.vx_model.specs.Walks.{directory_at}

abbrev pub with_nodes : Tree → Nodes → Tree
with_nodes t nodes = record t { nodes = nodes }

-- the directory with one more name
abbrev pub with_name : Directory → FileName → ℕ → Node
with_name d name ino = IsDirectory (record d { entries = map.insert d.entries name ino })

-- the directory without the name
abbrev pub without_name : Directory → FileName → Node
without_name d name = IsDirectory (record d { entries = map.remove d.entries name })

-- ---- a name more

-- with a name of the directory `at`, or why there is no place for it
abbrev pub add_name_in : State → ℕ → FileName → ℕ → Directory → Maybe State
add_name_in s at name ino d =
    add_entry s.layout s.tree.tunables.initial_extent_size at (record { ino = ino; name = name }) >>= (λ layout.
    Ok (record { tree = with_nodes s.tree (map.insert s.tree.nodes at (with_name d name ino)); layout = layout }))

abbrev pub add_name : State → ℕ → FileName → ℕ → Maybe State
add_name s at name ino = directory_at s.tree.nodes at >>= add_name_in s at name ino

-- ---- a name less

abbrev pub remove_name_in : State → ℕ → FileName → Maybe Directory → State
remove_name_in s at name (Err why) = s
remove_name_in s at name (Ok d) = record { tree = with_nodes s.tree (map.insert s.tree.nodes at (without_name d name)); layout = remove_entry s.layout at name }

abbrev pub remove_name : State → ℕ → FileName → State
remove_name s at name = remove_name_in s at name (directory_at s.tree.nodes at)

-- ---- an inode

abbrev pub set_node : State → ℕ → Node → State
set_node s ino node = record s { tree = with_nodes s.tree (map.insert s.tree.nodes ino node) }

-- an inode goes; its blocks wait, freed by the event at this place
abbrev pub drop_node : State → ℕ → ℕ → State
drop_node s place ino = record { tree = with_nodes s.tree (map.remove s.tree.nodes ino); layout = freed s.layout place ino }
