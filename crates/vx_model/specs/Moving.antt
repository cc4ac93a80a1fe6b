-- rename
use Rattle.std.specs.Prelude.{ℕ, Bool, true, false, not, ◌&&◌, ◌==◌, List, [], ◌∷◌, Option, Some, None, Ok, if◌then◌else◌}
use Rattle.std.specs.Str.{bytes_eq}
use Rattle.std.specs.FinMap as map
use Rattle.vx_base.specs.declared.refusal.Refusal.TheVariants as no
use Rattle.vx_base.specs.Paths.{FileName}
use Rattle.vx_model.specs.Outcome.{Maybe, unless, ◌>>=◌, need}
use Rattle.vx_model.specs.Tree.{Node, File, Directory, IsFile, IsDirectory}
use Rattle.vx_model.specs.State.{State, Done}
use Rattle.vx_model.specs.Paths.{PathEnd, path_end}
use Rattle.vx_model.specs.Walks.{root, walk, names_of, node_at, file_at, directory_at}
use Rattle.vx_model.specs.Entering.{Entry, entry_end}
use Rattle.vx_model.specs.Edits.{add_name, remove_name, drop_node}
use Rattle.vx_model.specs.Removing.{fine, is_last, unlinked}

-- the names begin with these
abbrev pub begins_with : List FileName → List FileName → Bool
begins_with [] names = true
begins_with (first ∷ rest) [] = false
begins_with (first ∷ rest) (name ∷ names) = bytes_eq first name && begins_with rest names

-- the names begin with these, and go on
abbrev pub is_below : List FileName → List FileName → Bool
is_below above names = begins_with above names && not (begins_with names above)

abbrev pub is_directory : Node → Bool
is_directory (IsDirectory d) = true
is_directory (IsFile f) = false

-- what a rename moves: an entry, what it means, and where it goes
pub record Move : Type 0 where
  pub from : Entry
  pub node : Node
  pub to : ℕ
  pub name : FileName

-- the entry goes, and the one in its new place, before the entry is added there
abbrev pub enter : State → Move → Maybe Done
enter s m = add_name s m.to m.name m.from.ino >>= (λ moved. Ok (fine moved))

abbrev pub cleared : State → Move → State
cleared s m = remove_name (remove_name s m.from.at m.from.name) m.to m.name

abbrev pub replace_directory : State → ℕ → Move → ℕ → Directory → Maybe Done
replace_directory s place m target d = unless (map.len d.entries == 0) no.NotEmpty (enter (drop_node (cleared s m) place target) m)

abbrev pub replace_file : State → ℕ → Move → ℕ → File → Maybe Done
replace_file s place m target f = enter (unlinked (cleared s m) place target (is_last s.tree target f) f) m

-- a directory replaces an empty directory, and a file a file
abbrev pub replace_by : State → ℕ → Move → ℕ → Node → Maybe Done
replace_by s place m target (IsDirectory d) = directory_at s.tree.nodes target >>= replace_directory s place m target
replace_by s place m target (IsFile f) = file_at s.tree.nodes target >>= replace_file s place m target

-- the entry that stands in the new place decides; where it means the same inode, nothing changes
abbrev pub move_onto : State → ℕ → Move → Option ℕ → Maybe Done
move_onto s place m None = enter (remove_name s m.from.at m.from.name) m
move_onto s place m (Some target) = if target == m.from.ino then Ok (fine s) else replace_by s place m target m.node

abbrev pub move_into : State → ℕ → Move → Directory → Maybe Done
move_into s place m d = move_onto s place m (map.get d.entries m.name)

-- a directory does not go below itself
abbrev pub move_node : State → ℕ → Bool → Entry → ℕ → FileName → Directory → Node → Maybe Done
move_node s place below from to name d node =
    unless (not (is_directory node && below)) no.IntoItself (move_into s place (record { from = from; node = node; to = to; name = name }) d)

abbrev pub move_to : State → ℕ → Bool → Entry → FileName → ℕ → Maybe Done
move_to s place below from name to =
    directory_at s.tree.nodes to >>= (λ d. node_at s.tree.nodes from.ino >>= move_node s place below from to name d)

abbrev pub move_entry : State → ℕ → Bool → PathEnd → Entry → Maybe Done
move_entry s place below new from = walk s.tree.nodes root new.above >>= move_to s place below from new.name

abbrev pub move_ends : State → ℕ → Bool → PathEnd → PathEnd → Maybe Done
move_ends s place below old new = entry_end s.tree.nodes old >>= move_entry s place below new

abbrev pub rename_along : State → ℕ → List FileName → List FileName → Maybe Done
rename_along s place old new =
    need (path_end old) no.RootFixed >>= (λ from. need (path_end new) no.RootFixed >>= move_ends s place (is_below old new) from)

abbrev pub rename : State → ℕ → List ℕ → List ℕ → Maybe Done
rename s place old new = names_of old >>= (λ from. names_of new >>= rename_along s place from)
