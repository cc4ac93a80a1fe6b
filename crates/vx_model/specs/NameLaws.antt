-- What names mean, and what calls do to them.
use Rattle.std.specs.Prelude.{◌≡◌, ◌≢◌, ℕ, zero, suc, ◌+◌, ◌-◌, ◌*◌, ◌<◌, ◌==◌, List, [], ◌∷◌, ◌++◌, Option, Some, None, Ok, Err, if◌then◌else◌}
use Rattle.std.specs.List.{count_by}
use Rattle.std.specs.FinMap as map
use Rattle.vx_base.specs.declared.refusal.Refusal.TheVariants as no
use Rattle.vx_base.specs.Paths.{FileName, split}
use Rattle.vx_model.specs.Tree.{Tree, Nodes, Node, File, Directory, IsFile, IsDirectory}
use Rattle.vx_model.specs.State.{State}
use Rattle.vx_model.specs.Naming.{with_mode}
use Rattle.vx_model.specs.Removing.{is_last}
use Rattle.vx_model.specs.Walks.{root, walk, inode_of}

-- ---- what a name means

abbrev pub meaning_in : FileName → Option Node → Option ℕ
meaning_in name None = None
meaning_in name (Some (IsFile f)) = None
meaning_in name (Some (IsDirectory d)) = map.get d.entries name

-- the inode that a name of a directory means; none where there is no such directory or name
abbrev pub lookup : Nodes → ℕ → FileName → Option ℕ
lookup nodes at name = meaning_in name (map.get nodes at)

-- one of the two is another
abbrev pub IsOther : ℕ → FileName → ℕ → FileName → Type 0
IsOther at name q x = q ≡ at → x ≡ name → ⊥

-- the path's last component is this name, and the others lead to this directory
pub record LeadsTo (nodes : Nodes) (path : List ℕ) (at : ℕ) (name : FileName) : Type 0 where
  pub above : List FileName
  pub names : split path ≡ Some (above ++ name ∷ [])
  pub walked : walk nodes root above ≡ Ok at

-- ---- one name more, less or moved

-- a new inode has the path's name in the path's directory, and nothing else has changed
pub record IsCreated (old new : Nodes) (path : List ℕ) (node : Node) (ino : ℕ) : Type 0 where
  pub at : ℕ
  pub name : FileName
  pub directory : Directory
  pub leads : LeadsTo old path at name
  pub was : map.get old at ≡ Some (IsDirectory directory)
  pub new_name : map.get directory.entries name ≡ None
  pub unused : map.get old ino ≡ None
  pub walks : inode_of new path ≡ Ok ino
  pub node_is : map.get new ino ≡ Some node
  pub parent_is : map.get new at ≡ Some (IsDirectory (record directory { entries = map.insert directory.entries name ino }))
  pub others : (n : ℕ) → n ≢ at → n ≢ ino → map.get new n ≡ map.get old n

-- the new path leads to the old one's file, which has one name more; nothing else has changed but the new name's directory
pub record IsLinked (old new : Nodes) (from to : List ℕ) : Type 0 where
  pub ino : ℕ
  pub file : File
  pub at : ℕ
  pub name : FileName
  pub directory : Directory
  pub walked : inode_of old from ≡ Ok ino
  pub file_was : map.get old ino ≡ Some (IsFile file)
  pub leads : LeadsTo old to at name
  pub was : map.get old at ≡ Some (IsDirectory directory)
  pub new_name : map.get directory.entries name ≡ None
  pub walks : inode_of new to ≡ Ok ino
  pub file_is : map.get new ino ≡ Some (IsFile (record file { nlink = file.nlink + 1 }))
  pub parent_is : map.get new at ≡ Some (IsDirectory (record directory { entries = map.insert directory.entries name ino }))
  pub others : (n : ℕ) → n ≢ at → n ≢ ino → map.get new n ≡ map.get old n

-- the path's inode has the mode, and nothing else has changed
pub record IsModeSet (old new : Nodes) (path : List ℕ) (mode : ℕ) : Type 0 where
  pub ino : ℕ
  pub node : Node
  pub walked : inode_of old path ≡ Ok ino
  pub was : map.get old ino ≡ Some node
  pub node_is : map.get new ino ≡ Some (with_mode mode node)
  pub others : (n : ℕ) → n ≢ ino → map.get new n ≡ map.get old n

-- a node with one name less: a file that has more names, or on which a handle is open, stays, and all else goes
abbrev pub with_name_less : Tree → ℕ → Node → Option Node
with_name_less t ino (IsFile f) = if is_last t ino f then None else Some (IsFile (record f { nlink = f.nlink - 1 }))
with_name_less t ino (IsDirectory d) = None

-- if the inode was a directory, it is one still, of the same mode
abbrev pub StaysDirectory : Nodes → Nodes → ℕ → Type 0
StaysDirectory old new n = (d : Directory) → map.get old n ≡ Some (IsDirectory d) → (still : Directory) × (map.get new n ≡ Some (IsDirectory still)) × (still.mode ≡ d.mode)

-- The path's name means nothing, and each other name means what it meant. Its directory has the name less, its inode is counted
-- one name less or gone, and nothing else has changed.
pub record IsRemoved (old : Tree) (new : Nodes) (path : List ℕ) : Type 0 where
  pub at : ℕ
  pub name : FileName
  pub ino : ℕ
  pub leads : LeadsTo old.nodes path at name
  pub meant : lookup old.nodes at name ≡ Some ino
  pub directory : Directory
  pub was : map.get old.nodes at ≡ Some (IsDirectory directory)
  pub parent_is : map.get new at ≡ Some (IsDirectory (record directory { entries = map.remove directory.entries name }))
  pub node : Node
  pub node_was : map.get old.nodes ino ≡ Some node
  pub node_is : map.get new ino ≡ with_name_less old ino node
  pub nothing : inode_of new path ≡ Err no.NoEnt
  pub gone : lookup new at name ≡ None
  pub others : (q : ℕ) (x : FileName) → IsOther at name q x → lookup new q x ≡ lookup old.nodes q x
  pub nodes : (n : ℕ) → n ≢ at → n ≢ ino → map.get new n ≡ map.get old.nodes n

-- The new name means what the old one meant, the old one nothing, and each other name what it meant. Only the directories and an
-- inode that had the new name have changed: a directory is still one, of its mode, and the replaced inode is counted one name less
-- or gone.
pub record IsRenamed (old : Tree) (new : Nodes) (from to : List ℕ) : Type 0 where
  pub at : ℕ
  pub name : FileName
  pub ino : ℕ
  pub new_at : ℕ
  pub new_name : FileName
  pub leads : LeadsTo old.nodes from at name
  pub new_leads : LeadsTo old.nodes to new_at new_name
  pub meant : lookup old.nodes at name ≡ Some ino
  pub means : lookup new new_at new_name ≡ Some ino
  pub gone : lookup new at name ≡ None
  pub others : (q : ℕ) (x : FileName) → IsOther at name q x → IsOther new_at new_name q x → lookup new q x ≡ lookup old.nodes q x
  pub nodes : (n : ℕ) → n ≢ at → n ≢ new_at → lookup old.nodes new_at new_name ≢ Some n → map.get new n ≡ map.get old.nodes n
  pub directories : (n : ℕ) → lookup old.nodes new_at new_name ≢ Some n → StaysDirectory old.nodes new n
  pub replaced : (n : ℕ) (node : Node) → lookup old.nodes new_at new_name ≡ Some n → map.get old.nodes n ≡ Some node → map.get new n ≡ with_name_less old n node

-- the old path means an inode that is the new path's directory, or stands above it: some names or none lead from the one to the other
pub record GoesIntoItself (nodes : Nodes) (from to : List ℕ) : Type 0 where
  pub at : ℕ
  pub name : FileName
  pub ino : ℕ
  pub new_at : ℕ
  pub new_name : FileName
  pub parent : Directory
  pub leads : LeadsTo nodes from at name
  pub new_leads : LeadsTo nodes to new_at new_name
  pub meant : lookup nodes at name ≡ Some ino
  pub there : map.get nodes new_at ≡ Some (IsDirectory parent)
  pub way : List FileName
  pub walked : walk nodes ino way ≡ Ok new_at

-- ---- link numbers

-- how many entries of a node mean the inode
abbrev pub names_in : ℕ → Option Node → ℕ
names_in ino None = 0
names_in ino (Some (IsFile f)) = 0
names_in ino (Some (IsDirectory d)) = count_by (λ i. i == ino) (map.values d.entries)

-- how many names the inode has in the directories of numbers below n
unfoldable pub name_count : Nodes → ℕ → ℕ → ℕ
name_count nodes zero ino = 0
name_count nodes (suc n) ino = names_in ino (map.get nodes n) + name_count nodes n ino

-- how many names an inode should have: a file its link number, a directory one, the root and an unused number none
abbrev pub link_number : ℕ → Option Node → ℕ
link_number ino None = 0
link_number ino (Some (IsFile f)) = f.nlink
link_number ino (Some (IsDirectory d)) = if ino == root then 0 else 1

pub record HasLinks (s : State) : Type 0 where
  pub low : (n : ℕ) (node : Node) → map.get s.tree.nodes n ≡ Some node → n < 128 * s.layout.units
  pub links : (n : ℕ) → name_count s.tree.nodes (128 * s.layout.units) n ≡ link_number n (map.get s.tree.nodes n)

-- ---- loops

-- one name or more lead from one inode to another
pub record Reaches (nodes : Nodes) (from to : ℕ) : Type 0 where
  pub first : FileName
  pub rest : List FileName
  pub walked : walk nodes from (first ∷ rest) ≡ Ok to

-- no inode is below itself
abbrev pub HasNoLoops : Nodes → Type 0
HasNoLoops nodes = (ino : ℕ) → Reaches nodes ino ino → ⊥
