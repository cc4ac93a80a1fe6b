-- Names that fit the inodes of a tree.
use Rattle.std.specs.Prelude.{◌≡◌, ◌≢◌, ℕ, ◌*◌, List, IsSome, Some, Ok}
use Rattle.std.specs.FinMap as map
use Rattle.vx_base.specs.Paths.{FileName}
use Rattle.vx_model.specs.Legal.{IfThere}
use Rattle.vx_model.specs.Tree.{Nodes, File, Directory, IsFile, IsDirectory}
use Rattle.vx_model.specs.State.{State}
use Rattle.vx_model.specs.Walks.{root, walk}
use Rattle.vx_model.specs.LaidOut.{IsDirectoryNode}
use Rattle.vx_model.specs.NameLaws.{lookup, name_count}

-- names lead from the root to the inode
pub record IsReached (nodes : Nodes) (n : ℕ) : Type 0 where
  pub names : List FileName
  pub walked : walk nodes root names ≡ Ok n

-- how many names an inode has in all directories
abbrev pub names_of : State → ℕ → ℕ
names_of s n = name_count s.tree.nodes (128 * s.layout.units) n

-- Each inode has the names that it should have.
pub record NamesFit (s : State) : Type 0 where
  -- a file has as many as its link number says
  pub files : (n : ℕ) (f : File) → map.get s.tree.nodes n ≡ Some (IsFile f) → names_of s n ≡ f.nlink
  -- a directory other than the root has one
  pub directories : (n : ℕ) (d : Directory) → map.get s.tree.nodes n ≡ Some (IsDirectory d) → n ≢ root → names_of s n ≡ 1
  -- and names lead to each directory from the root
  pub reached : (n : ℕ) (d : Directory) → map.get s.tree.nodes n ≡ Some (IsDirectory d) → IsReached s.tree.nodes n
  -- each name means an inode in use
  pub in_use : (at : ℕ) (name : FileName) (n : ℕ) → lookup s.tree.nodes at name ≡ Some n → IsSome (map.get s.tree.nodes n)
  -- the root is a directory without a name
  pub root_is : IfThere (map.get s.tree.nodes root) IsDirectoryNode
  pub root_names : names_of s root ≡ 0
