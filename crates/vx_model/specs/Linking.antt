-- link
use Rattle.std.specs.Prelude.{ℕ, ◌+◌, nat_lt, List, is_none, Ok}
use Rattle.std.specs.FinMap as map
use Rattle.vx_base.specs.declared.refusal.Refusal.TheVariants as no
use Rattle.vx_base.specs.Paths.{FileName}
use Rattle.vx_model.specs.Outcome.{Maybe, unless, ◌>>=◌, need}
use Rattle.vx_model.specs.Tree.{File, Directory, IsFile}
use Rattle.vx_model.specs.State.{State, Done}
use Rattle.vx_model.specs.Paths.{PathEnd, path_end}
use Rattle.vx_model.specs.Walks.{root, walk, names_of, file_at, directory_at}
use Rattle.vx_model.specs.Edits.{add_name, set_node}
use Rattle.vx_model.specs.Removing.{fine}

-- the most names that an inode may have
abbrev pub most_links : ℕ
most_links = 32767

abbrev pub link_in : State → ℕ → File → ℕ → FileName → Directory → Maybe Done
link_in s ino f at name d =
    unless (is_none (map.get d.entries name)) no.Exist (
    unless (nat_lt f.nlink most_links) (no.TooManyLinks f.nlink) (
    add_name s at name ino >>= (λ named.
    Ok (fine (set_node named ino (IsFile (record f { nlink = f.nlink + 1 })))))))

abbrev pub link_at : State → ℕ → File → FileName → ℕ → Maybe Done
link_at s ino f name at = directory_at s.tree.nodes at >>= link_in s ino f at name

abbrev pub link_end : State → ℕ → File → PathEnd → Maybe Done
link_end s ino f end = walk s.tree.nodes root end.above >>= link_at s ino f end.name

-- a further name, at the end of these names, for a file
abbrev pub link_file : State → List FileName → ℕ → File → Maybe Done
link_file s new ino f = need (path_end new) no.Exist >>= link_end s ino f

abbrev pub link_inode : State → List FileName → ℕ → Maybe Done
link_inode s new ino = file_at s.tree.nodes ino >>= link_file s new ino

abbrev pub link_along : State → List FileName → List FileName → Maybe Done
link_along s old new = walk s.tree.nodes root old >>= link_inode s new

abbrev pub link : State → List ℕ → List ℕ → Maybe Done
link s old new = names_of old >>= (λ from. names_of new >>= link_along s from)
