-- Entries that move.
use Rattle.std.specs.Prelude.{◌≡◌, ℕ, Bool, ◌==◌, List, Ok, Option, Some, None}
use Rattle.std.specs.FinMap as map
use Rattle.vx_base.specs.declared.kind.FileKind.{FileKind}
use Rattle.vx_base.specs.declared.kind.FileKind.TheVariants as kind
use Rattle.vx_base.specs.declared.refusal.Refusal.TheVariants as no
use Rattle.vx_base.specs.Paths.{FileName}
use Rattle.vx_model.specs.Outcome.{Maybe, unless, need, ◌>>=◌}
use Rattle.vx_dir.specs.Directories.{Directory}
use Rattle.vx_model.specs.Tree as tree
use Rattle.vx_model.specs.Tree.{Nodes, Node, File, IsFile, IsDirectory}
use Rattle.vx_model.specs.State.{State, Done}
use Rattle.vx_model.specs.Paths.{PathEnd, path_end}
use Rattle.vx_model.specs.Walks.{names_of, directory_at, file_at}
use Rattle.vx_model.specs.Entering.{Entry}
use Rattle.vx_model.specs.Moving as moving
use Rattle.vx_txn.specs.declared.rename.Source.{Source}
use Rattle.vx_txn.specs.declared.rename.Move.{Move}
use Rattle.vx_txn.specs.Directories.{DirectoryValue}
use Rattle.vx_txn.specs.Removals.{entry_of, unnamed}

-- the directory has these names
abbrev pub IsNamesOf : Option DirectoryValue → Directory → Type 0
IsNamesOf None names = ⊥
IsNamesOf (Some d) names = names ≡ d.names

abbrev pub rename_new : State → ℕ → List FileName → List ℕ → Maybe Done
rename_new s place old new = names_of new >>= moving.rename_along s place old

abbrev pub entry : Source → Entry
entry source = entry_of source.at source.name.now source.ino

abbrev pub move_of : Move → Node → moving.Move
move_of m node = record { from = entry m.from; node = node; to = m.to; name = m.name.now }

-- the entry goes to the end of these names
abbrev pub move_along : State → ℕ → Bool → List FileName → Entry → Maybe Done
move_along s place below new from = need (path_end new) no.RootFixed >>= (λ (end : PathEnd). moving.move_entry s place below end from)

abbrev pub kind_of : Node → FileKind
kind_of (IsFile f) = kind.File
kind_of (IsDirectory d) = kind.Directory

-- whether an inode of this kind may stand in the place of another, or why not
abbrev pub replaceable : Nodes → FileKind → ℕ → Maybe (Unit {0})
replaceable nodes kind.File target = file_at nodes target >>= (λ (f : File). Ok tt)
replaceable nodes kind.Directory target = directory_at nodes target >>= (λ (d : tree.Directory). unless (map.len d.entries == 0) no.NotEmpty (Ok tt))

-- the entry in the place of another, which meant an inode of this node
abbrev pub put_over : State → ℕ → moving.Move → ℕ → Node → Maybe Done
put_over s place m target node = moving.enter (unnamed (moving.cleared s m) place target node) m
