-- unlink, rmdir
use Rattle.std.specs.Prelude.{ℕ, Bool, not, ◌&&◌, ◌-◌, ◌==◌, nat_le, List, Ok, if◌then◌else◌}
use Rattle.std.specs.FinMap as map
use Rattle.vx_base.specs.declared.refusal.Refusal.TheVariants as no
use Rattle.vx_base.specs.declared.reply.Reply.TheVariants as say
use Rattle.vx_base.specs.Paths.{FileName}
use Rattle.vx_model.specs.Outcome.{Maybe, unless, ◌>>=◌}
use Rattle.vx_model.specs.Tree.{File, Directory, IsFile, Tree}
use Rattle.vx_model.specs.Handles.{is_open}
use Rattle.vx_model.specs.State.{State, Done}
use Rattle.vx_model.specs.Walks.{names_of, file_at, directory_at}
use Rattle.vx_model.specs.Entering.{Entry, entry_along}
use Rattle.vx_model.specs.Edits.{remove_name, set_node, drop_node}

abbrev pub fine : State → Done
fine s = record { state = s; reply = say.Fine }

-- whether a file goes with a name: it has no other, and no handle is open on it
abbrev pub is_last : Tree → ℕ → File → Bool
is_last t ino f = nat_le f.nlink 1 && not (is_open t ino)

-- a file with one name less, or gone with its last one
abbrev pub unlinked : State → ℕ → ℕ → (last : Bool) → File → State
unlinked s place ino last f = if last then drop_node s place ino else set_node s ino (IsFile (record f { nlink = f.nlink - 1 }))

abbrev pub unlink_file : State → ℕ → Entry → File → Maybe Done
unlink_file s place e f = Ok (fine (unlinked (remove_name s e.at e.name) place e.ino (is_last s.tree e.ino f) f))

abbrev pub unlink_entry : State → ℕ → Entry → Maybe Done
unlink_entry s place e = file_at s.tree.nodes e.ino >>= unlink_file s place e

abbrev pub unlink_along : State → ℕ → List FileName → Maybe Done
unlink_along s place names = entry_along s.tree.nodes no.IsDir names >>= unlink_entry s place

abbrev pub unlink : State → ℕ → List ℕ → Maybe Done
unlink s place path = names_of path >>= unlink_along s place

-- ----

abbrev pub remove_empty : State → ℕ → Entry → Directory → Maybe Done
remove_empty s place e d = unless (map.len d.entries == 0) no.NotEmpty (Ok (fine (drop_node (remove_name s e.at e.name) place e.ino)))

abbrev pub remove_directory : State → ℕ → Entry → Maybe Done
remove_directory s place e = directory_at s.tree.nodes e.ino >>= remove_empty s place e

abbrev pub rmdir_along : State → ℕ → List FileName → Maybe Done
rmdir_along s place names = entry_along s.tree.nodes no.RootFixed names >>= remove_directory s place

abbrev pub rmdir : State → ℕ → List ℕ → Maybe Done
rmdir s place path = names_of path >>= rmdir_along s place
