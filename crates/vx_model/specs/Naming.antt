-- list, stat, chmod
use Rattle.std.specs.Prelude.{ℕ, List, length, Ok}
use Rattle.std.specs.FinMap as map
use Rattle.vx_base.specs.declared.reply.Reply.{Reply}
use Rattle.vx_base.specs.declared.reply.Reply.TheVariants as say
use Rattle.vx_base.specs.Paths.{FileName}
use Rattle.vx_model.specs.Outcome.{Maybe, ◌>>=◌}
use Rattle.vx_model.specs.Tree.{Node, IsFile, IsDirectory}
use Rattle.vx_model.specs.State.{State, Done}
use Rattle.vx_model.specs.Walks.{root, walk, names_of, node_at, directory_at}
use Rattle.vx_model.specs.Edits.{set_node}
use Rattle.vx_model.specs.Removing.{fine}

abbrev pub list_at : State → ℕ → Maybe Done
list_at s ino = directory_at s.tree.nodes ino >>= (λ d. Ok (record { state = s; reply = say.Listing (map.keys d.entries) }))

-- the names of the directory at the end of these names
abbrev pub list_along : State → List FileName → Maybe Done
list_along s names = walk s.tree.nodes root names >>= list_at s

abbrev pub list : State → List ℕ → Maybe Done
list s path = names_of path >>= list_along s

-- ----

abbrev pub stat_reply : ℕ → Node → Reply
stat_reply ino (IsFile f) = say.FileStat ino f.mode f.nlink (length f.bytes)
stat_reply ino (IsDirectory d) = say.DirStat ino d.mode (map.len d.entries)

abbrev pub stat_at : State → ℕ → Maybe Done
stat_at s ino = node_at s.tree.nodes ino >>= (λ node. Ok (record { state = s; reply = stat_reply ino node }))

abbrev pub stat_along : State → List FileName → Maybe Done
stat_along s names = walk s.tree.nodes root names >>= stat_at s

abbrev pub stat : State → List ℕ → Maybe Done
stat s path = names_of path >>= stat_along s

-- ----

abbrev pub with_mode : ℕ → Node → Node
with_mode mode (IsFile f) = IsFile (record f { mode = mode })
with_mode mode (IsDirectory d) = IsDirectory (record d { mode = mode })

abbrev pub chmod_at : State → ℕ → ℕ → Maybe Done
chmod_at s mode ino = node_at s.tree.nodes ino >>= (λ node. Ok (fine (set_node s ino (with_mode mode node))))

abbrev pub chmod_along : State → ℕ → List FileName → Maybe Done
chmod_along s mode names = walk s.tree.nodes root names >>= chmod_at s mode

abbrev pub chmod : State → List ℕ → ℕ → Maybe Done
chmod s path mode = names_of path >>= chmod_along s mode
