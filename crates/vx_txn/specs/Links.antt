-- Further names.
use Rattle.std.specs.Prelude.{ℕ, List}
use Rattle.vx_base.specs.Paths.{FileName}
use Rattle.vx_model.specs.Outcome.{Maybe, ◌>>=◌}
use Rattle.vx_model.specs.Tree.{File}
use Rattle.vx_model.specs.State.{State, Done}
use Rattle.vx_model.specs.Walks.{names_of, file_at}
use Rattle.vx_model.specs.Linking.{link_along, link_at}

abbrev pub link_new : State → List FileName → List ℕ → Maybe Done
link_new s old new = names_of new >>= link_along s old

-- a further name of the inode `at`
abbrev pub link_to : State → ℕ → ℕ → FileName → Maybe Done
link_to s ino at name = file_at s.tree.nodes ino >>= (λ (f : File). link_at s ino f name at)
