-- Calls on files keep a state laid out, and each file without a name open.
use Rattle.std.specs.Prelude.{◌≡◌, ◌⊎◌, ℕ, true, [], Some}
use Rattle.std.specs.FinMap as map
use Rattle.vx_base.specs.declared.call.Call.{Call}
use Rattle.vx_model.specs.Tree.{File, IsFile}
use Rattle.vx_model.specs.State.{State, Done}
use Rattle.vx_model.specs.Layout.{blocks_at}
use Rattle.vx_model.specs.LaidOut.{IsClosed, IsLaidOut}
use Rattle.vx_model.specs.Settling.{settle}
use Rattle.vx_model.specs.Step.{is_on_file, step}

-- a file without a name is open: its last close is what it goes with
pub record IsReached (s : State) : Type 0 where
  pub nameless : (n : ℕ) (f : File) → map.get s.tree.nodes n ≡ Some (IsFile f) → f.nlink ≡ 0 → IsClosed s.tree n → ⊥

pub record KeepLaws : Type 0 where
  -- each block serves one purpose, and each file and directory is one that the device can say, whatever is held of it
  pub laid_out : (s : State) (place session : ℕ) (c : Call) (done : Done) → is_on_file c ≡ true → IsLaidOut s → step s place session c ≡ Some done → IsLaidOut done.state
  pub settled_laid_out : (s : State) (place ino : ℕ) → IsLaidOut s → IsLaidOut (settle s place ino)
  pub reached : (s : State) (place session : ℕ) (c : Call) (done : Done) → is_on_file c ≡ true → IsReached s → step s place session c ≡ Some done → IsReached done.state
  pub settled_reached : (s : State) (place ino : ℕ) → IsReached s → IsReached (settle s place ino)
  -- a directory's blocks are as they were; an inode that goes has none
  pub blocks : (s : State) (place session : ℕ) (c : Call) (done : Done) → is_on_file c ≡ true → step s place session c ≡ Some done → (n : ℕ) → (blocks_at done.state.layout n ≡ blocks_at s.layout n) ⊎ (blocks_at done.state.layout n ≡ [])
  pub settled_blocks : (s : State) (place ino n : ℕ) → blocks_at (settle s place ino).layout n ≡ blocks_at s.layout n
