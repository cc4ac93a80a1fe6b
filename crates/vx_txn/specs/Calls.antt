-- What a call does to the metadata, and what it answers.
use Rattle.std.specs.Prelude.{◌≡◌, ◌≤◌, ℕ, max, length}
use Rattle.vx_base.specs.declared.call.Call.{Call}
use Rattle.vx_base.specs.declared.call.Call.TheVariants as call
use Rattle.vx_base.specs.declared.reply.Reply.{Reply}
use Rattle.vx_model.specs.Outcome.{Maybe}
use Rattle.vx_model.specs.State.{State, Done, settled}
use Rattle.vx_model.specs.LaidOut.{IsLaidOut, IsPlain}
use Rattle.vx_model.specs.Touching.{Touched, IsTouched}
use Rattle.vx_txn.specs.declared.meta.Meta.{Meta}
use Rattle.vx_txn.specs.Metas.{IsStateOf}

-- a mode that an inode can have
abbrev pub HasMode : Call → Type 0
HasMode (call.Create path mode) = mode ≤ 4095
HasMode (call.Mkdir path mode) = mode ≤ 4095
HasMode (call.Chmod path mode) = mode ≤ 4095
HasMode _ = Unit {0}

-- the metadata have gone from the one state to the other, and nothing but what is touched has changed
pub record HasGone (s new : State) (m : Meta) (t : Touched) : Type 0 where
  pub state : IsStateOf m new
  pub laid_out : IsLaidOut new
  pub plain : IsPlain new
  pub touched : IsTouched s new t

-- the call was done
pub record IsDone (s : State) (done : Done) (m : Meta) (t : Touched) (reply : Reply) : Type 0 where
  pub gone : HasGone s done.state m t
  pub reply_is : reply ≡ done.reply

-- the call that this chain says was done, or refused
abbrev pub IsSettled : State → Maybe Done → Meta → Touched → Reply → Type 0
IsSettled s chain m t reply = IsDone s (settled s chain) m t reply

-- the most that is touched of one kind but units
abbrev pub most : Touched → ℕ
most t = max (length t.inodes) (max (length t.blocks) (length t.maps))
