-- What a mount keeps in memory, with its device.
use Rattle.std.specs.Prelude.{◌≡◌, ◌≢◌, ◌<◌, ℕ, Bool, true, false, List, [], ◌∷◌, ◌++◌, None, IsSome, if◌then◌else◌}
use Rattle.vx_base.specs.declared.event.Event.{Event}
use Rattle.vx_base.specs.declared.event.Event.TheVariants as event
use Rattle.vx_dev.specs.Tape as dev
use Rattle.vx_dev.specs.Moments.{Told}
use Rattle.vx_model.specs.LaidOut.{IsPlain}
use Rattle.vx_model.specs.Legal.{World, unmounted, after_all, is_idle}
use Rattle.vx_model.specs.Touching.{untouched}
use Rattle.vx_stage.specs.Growths.{IsInUse}
use Rattle.vx_stage.specs.Kernels.{IsFit, HasRun, IsLive, present}
use Rattle.vx_stage.specs.declared.kernel.Job.TheVariants.{Left, Broken}
use Rattle.vx_stage.specs.declared.kernel.Kernel.{Kernel}
use Rattle.vx_txn.specs.Metas.{IsStateOf}
use Rattle.vx_calls.specs.declared.mount.Mount.{Mount}

-- Between two turns: the history is legal from this opening on, a crash leaves what it allows, and the metadata in memory stand for
-- the state that it leads to. This record is what every method keeps.
pub record IsAt (o : World) (d : dev.State) (m : Mount) : Type 0 where
  pub run : HasRun o d m.kernel
  pub live : Told d (IsLive o m.kernel)
  pub fit : IsFit d m.kernel
  pub meta : IsStateOf m.meta (present o m.kernel)
  pub plain : IsPlain (present o m.kernel)
  pub touched : m.touched ≡ untouched
  pub transaction : m.transaction ≡ []
  -- the mount is disabled exactly where a write or barrier failed
  pub enabled : m.disabled ≡ None → m.kernel.job ≢ Broken
  pub broken : IsSome m.disabled → m.kernel.job ≡ Broken
  -- a file system that is left is not in use
  pub left : m.kernel.job ≡ Left → (after_all o m.kernel.history.items).phase ≡ unmounted

-- there is such an opening, and from it on the mount is in use
pub record IsUsed (d : dev.State) (m : Mount) : Type 0 where
  pub opening : World
  pub at : IsAt opening d m
  pub in_use : IsInUse opening m.kernel

-- the session may begin its line of this number now
pub record MayBegin (o : World) (k : Kernel) (session line : ℕ) : Type 0 where
  pub mounted : IsInUse o k
  pub numbered : 0 < line
  pub idle : is_idle (after_all o k.history.items) session ≡ true

-- the blocks that waited were released, or none were
abbrev pub releases : Bool → (at upto : ℕ) → List Event
releases released at upto = if released then event.Release at upto ∷ [] else []

-- the history grew by a Release at most, at this moment
pub record Released (old new : List Event) (at : ℕ) : Type 0 where
  pub released : Bool
  pub upto : ℕ
  pub is : new ≡ old ++ releases released at upto

-- ... or by Unmounted, where the file system is left with it
abbrev pub LeavesOn : Bool → (old new : Kernel) (at : ℕ) → Type 0
LeavesOn false old new at = Released old.history.items new.history.items at
LeavesOn true old new at = (new.history.items ≡ old.history.items ++ event.Unmounted at ∷ []) × (new.job ≡ Left)
