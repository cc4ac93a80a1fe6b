-- A mount with its device, as a core sees it.
use Rattle.std.specs.Prelude.{◌≡◌, ◌-◌, ◌≤◌, ◌<◌, ◌^◌, ℕ, Bool, true, false, [], length, vec_capacity, None, IsNone}
use Rattle.vx_base.specs.declared.call.Call.{Call}
use Rattle.vx_dev.specs.Moments.{Told}
use Rattle.vx_dev.specs.Tape as dev
use Rattle.vx_model.specs.LaidOut.{IsPlain}
use Rattle.vx_model.specs.Legal.{World, unmounted, after_all}
use Rattle.vx_model.specs.Step.{is_of_names}
use Rattle.vx_txn.specs.Calls.{HasMode}
use Rattle.vx_txn.specs.Metas.{IsStateOf}
use Rattle.vx_txn.specs.declared.meta.Meta.{Meta}
use Rattle.vx_stage.specs.Kernels.{IsFit, HasRun, IsLive}
use Rattle.vx_stage.specs.declared.kernel.Kernel.{Kernel}
use Rattle.vx_stage.specs.declared.kernel.Job.{Job}
use Rattle.vx_stage.specs.declared.kernel.Job.TheVariants.{Idle, Leave, LeaveOut, Left}
use Rattle.vx_calls.specs.declared.mount.Mount.{Mount}
use Rattle.vx_calls.specs.Mounts.{IsAt}
use Rattle.vx_calls.specs.Potentials.{promised}
use Rattle.vx_core.specs.Facts.{IsBegun}
use Rattle.vx_core.specs.Mounts.{MountView}

abbrev pub is_leaving : Job → Bool
is_leaving Leave = true
is_leaving LeaveOut = true
is_leaving _ = false

-- with a history of at most so many events
abbrev pub view_of : (room : ℕ) → Mount → dev.State → MountView
view_of room m d = record {
  history = m.kernel.history.items;
  count = d.count;
  write_faults = d.write_faults;
  disabled = m.disabled;
  logging = m.kernel.logging;
  committed = m.kernel.committed;
  leaving = is_leaving m.kernel.job;
  spare = room - promised m;
}

-- the file system was left, and the history says so
pub record IsLeftWhole (m : Mount) : Type 0 where
  pub job : m.kernel.job ≡ Left
  pub committed : m.kernel.committed ≡ length m.kernel.history.items

-- what each method keeps: what the mount does, and room for what is promised
pub record Keeps (o : World) (room : ℕ) (m : Mount) (d : dev.State) : Type 0 where
  pub at : IsAt o d m
  pub few : promised m ≤ room
  pub capacity : room ≤ vec_capacity m.kernel.history
  pub small : room < 2 ^ 32
  -- the device's operations when the history began
  pub first : m.kernel.first ≡ o.at
  pub left : (after_all o m.kernel.history.items).phase ≡ unmounted → IsLeftWhole m

-- calls that can be done
abbrev pub IsBuilt : Call → Type 0
IsBuilt c = (is_of_names c ≡ true) × HasMode c

-- ---- where the turns begin

-- nothing is under way
pub record IsNewKernel (k : Kernel) : Type 0 where
  pub job : k.job ≡ Idle
  pub history : k.history.items ≡ []
  pub gathered : k.gathered ≡ []
  pub homes : k.homes ≡ []
  pub closing : IsNone k.log.closing

-- a kernel and metadata whose history begins in this world
pub record BeginsIn (o : World) (k : Kernel) (m : Meta) (d : dev.State) : Type 0 where
  pub begun : IsBegun o
  pub run : HasRun o d k
  pub live : Told d (IsLive o k)
  pub fit : IsFit d k
  pub meta : IsStateOf m o.state
  pub plain : IsPlain o.state
  pub nothing_waits : (b : ℕ) → o.state.layout.pending b ≡ None
  pub first : k.first ≡ o.at

-- ... in some world
pub record CanBegin (k : Kernel) (m : Meta) (d : dev.State) : Type 0 where
  pub world : World
  pub begins : BeginsIn world k m d
