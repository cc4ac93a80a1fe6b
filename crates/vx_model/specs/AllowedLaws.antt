-- How what a crash may leave goes on as the history grows.
use Rattle.std.specs.Prelude.{◌≡◌, ◌⊎◌, ℕ, ◌+◌, ◌<◌, ◌≤◌, true, List, ◌++◌, length, All}
use Rattle.std.specs.List.{AllByRecursion}
use Rattle.vx_base.specs.declared.event.Event.{Event}
use Rattle.vx_base.specs.declared.event.Event.TheVariants as event
use Rattle.vx_base.specs.declared.mode.Logging.{Logging}
use Rattle.vx_model.specs.Legal.{World, at_of, after_all}
use Rattle.vx_model.specs.State.{State}
use Rattle.vx_model.specs.Replays.{ReplaysAs}
use Rattle.vx_model.specs.Allowed.{come_by, is_refusal, IsAllowed}

-- each Ret answers a Do that came before it
abbrev pub IsPlaced : ℕ → Event → Type 0
IsPlaced places (event.Ret at place answer) = place < places
IsPlaced places _ = Unit {0}

-- when the device had done m operations, the event had neither answered a call but by a refusal nor unmounted
abbrev pub IsQuiet : ℕ → Event → Type 0
IsQuiet m (event.Ret at place answer) = (m < at) ⊎ (is_refusal answer ≡ true)
IsQuiet m (event.Unmounted at) = m < at
IsQuiet m _ = Unit {0}

pub record AllowedLaws : Type 0 where
  -- what is allowed stays so by events that are quiet then
  pub later : (mode : Logging) (opening : World) (history events : List Event) (m : ℕ) (image : ℕ → List ℕ) → All (IsPlaced (length history)) history → AllByRecursion (IsQuiet m) events
      → IsAllowed mode opening history m image → IsAllowed mode opening (history ++ events) m image
  -- an image of the tree after a first part of the history is allowed, where all of that part has come and the rest is quiet
  pub front : (mode : Logging) (opening : World) (history events : List Event) (m : ℕ) (image : ℕ → List ℕ) (s : State) → All (IsPlaced (length history)) history → AllByRecursion (IsQuiet m) events
      → length history ≤ come_by history m → (after_all opening history).state ≡ s → ReplaysAs s.layout.device_sectors image s.tree → IsAllowed mode opening (history ++ events) m image
  -- the device stays the same
  pub device : (opening : World) (history : List Event) → (after_all opening history).state.layout.device_sectors ≡ opening.state.layout.device_sectors
  -- events at m or earlier have all come by then
  pub come : (history events : List Event) (m : ℕ) → AllByRecursion (λ e. at_of e ≤ m) events → come_by (history ++ events) m ≡ come_by history m + length events
  -- each Ret of a longer history answers a Do of it
  pub placed : (history events : List Event) → All (IsPlaced (length history)) history → AllByRecursion (IsPlaced (length (history ++ events))) events
      → All (IsPlaced (length (history ++ events))) (history ++ events)
