-- Images that hold a consistent state pass the image check.
use Rattle.std.specs.Prelude.{ℕ, ◌≤◌, true, false, List, take}
use Rattle.std.specs.List.{AllByRecursion}
use Rattle.vx_base.specs.declared.event.Event.{Event}
use Rattle.vx_layout.specs.Places.{sectors_of}
use Rattle.vx_layout.specs.LogForms.{LogState, ReadsAs, overlay_all}
use Rattle.vx_layout.specs.Supers.{IsSuper, volume_of}
use Rattle.vx_layout.specs.declared.superblock.Super.{Super}
use Rattle.vx_sound.specs.Sound.{IsSound}
use Rattle.vx_model.specs.State.{State, fresh_of}
use Rattle.vx_model.specs.Layout.{volume}
use Rattle.vx_model.specs.Legal.{World, opening, after_all}
use Rattle.vx_model.specs.Images.{Stands, Says}
use Rattle.vx_model.specs.Contents.{parsed_of, IsFormatted}
use Rattle.vx_wellformed.specs.WellFormed.{IsConsistent, AreNamed, IsWellFormed, HasModes}

pub record StateSound : Type 0 where
  -- an image that holds what a consistent state says is sound, whatever its files have
  pub sound : (s : State) (image : ℕ → List ℕ) → IsConsistent s → Stands (volume s.layout) (parsed_of s) image → IsSound false (volume s.layout) image
  -- it passes the strict check where each file has a name
  pub strict : (s : State) (image : ℕ → List ℕ) → IsConsistent s → AreNamed s → Stands (volume s.layout) (parsed_of s) image → IsSound true (volume s.layout) image
  -- and so is one with a log that says it, with the log's records laid over it
  pub log_sound : (n : ℕ) (s : State) (r : LogState) (image : ℕ → List ℕ) → IsConsistent s → Says (volume s.layout) (parsed_of s) r → ReadsAs n r image
      → IsSound false (volume s.layout) (λ x. overlay_all r.records x (image x))
  -- a well-formed state is consistent, and its files have names
  pub consistent : (s : State) → IsWellFormed s → IsConsistent s × AreNamed s

pub record HistorySound : Type 0 where
  -- a new image is sound
  pub formatted : (v : Super) (image : ℕ → List ℕ) → IsSuper v → IsFormatted (volume_of v) image → IsSound true (volume_of v) image
  -- whatever came in a new file system, an image that holds what it left is sound
  pub fresh : (v : Super) (limit device_sectors at : ℕ) (events : List Event) (image : ℕ → List ℕ) → IsSuper v → limit ≤ 64 → sectors_of (volume_of v) ≤ device_sectors → AllByRecursion HasModes events
      → Stands (volume_of v) (parsed_of (after_all (opening at (fresh_of v limit device_sectors)) events).state) image → IsSound true (volume_of v) image
  -- and so it is after each first part of what came in any well-formed state, as a crash may leave it
  pub part : (w : World) (events : List Event) (k : ℕ) (image : ℕ → List ℕ) → IsWellFormed w.state → AllByRecursion HasModes events
      → Stands (volume w.state.layout) (parsed_of (after_all w (take k events)).state) image → IsSound true (volume w.state.layout) image
